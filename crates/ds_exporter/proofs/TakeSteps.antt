-- A process that takes a message from a mailbox of its host.
use Rattle.std.proofs.Common.{◌≡◌, ℕ, zero, suc, ◌+◌, ◌<◌, List, [], ◌∷◌, Option, Some, None, length, map, slice_get, option_map, refl, sym, ap, ◌∙◌, subst, arith}
use Rattle.std.specs.Prelude.{All}
use Rattle.std.proofs.lemmas.List.{map-append}
use Rattle.std.proofs.lemmas.List.Elements.{All-append}
use Rattle.std.proofs.lemmas.Option.{slice_get-map}
use Rattle.ds_label.specs.declared.category.PubKey.{PubKey}
use Rattle.ds_label.specs.declared.category.Category.{Category}
use Rattle.ds_script.specs.declared.actor.Actor.{Actor}
use Rattle.ds_script.specs.declared.usable.Usable.{Usable}
use Rattle.ds_script.proofs.Replays.{last_of-push}
use Rattle.ds_msg.specs.declared.local.LocalMessage.{LocalMessage}
use Rattle.ds_model.specs.Lists.{at}
use Rattle.ds_model.specs.Mailbox.{TookOut, box_after, oldest, took, took_with}
use Rattle.ds_model.specs.World.{Mail, Mailbox}
use Rattle.ds_model.specs.ProcessStep.{TakeFrom, taken_after_reply}
use Rattle.ds_model.specs.Step.{oldest_in}
use Rattle.ds_model.specs.Access.{InBox, NoAccess, take_access, take_access_in}
use Rattle.ds_model.proofs.Places.{at_still}
use Rattle.ds_map.specs.Table.{IsTable}
use Rattle.ds_box.specs.Boxes.{entry_of, stamp_of}
use Rattle.ds_exporter.specs.HostStates.{HostBox, HostProcess, HostState}
use Rattle.ds_exporter.specs.PlainHosts.{host_of, plain_box, plain_entry, plain_mail, plain_process}
use Rattle.ds_exporter.specs.Conditions.{IsBoxNamed, IsEntryNamed, IsFit, IsMailNamed, IsNumbered, IsProcNamed}
use Rattle.ds_exporter.specs.Stamping.{IsBefore, IsBoxBefore, IsUpTo}
use Rattle.ds_exporter.specs.Entering.{Enters, step_access}
use Rattle.ds_exporter.specs.Stepping.{Asks, IsFree, IsStepped, always, next_host, proc_actor}
use Rattle.ds_exporter.specs.Taking.{TakesSo, taken_box, took_proc}
use Rattle.ds_exporter.proofs.Entering.{enters_beside, enters_box, enters_by}
use Rattle.ds_exporter.proofs.Places.{all_get, map_over_at, some_is, there_is}
use Rattle.ds_exporter.proofs.BoxPuts.{Keeps, below_box, fits_box, plan_box, with_box}
use Rattle.ds_exporter.proofs.OneProc.{with_proc, fits_proc}
use Rattle.ds_exporter.proofs.OneStep.{becomes, host_by, moved_on, no_hand_more, performs, site_proc, touches}

-- THE MAILBOX

after_took : {A B : Type 0} (f : A → B) (waiting : List A) → map f (box_after TookOut waiting) ≡ box_after TookOut (map f waiting)
after_took f [] = refl
after_took f (m ∷ waiting) = refl

all_took : {A : Type 0} (P : A → Type 0) (waiting : List A) → All P waiting → All P (box_after TookOut waiting)
all_took P [] all = all
all_took P (m ∷ waiting) all = λ k d within. all (suc k) d (omega (arith, within))

one : {X : Type 0} (P : X → Type 0) (x : X) → P x → All P (x ∷ [])
one P x p zero d w = p
one P x p (suc k) d w = absurd (omega (arith, w))

module _ (here : PubKey) (rows : List Category) (stamp : ℕ) (who : Actor) (b : HostBox) where
  pub keeps_taken : Keeps here rows b (taken_box stamp who b)
  keeps_taken = record {
    slot = refl;
    owner = refl;
    named = λ is. record {
      label = is.label;
      waiting = all_took (IsMailNamed here rows) b.mailbox.waiting is.waiting;
      opening = is.opening;
      history = All-append (IsEntryNamed here rows) b.mailbox.history (entry_of stamp who TookOut ∷ []) is.history (one (IsEntryNamed here rows) (entry_of stamp who TookOut) tt);
    };
  }

  last_taken : IsBoxBefore (stamp + 1) (taken_box stamp who b)
  last_taken = subst (λ (n : ℕ). n < stamp + 1) (sym (last_of-push stamp_of b.mailbox.before b.mailbox.history (entry_of stamp who TookOut))) (omega arith)

  oldest_is : (m : LocalMessage) → slice_get b.mailbox.waiting 0 ≡ Some m → oldest (plain_box here rows b) ≡ Some (plain_mail here rows m)
  oldest_is m first = slice_get-map (plain_mail here rows) b.mailbox.waiting 0 ∙ ap (option_map (plain_mail here rows)) first

  pub plain_taken : (m : LocalMessage) → slice_get b.mailbox.waiting 0 ≡ Some m → plain_box here rows (taken_box stamp who b) ≡ took (plain_box here rows b)
  plain_taken m first =
      (λ i. record {
        waiting = after_took (plain_mail here rows) b.mailbox.waiting i;
        entries = map-append (plain_entry here rows) b.mailbox.history (entry_of stamp who TookOut ∷ []) i;
      })
      ∙ ap (took_with (plain_box here rows b)) (sym (oldest_is m first))

-- what waits longest in the mailbox at a place, by names
module _ (e : HostState) (i : ℕ) (b : HostBox) (stands : slice_get e.boxes i ≡ Some b) where
  box_here : slice_get (host_of e).boxes i ≡ Some (plain_box e.desk.here e.desk.desk.rows b)
  box_here = slice_get-map (plain_box e.desk.here e.desk.desk.rows) e.boxes i ∙ ap (option_map (plain_box e.desk.here e.desk.desk.rows)) stands

  pub oldest_here : (m : LocalMessage) → slice_get b.mailbox.waiting 0 ≡ Some m → oldest_in (slice_get (host_of e).boxes i) ≡ Some (plain_mail e.desk.here e.desk.desk.rows m)
  oldest_here m first = ap oldest_in box_here ∙ slice_get-map (plain_mail e.desk.here e.desk.desk.rows) b.mailbox.waiting 0 ∙ ap (option_map (plain_mail e.desk.here e.desk.desk.rows)) first

  pub none_here : b.mailbox.waiting ≡ [] → oldest_in (slice_get (host_of e).boxes i) ≡ None
  none_here none = ap oldest_in box_here ∙ ap (λ (waiting : List LocalMessage). slice_get (map (plain_mail e.desk.here e.desk.desk.rows) waiting) 0) none

pub none_taken : (here : PubKey) (rows : List Category) (b : HostBox) → b.mailbox.waiting ≡ [] → took (plain_box here rows b) ≡ plain_box here rows b
none_taken here rows b none = ap (λ (waiting : List LocalMessage). took_with (plain_box here rows b) (slice_get (map (plain_mail here rows) waiting) 0)) none

-- NOTHING WAITS

none_touched : (e : HostState) (p i reg slot : ℕ) → i < length e.boxes → Asks p e (always (TakeFrom i reg slot)) → ((b : HostBox) → slice_get e.boxes i ≡ Some b → b.mailbox.waiting ≡ [])
    → (x : HostProcess) → slice_get e.procs p ≡ Some x → step_access p e ≡ NoAccess
none_touched e p i reg slot inside asks empty x h = there_is (step_access p e ≡ NoAccess) e.boxes i inside (λ b k.
    touches e p x h (always (TakeFrom i reg slot)) asks
    ∙ (ap (take_access_in i) (box_here e i b k)
    ∙ ap (λ (waiting : List LocalMessage). take_access i (slice_get (map (plain_mail e.desk.here e.desk.desk.rows) waiting) 0)) (empty b k)))

pub still_take : (e : HostState) (p i reg slot : ℕ) → p < length e.procs → i < length e.boxes → Asks p e (always (TakeFrom i reg slot))
    → ((b : HostBox) → slice_get e.boxes i ≡ Some b → b.mailbox.waiting ≡ []) → (host_of e ≡ next_host p e) × (step_access p e ≡ NoAccess)
still_take e p i reg slot within inside asks empty = there_is ((host_of e ≡ next_host p e) × (step_access p e ≡ NoAccess)) e.procs p within (λ x h. (
  there_is (host_of e ≡ next_host p e) e.boxes i inside (λ b k.
      let told = ap (λ (o : Option (Mail Category)). at p (taken_after_reply reg slot o) (host_of e).procs) (none_here e i b k (empty b k)) in
      let procs : at p (taken_after_reply reg slot (oldest_in (slice_get (host_of e).boxes i))) (host_of e).procs ≡ (host_of e).procs = told ∙ at_still p (taken_after_reply reg slot None) (host_of e).procs (λ y there. refl) in
      let boxes : at i took (host_of e).boxes ≡ (host_of e).boxes = at_still i took (host_of e).boxes (λ y there.
      let same : plain_box e.desk.here e.desk.desk.rows b ≡ y = some_is (plain_box e.desk.here e.desk.desk.rows b) y (sym (box_here e i b k) ∙ there) in
      subst (λ (z : Mailbox). took z ≡ z) same (none_taken e.desk.here e.desk.desk.rows b (empty b k))) in
      sym (performs e p x h (always (TakeFrom i reg slot)) asks ∙ λ j. record (host_of e) { procs = procs j; boxes = boxes j })),
  none_touched e p i reg slot inside asks empty x h,
))

-- A MESSAGE WAITS

module _ (e : HostState) (p i stamp reg slot : ℕ) (who : Actor) (m : LocalMessage) (within : p < length e.procs) (inside : i < length e.boxes) (free : IsFree p e) (table : IsTable e.desk.here e.desk.desk.rows) (fit : IsFit e)
    (first : (b : HostBox) → slice_get e.boxes i ≡ Some b → slice_get b.mailbox.waiting 0 ≡ Some m) (takes : (x : HostProcess) → slice_get e.procs p ≡ Some x → TakesSo reg slot m x) where
  -- it is taken out of the mailbox
  abbrev pub with_taken : HostState
  with_taken = with_box i (taken_box stamp who) e

  -- and in the process's register
  abbrev pub taken : HostState
  taken = with_proc p (took_proc reg slot m) with_taken

  mail_named : IsMailNamed e.desk.here e.desk.desk.rows m
  mail_named = there_is (IsMailNamed e.desk.here e.desk.desk.rows m) e.boxes i inside
      (λ b h. all_get (IsMailNamed e.desk.here e.desk.desk.rows) b.mailbox.waiting 0 m (all_get (IsBoxNamed e.desk.here e.desk.desk.rows) e.boxes i b fit.named_boxes h).waiting (first b h))

  pub fits_taken : IsFit taken
  fits_taken = fits_proc with_taken p (took_proc reg slot m) (fits_box e i (taken_box stamp who) (λ b h. keeps_taken e.desk.here e.desk.desk.rows stamp who b) fit)
      (λ x h. record {
        script = (takes x h).moved.script;
        named = λ n. (takes x h).labels e.desk.here e.desk.desk.rows n mail_named;
        numbered = λ n. subst (λ (names : List Usable). All (IsNumbered e.desk.here e.desk.desk.rows) names) (sym (takes x h).names) n;
        hand = λ l. l;
        going = λ g. no_hand_more x.hand (took_proc reg slot m x).process.course.place (length (took_proc reg slot m x).process.script) (free x h).0;
      })

  below_taken : IsBefore stamp e → IsUpTo stamp taken
  below_taken b =
      let more = below_box stamp e i (taken_box stamp who) (λ x h is. last_taken e.desk.here e.desk.desk.rows stamp who x) b in
      record { desk = more.desk; boxes = more.boxes; lanes = more.lanes; inlets = more.inlets }

  boxes_taken : map (plain_box e.desk.here e.desk.desk.rows) (at i (taken_box stamp who) e.boxes) ≡ at i took (host_of e).boxes
  boxes_taken = map_over_at (plain_box e.desk.here e.desk.desk.rows) i (taken_box stamp who) took e.boxes (λ b h. plain_taken e.desk.here e.desk.desk.rows stamp who b m (first b h))

  proc_taken : (x : HostProcess) → slice_get e.procs p ≡ Some x
      → plain_process e.desk.here e.desk.desk.rows (took_proc reg slot m x) ≡ taken_after_reply reg slot (oldest_in (slice_get (host_of e).boxes i)) (plain_process e.desk.here e.desk.desk.rows x)
  proc_taken x h = there_is (plain_process e.desk.here e.desk.desk.rows (took_proc reg slot m x) ≡ taken_after_reply reg slot (oldest_in (slice_get (host_of e).boxes i)) (plain_process e.desk.here e.desk.desk.rows x)) e.boxes i inside
      (λ b k. (takes x h).becomes e.desk.here e.desk.desk.rows table (all_get (IsProcNamed e.desk.here e.desk.desk.rows) e.procs p x fit.named_procs h) mail_named
      ∙ ap (λ (o : Option (Mail Category)). taken_after_reply reg slot o (plain_process e.desk.here e.desk.desk.rows x)) (sym (oldest_here e i b k m (first b k))))

  touched : Asks p e (always (TakeFrom i reg slot)) → (x : HostProcess) → slice_get e.procs p ≡ Some x → step_access p e ≡ InBox i TookOut
  touched asks x h = there_is (step_access p e ≡ InBox i TookOut) e.boxes i inside (λ b k.
      touches e p x h (always (TakeFrom i reg slot)) asks
      ∙ (ap (take_access_in i) (box_here e i b k) ∙ ap (take_access i) (oldest_is e.desk.here e.desk.desk.rows stamp who b m (first b k))))

  entered_taken : who ≡ proc_actor e.host p → Asks p e (always (TakeFrom i reg slot)) → (x : HostProcess) → slice_get e.procs p ≡ Some x → Enters stamp (proc_actor e.host p) (step_access p e) e taken
  entered_taken is asks x h =
      subst (λ (a : Actor). Enters stamp a (step_access p e) e taken) is
      (enters_by stamp who (step_access p e) (InBox i TookOut) e taken (touched asks x h)
      (enters_beside stamp who (InBox i TookOut) e with_taken (at p (took_proc reg slot m) e.procs) e.conns
      (enters_box stamp who e i TookOut (taken_box stamp who) (λ b k. (entry_of stamp who TookOut, refl, (refl, refl), refl)))))

  pub stepped_take : who ≡ proc_actor e.host p → Asks p e (always (TakeFrom i reg slot)) → IsBefore stamp e → IsStepped stamp p e taken
  stepped_take acts asks below = there_is (IsStepped stamp p e taken) e.procs p within (λ x h. record {
    host = host_by with_taken p (took_proc reg slot m) (taken_after_reply reg slot (oldest_in (slice_get (host_of e).boxes i))) proc_taken
        ∙ (ap (λ (boxes : List Mailbox). record (host_of e) { procs = at p (taken_after_reply reg slot (oldest_in (slice_get (host_of e).boxes i))) (host_of e).procs; boxes = boxes }) boxes_taken
        ∙ sym (performs e p x h (always (TakeFrom i reg slot)) asks));
    changed = moved_on e taken p x (took_proc reg slot m x) h (becomes e p x h (took_proc reg slot m)) (takes x h).moved.place;
    site = site_proc with_taken p (took_proc reg slot m) ∙ plan_box e i (taken_box stamp who) (λ b k. refl);
    conns = refl;
    named = λ link place. refl;
    stamps = below_taken below;
    entered = entered_taken acts asks x h;
  })
