-- A change of one mailbox, and a message that comes to it.
use Rattle.std.proofs.Common.{◌≡◌, ℕ, zero, suc, ◌+◌, ◌<◌, Bool, true, false, List, [], ◌∷◌, Option, Some, None, length, map, slice_get, option_map, refl, sym, ap, ◌∙◌, subst, arith}
use Rattle.std.specs.Prelude.{◌≢◌, All, nat_lt, if◌then◌else◌}
use Rattle.std.proofs.lemmas.List.{length-map, map-append}
use Rattle.std.proofs.lemmas.List.Elements.{All-append}
use Rattle.std.proofs.lemmas.Option.{slice_get-map, get_or_from_slice_get}
use Rattle.ds_label.specs.declared.category.PubKey.{PubKey}
use Rattle.ds_label.specs.declared.category.Category.{Category}
use Rattle.ds_script.specs.declared.actor.Actor.{Actor}
use Rattle.ds_script.proofs.Replays.{last_of-push}
use Rattle.ds_msg.specs.declared.local.LocalMessage.{LocalMessage}
use Rattle.ds_model.specs.Lists.{at}
use Rattle.ds_model.specs.Plan.{BoxPlan, box_plan, no_box}
use Rattle.ds_model.specs.Mailbox.{PutIn, FoundFull, box_enter, put, put_entry}
use Rattle.ds_model.specs.World.{Mailbox}
use Rattle.ds_box.specs.Boxes.{entered, entry_of, stamp_of}
use Rattle.ds_exporter.specs.HostStates.{HostBox, HostState}
use Rattle.ds_exporter.specs.PlainHosts.{host_of, site_of, plain_box, plain_entry, plain_mail, plan_of_box}
use Rattle.ds_exporter.specs.Conditions.{HasBox, IsBoxNamed, IsEntryNamed, IsFit, IsMailNamed, IsOwned, PassedHasBox}
use Rattle.ds_exporter.specs.Stamping.{IsBefore, IsBoxBefore, IsUpTo}
use Rattle.ds_exporter.specs.Mailboxes.{put_in}
use Rattle.ds_exporter.proofs.Places.{all_at, all_at_to, any_at, map_kept_at, map_over_at, pairs_at}
use Rattle.ds_exporter.proofs.Stamps.{all_more, below_more, below_suc}

-- A CHANGE OF ONE MAILBOX

-- what a mailbox keeps of itself in a change: its slot, its owner, and that its numbers have names
pub record Keeps (here : PubKey) (rows : List Category) (a b : HostBox) : Type 0 where
  pub slot : b.slot ≡ a.slot
  pub owner : b.mailbox.owner ≡ a.mailbox.owner
  pub named : IsBoxNamed here rows a → IsBoxNamed here rows b

abbrev pub with_box : ℕ → (HostBox → HostBox) → HostState → HostState
with_box i f e = record e { boxes = at i f e.boxes }

abbrev slot_of : HostBox → ℕ
slot_of b = b.slot

abbrev are_apart : ℕ → ℕ → Type 0
are_apart a b = a ≢ b

module _ (e : HostState) (i : ℕ) (f : HostBox → HostBox) (keeps : (b : HostBox) → slice_get e.boxes i ≡ Some b → Keeps e.desk.here e.desk.desk.rows b (f b)) where
  -- a message that passed still has its mailbox
  box_kept : (passed : Option (ℕ × LocalMessage)) → HasBox e.boxes passed → HasBox (at i f e.boxes) passed
  box_kept None has = tt
  box_kept (Some x) has = any_at (λ (slot : ℕ). slot ≡ x.0) slot_of i f e.boxes (λ b h. (keeps b h).slot) has

  pub fits_box : IsFit e → IsFit (with_box i f e)
  fits_box fit = record {
    desk = fit.desk;
    place = fit.place;
    few = fit.few;
    slots = pairs_at are_apart slot_of i f e.boxes (λ b h. (keeps b h).slot) fit.slots;
    lanes = fit.lanes;
    inlets = fit.inlets;
    owners = all_at (IsOwned (length e.procs)) i f e.boxes (λ b h is. subst (λ (n : ℕ). n < length e.procs) (sym (keeps b h).owner) is) fit.owners;
    scripts = fit.scripts;
    lane_actors = fit.lane_actors;
    conn_actors = fit.conn_actors;
    order = fit.order;
    certs = fit.certs;
    conns = fit.conns;
    named_procs = fit.named_procs;
    named_boxes = all_at (IsBoxNamed e.desk.here e.desk.desk.rows) i f e.boxes (λ b h is. (keeps b h).named is) fit.named_boxes;
    named_conns = fit.named_conns;
    usable = fit.usable;
    hands = fit.hands;
    going = fit.going;
    passed = all_more (PassedHasBox e.boxes) (PassedHasBox (at i f e.boxes)) e.conns (λ k has. box_kept k.passed has) fit.passed;
    hellos = fit.hellos;
  }

-- what setup fixed of it stays
pub plan_box : (e : HostState) (i : ℕ) (f : HostBox → HostBox) → ((b : HostBox) → slice_get e.boxes i ≡ Some b → plan_of_box e.desk.here e.desk.desk.rows (f b) ≡ plan_of_box e.desk.here e.desk.desk.rows b)
    → site_of (with_box i f e) ≡ site_of e
plan_box e i f same = ap (λ (boxes : List BoxPlan). record (site_of e) { boxes = boxes }) (map_kept_at (plan_of_box e.desk.here e.desk.desk.rows) i f e.boxes same)

pub below_box : (n : ℕ) (e : HostState) (i : ℕ) (f : HostBox → HostBox) → ((b : HostBox) → slice_get e.boxes i ≡ Some b → IsBoxBefore n b → IsBoxBefore (n + 1) (f b)) → IsBefore n e → IsUpTo n (with_box i f e)
below_box n e i f last b =
    let more = below_more n e b in
    record { desk = more.desk; boxes = all_at_to (IsBoxBefore n) (IsBoxBefore (n + 1)) i f e.boxes (λ x h. below_suc n _ h) last b.boxes; lanes = more.lanes; inlets = more.inlets }

-- what stands at a place stands there in the plan
pub box_planned : (e : HostState) (i : ℕ) (b : HostBox) → slice_get e.boxes i ≡ Some b → box_plan (site_of e) i ≡ plan_of_box e.desk.here e.desk.desk.rows b
box_planned e i b h =
    get_or_from_slice_get (map (plan_of_box e.desk.here e.desk.desk.rows) e.boxes) i (plan_of_box e.desk.here e.desk.desk.rows b) no_box
    (slice_get-map (plan_of_box e.desk.here e.desk.desk.rows) e.boxes i ∙ ap (option_map (plan_of_box e.desk.here e.desk.desk.rows)) h)

-- A MESSAGE THAT COMES TO IT

module _ (here : PubKey) (rows : List Category) (stamp : ℕ) (who : Actor) (m : LocalMessage) (b : HostBox) where
  abbrev there_is_room : Bool
  there_is_room = nat_lt (length b.mailbox.waiting) b.mailbox.room

  -- in the host's numbers and by the names, by whether there is room
  abbrev in_numbers : Bool → HostBox
  in_numbers room = record b { mailbox = entered stamp who (if room then PutIn m else FoundFull m) b.mailbox }

  abbrev by_names : Bool → Mailbox
  by_names room = box_enter (if room then PutIn (plain_mail here rows m) else FoundFull (plain_mail here rows m)) (plain_box here rows b)

  both : (room : Bool) → plain_box here rows (in_numbers room) ≡ by_names room
  both true = λ i. record {
    waiting = map-append (plain_mail here rows) b.mailbox.waiting (m ∷ []) i;
    entries = map-append (plain_entry here rows) b.mailbox.history (entry_of stamp who (PutIn m) ∷ []) i;
  }
  both false = λ i. record {
    waiting = map (plain_mail here rows) b.mailbox.waiting;
    entries = map-append (plain_entry here rows) b.mailbox.history (entry_of stamp who (FoundFull m) ∷ []) i;
  }

  -- it is put there by names too
  pub plain_put : plain_box here rows (put_in stamp who m b) ≡ put b.mailbox.room (plain_mail here rows m) (plain_box here rows b)
  plain_put = both there_is_room ∙ ap (λ (n : ℕ). by_names (nat_lt n b.mailbox.room)) (sym (length-map b.mailbox.waiting (plain_mail here rows)))

  one : {X : Type 0} (P : X → Type 0) (x : X) → P x → All P (x ∷ [])
  one P x p zero d w = p
  one P x p (suc k) d w = absurd (omega (arith, w))

  named_by : (room : Bool) → IsMailNamed here rows m → IsBoxNamed here rows b → IsBoxNamed here rows (in_numbers room)
  named_by true mail is = record {
    label = is.label;
    waiting = All-append (IsMailNamed here rows) b.mailbox.waiting (m ∷ []) is.waiting (one (IsMailNamed here rows) m mail);
    opening = is.opening;
    history = All-append (IsEntryNamed here rows) b.mailbox.history (entry_of stamp who (PutIn m) ∷ []) is.history (one (IsEntryNamed here rows) (entry_of stamp who (PutIn m)) mail);
  }
  named_by false mail is = record {
    label = is.label;
    waiting = is.waiting;
    opening = is.opening;
    history = All-append (IsEntryNamed here rows) b.mailbox.history (entry_of stamp who (FoundFull m) ∷ []) is.history (one (IsEntryNamed here rows) (entry_of stamp who (FoundFull m)) mail);
  }

  pub keeps_put : IsMailNamed here rows m → Keeps here rows b (put_in stamp who m b)
  keeps_put mail = record { slot = refl; owner = refl; named = λ is. named_by there_is_room mail is }

  pub last_put : IsBoxBefore (stamp + 1) (put_in stamp who m b)
  last_put = subst (λ (n : ℕ). n < stamp + 1) (sym (last_of-push stamp_of b.mailbox.before b.mailbox.history (entry_of stamp who (put_entry b.mailbox.room m b.mailbox.waiting)))) (omega arith)

-- of the mailbox at a place
module _ (e : HostState) (i stamp : ℕ) (who : Actor) (m : LocalMessage) where
  abbrev pub with_put : HostState
  with_put = with_box i (put_in stamp who m) e

  pub fits_put : IsMailNamed e.desk.here e.desk.desk.rows m → IsFit e → IsFit with_put
  fits_put mail fit = fits_box e i (put_in stamp who m) (λ b h. keeps_put e.desk.here e.desk.desk.rows stamp who m b mail) fit

  pub plan_put : site_of with_put ≡ site_of e
  plan_put = plan_box e i (put_in stamp who m) (λ b h. refl)

  pub below_put : IsBefore stamp e → IsUpTo stamp with_put
  below_put b = below_box stamp e i (put_in stamp who m) (λ x h is. last_put e.desk.here e.desk.desk.rows stamp who m x) b

  pub host_put : host_of with_put ≡ record (host_of e) { boxes = at i (put (box_plan (site_of e) i).room (plain_mail e.desk.here e.desk.desk.rows m)) (host_of e).boxes }
  host_put = ap (λ (boxes : List Mailbox). record (host_of e) { boxes = boxes })
      (map_over_at (plain_box e.desk.here e.desk.desk.rows) i (put_in stamp who m) (put (box_plan (site_of e) i).room (plain_mail e.desk.here e.desk.desk.rows m)) e.boxes
      (λ b h. plain_put e.desk.here e.desk.desk.rows stamp who m b ∙ ap (λ (p : BoxPlan). put p.room (plain_mail e.desk.here e.desk.desk.rows m) (plain_box e.desk.here e.desk.desk.rows b)) (sym (box_planned e i b h))))
