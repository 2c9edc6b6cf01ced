-- A process of which the desk did a public act.
use Rattle.std.proofs.Common.{◌≡◌, ℕ, suc, ◌+◌, ◌*◌, ◌<◌, ◌≤◌, Bool, true, false, ◌&&◌, ◌||◌, cond, List, [], ◌∷◌, ◌++◌, Option, Some, None, length, slice_get, refl, sym, ap, ◌∙◌, subst, arith}
use Rattle.std.specs.Prelude.{◌^◌, All, nat_le, nat_lt}
use Rattle.std.proofs.lemmas.Bool.Decides.{nat_tests}
use Rattle.std.proofs.lemmas.List.Elements.{All-push, recursion_from_All}
use Rattle.ds_label.specs.declared.rule.Rule.{Rule}
use Rattle.ds_label.specs.declared.rule.Rule.TheVariants.{BadCert, KeySpent, StoreFull, TableFull}
use Rattle.ds_label.specs.declared.category.PubKey.{PubKey}
use Rattle.ds_label.specs.declared.category.Category.{Category}
use Rattle.ds_label.specs.Names.{same_category, by_name}
use Rattle.ds_label.specs.Flow.{has}
use Rattle.ds_label.proofs.Namings.{names}
use Rattle.ds_label.proofs.Members.{same-is}
use Rattle.ds_script.specs.declared.actor.Actor.{Actor}
use Rattle.ds_script.specs.declared.note.Note.TheVariants as notes
use Rattle.ds_script.specs.declared.usable.Usable.{Usable}
use Rattle.ds_script.specs.Names.{is_named, with_name}
use Rattle.ds_cert.specs.declared.delegation.Delegation.{Delegation}
use Rattle.ds_cert.specs.declared.cert.Cert.{Cert}
use Rattle.ds_cert.specs.declared.cert.Cert.TheVariants as certs
use Rattle.ds_model.specs.Lists.{at}
use Rattle.ds_model.specs.FirstRule.{first_rule, unless}
use Rattle.ds_model.specs.Mapping.{is_home, is_known, home_number, kind_number, number_of, row_limit, row_of, to_number, with_row}
use Rattle.ds_model.specs.Scheme.{Scheme, delegation_by}
use Rattle.ds_model.specs.Plan.{HostPlan}
use Rattle.ds_model.specs.Desk.{Act, Delegating, Importing, Mapping, Desk, DeskEntry, Delegated, Imported, Mapped, Reply, Local, Refuse, Made, Done, desk_after, entry_unless, import_entry, import_rule, is_good, reply_of, store_limit}
use Rattle.ds_model.specs.World.{Process, Host}
use Rattle.ds_model.specs.Access.{InDesk}
use Rattle.ds_model.specs.ProcessStep.{PublicAct, act_after_reply, noted}
use Rattle.ds_desk.specs.Desks.{IsReplay, entered}
use Rattle.ds_scheme.specs.TheScheme.{scheme}
use Rattle.ds_exporter.specs.HostStates.{HostProcess, HostState}
use Rattle.ds_exporter.specs.PlainHosts.{site_of, plain_process}
use Rattle.ds_exporter.specs.Conditions.{AreNumbered, IsFit, IsNumbered}
use Rattle.ds_exporter.specs.Acting.{JoinsAt, MapsSo, answer_of, delegated_proc, entry_of, imported_proc, mapped_proc}
use Rattle.ds_exporter.specs.Stamping.{IsBefore, IsUpTo, last_of_desk}
use Rattle.ds_exporter.specs.Entering.{Enters, step_access}
use Rattle.ds_exporter.specs.Stepping.{Asks, IsFree, IsStepped, always, proc_actor, refused_proc}
use Rattle.ds_exporter.proofs.Entering.{enters_beside, enters_by, enters_desk}
use Rattle.ds_exporter.proofs.Places.{all_get, there_is}
use Rattle.ds_exporter.proofs.OneProc.{Keeps, with_proc, fits_proc}
use Rattle.ds_exporter.proofs.OneStep.{becomes, host_by, moved_on, no_hand_more, performs, site_proc, touches}
use Rattle.ds_exporter.proofs.Stays.{with_entry, rows_after, fits_entry, host_entry, site_entry, conn_entry, below_entry, numbers_stay, rows_grow}

-- THE HOST

-- how a process ends its act: it keeps what fits, moves on, and is by names what the plain world makes of it
pub record Ends (e : HostState) (stamp : ℕ) (who : Actor) (act : Act) (reg host : ℕ) (x y : HostProcess) : Type 0 where
  pub keeps : Keeps (with_entry e stamp who (entry_of e act)) x y
  pub moved : y.process.course.place ≡ x.process.course.place + 1
  pub tells : plain_process e.desk.here (rows_after e stamp who (entry_of e act)) y ≡ act_after_reply reg host act (answer_of e act) (plain_process e.desk.here (rows_after e stamp who (entry_of e act)) x)

module _ (e : HostState) (p stamp : ℕ) (who : Actor) (act : Act) (reg host : ℕ) (f : HostProcess → HostProcess) (within : p < length e.procs) (fit : IsFit e)
    (ends : (x : HostProcess) → slice_get e.procs p ≡ Some x → Ends e stamp who act reg host x (f x)) where
  abbrev acted : HostState
  acted = with_entry e stamp who (entry_of e act)

  abbrev pub done : HostState
  done = with_proc p f acted

  pub fits_done : IsReplay (entered stamp who (entry_of e act) e.desk) → IsFit done
  fits_done replay = fits_proc acted p f (fits_entry e stamp who (entry_of e act) fit replay) (λ x h. (ends x h).keeps)

  below_done : IsBefore stamp e → last_of_desk (entered stamp who (entry_of e act) e.desk) ≤ stamp → IsUpTo stamp done
  below_done b last =
      let more = below_entry e stamp who (entry_of e act) b last in
      record { desk = more.desk; boxes = more.boxes; lanes = more.lanes; inlets = more.inlets }

  entered_done : who ≡ proc_actor e.host p → Asks p e (always (PublicAct act reg host)) → (x : HostProcess) → slice_get e.procs p ≡ Some x → Enters stamp (proc_actor e.host p) (step_access p e) e done
  entered_done is asks x h =
      subst (λ (a : Actor). Enters stamp a (step_access p e) e done) is
      (enters_by stamp who (step_access p e) (InDesk (entry_of e act)) e done (touches e p x h (always (PublicAct act reg host)) asks)
      (enters_beside stamp who (InDesk (entry_of e act)) e acted (at p f e.procs) e.conns (enters_desk stamp who e (entry_of e act))))

  pub stepped_done : who ≡ proc_actor e.host p → Asks p e (always (PublicAct act reg host)) → IsBefore stamp e → last_of_desk (entered stamp who (entry_of e act) e.desk) ≤ stamp → IsStepped stamp p e done
  stepped_done acts asks below last = there_is (IsStepped stamp p e done) e.procs p within (λ x h. record {
    host = host_by acted p f (act_after_reply reg host act (answer_of e act)) (λ y there. (ends y there).tells)
        ∙ (ap (λ (a : Host). record a { procs = at p (act_after_reply reg host act (answer_of e act)) a.procs }) (host_entry e stamp who (entry_of e act) fit)
        ∙ sym (performs e p x h (always (PublicAct act reg host)) asks));
    changed = moved_on e done p x (f x) h (becomes e p x h f) (ends x h).moved;
    site = site_proc acted p f ∙ site_entry e stamp who (entry_of e act) fit;
    conns = refl;
    named = λ link place. conn_entry e stamp who (entry_of e act) fit link place;
    stamps = below_done below last;
    entered = entered_done acts asks x h;
  })

-- THE PROCESS

refused_tells : (act : Act) (reg host : ℕ) (rule : Rule) (x : Process) → noted (notes.Refused rule) x ≡ act_after_reply reg host act (Refuse rule) x
refused_tells (Delegating c to from until) reg host rule x = refl
refused_tells (Importing bytes) reg host rule x = refl
refused_tells (Mapping c) reg host rule x = refl

module _ (e : HostState) (p stamp : ℕ) (who : Actor) (free : IsFree p e) where
  pub ends_refused : (act : Act) (reg host : ℕ) (rule : Rule) → answer_of e act ≡ Refuse rule → (x : HostProcess) → slice_get e.procs p ≡ Some x → Ends e stamp who act reg host x (refused_proc rule x)
  ends_refused act reg host rule answer x h =
      let y = plain_process e.desk.here (rows_after e stamp who (entry_of e act)) x in
      record {
        keeps = record { script = refl; named = λ n. n; numbered = λ n. n; hand = λ l. l; going = λ g. no_hand_more x.hand (refused_proc rule x).process.course.place (length x.process.script) (free x h).0 };
        moved = refl;
        tells = refused_tells act reg host rule y ∙ ap (λ (r : Reply). act_after_reply reg host act r y) (sym answer);
      }

  pub ends_delegated : (c : Category) (to : PubKey) (from until reg host : ℕ) (bytes : List ℕ) → answer_of e (Delegating c to from until) ≡ Made bytes
      → (x : HostProcess) → slice_get e.procs p ≡ Some x → Ends e stamp who (Delegating c to from until) reg host x (delegated_proc c host reg bytes x)
  ends_delegated c to from until reg host bytes answer x h =
      let y = plain_process e.desk.here (rows_after e stamp who (entry_of e (Delegating c to from until))) x in
      record {
        keeps = record { script = refl; named = λ n. n; numbered = λ n. n; hand = λ l. l; going = λ g. no_hand_more x.hand (delegated_proc c host reg bytes x).process.course.place (length x.process.script) (free x h).0 };
        moved = refl;
        tells = ap (λ (r : Reply). act_after_reply reg host (Delegating c to from until) r y) (sym answer);
      }

  pub ends_imported : (bytes : List ℕ) (reg host : ℕ) → answer_of e (Importing bytes) ≡ Done → (x : HostProcess) → slice_get e.procs p ≡ Some x → Ends e stamp who (Importing bytes) reg host x (imported_proc x)
  ends_imported bytes reg host answer x h =
      let y = plain_process e.desk.here (rows_after e stamp who (entry_of e (Importing bytes))) x in
      record {
        keeps = record { script = refl; named = λ n. n; numbered = λ n. n; hand = λ l. l; going = λ g. no_hand_more x.hand (imported_proc x).process.course.place (length x.process.script) (free x h).0 };
        moved = refl;
        tells = ap (λ (r : Reply). act_after_reply reg host (Importing bytes) r y) (sym answer);
      }

-- A MAPPED CATEGORY

category_itself : (c : Category) → same_category c c ≡ true
category_itself c = (same-is by_name names c c).1 refl

row_again : (c : Category) (rows : List Category) → row_of c (rows ++ c ∷ []) ≡ row_of c rows
row_again c [] = ap (λ (b : Bool). cond b 0 1) (category_itself c)
row_again c (d ∷ rows) = ap (λ (n : ℕ). cond (same_category c d) 0 (suc n)) (row_again c rows)

has_again : (c : Category) (rows : List Category) → has by_name c (rows ++ c ∷ []) ≡ true
has_again c [] = ap (λ (b : Bool). b || false) (category_itself c)
has_again c (d ∷ rows) = go (same_category c d) (has_again c rows)
  where
    go : (b : Bool) → has by_name c (rows ++ c ∷ []) ≡ true → (b || has by_name c (rows ++ c ∷ [])) ≡ true
    go true e = refl
    go false e = e

-- it has the number that it would get
pub mapped_number : (here : PubKey) (rows : List Category) (c : Category) → to_number here (with_row here c rows) c ≡ Some (number_of here rows c)
mapped_number here rows c = go (is_known here rows c) refl
  where
    foreign : ℕ → ℕ
    foreign row = 2 ^ 63 + 2 * row + kind_number c.kind

    known : (home there : Bool) (row : ℕ) → (home || there) ≡ true → cond (home || there) (Some (cond home (home_number c) (foreign row))) None ≡ Some (cond home (home_number c) (foreign row))
    known home there row e = ap (λ (b : Bool). cond b (Some (cond home (home_number c) (foreign row))) None) e

    joined : (home : Bool) → (home || has by_name c (rows ++ c ∷ [])) ≡ true
    joined true = refl
    joined false = has_again c rows

    go : (b : Bool) → is_known here rows c ≡ b → to_number here (cond b rows (rows ++ c ∷ [])) c ≡ Some (number_of here rows c)
    go true e = known (is_home here c) (has by_name c rows) (row_of c rows) e
    go false e =
        known (is_home here c) (has by_name c (rows ++ c ∷ [])) (row_of c (rows ++ c ∷ [])) (joined (is_home here c))
        ∙ ap (λ (row : ℕ). Some (cond (is_home here c) (home_number c) (foreign row))) (row_again c rows)

-- a number as the answer says that it was mapped
mapped_by : (s : Scheme) (plan : HostPlan) (d : Desk) (c : Category) (rule : Option Rule) (n : ℕ) → reply_of s plan d (entry_unless rule (Mapped c)) ≡ Local n
    → (entry_unless rule (Mapped c) ≡ Mapped c) × (number_of plan.key d.rows c ≡ n)
mapped_by s plan d c None n e = (refl, number e)
  where
    number : Local (number_of plan.key d.rows c) ≡ Local n → number_of plan.key d.rows c ≡ n
    number q = cc
mapped_by s plan d c (Some rule) n e = absurd (no e)
  where
    no : Refuse rule ≡ Local n → ⊥
    no q = cc

names_join : (P : Usable → Type 0) (c : Category) (n : ℕ) (us : List Usable) → P (record { category = c; local = n }) → All P us → All P (with_name c n us)
names_join P c n us new all = go (is_named c us)
  where
    go : (b : Bool) → All P (cond b us (us ++ record { category = c; local = n } ∷ []))
    go true = all
    go false = All-push P us (record { category = c; local = n }) all new

module _ (e : HostState) (p stamp : ℕ) (who : Actor) (c : Category) (n : ℕ) (answer : answer_of e (Mapping c) ≡ Local n) where
  by_entry : (entry_of e (Mapping c) ≡ Mapped c) × (number_of e.desk.here e.desk.desk.rows c ≡ n)
  by_entry = mapped_by scheme (site_of e) e.desk.desk c (unless (is_known e.desk.here e.desk.desk.rows c || nat_lt (length e.desk.desk.rows) row_limit) TableFull) n answer

  -- in the table after it
  numbered_now : to_number e.desk.here (rows_after e stamp who (entry_of e (Mapping c))) c ≡ Some n
  numbered_now =
      ap (λ (entry : DeskEntry). to_number e.desk.here (desk_after e.desk.here entry e.desk.desk).rows c) by_entry.0
      ∙ (mapped_number e.desk.here e.desk.desk.rows c ∙ ap (λ (m : ℕ). Some m) by_entry.1)

  numbers_now : (x : HostProcess) → AreNumbered e.desk.here e.desk.desk.rows x → AreNumbered e.desk.here (rows_after e stamp who (entry_of e (Mapping c))) x
  numbers_now x all = numbers_stay e.desk.here e.desk.desk.rows (rows_after e stamp who (entry_of e (Mapping c))) (rows_grow e.desk.here e.desk.desk (entry_of e (Mapping c))) x all

  pub joins_at : IsFit e → JoinsAt p e.procs c n
  joins_at fit = λ x h. (
    e.desk.here,
    rows_after e stamp who (entry_of e (Mapping c)),
    recursion_from_All (IsNumbered e.desk.here (rows_after e stamp who (entry_of e (Mapping c)))) x.process.names (numbers_now x (all_get (AreNumbered e.desk.here e.desk.desk.rows) e.procs p x fit.usable h)),
    numbered_now,
  )

  pub ends_mapped : IsFree p e → (reg host : ℕ) → ((x : HostProcess) → slice_get e.procs p ≡ Some x → MapsSo c n x)
      → (x : HostProcess) → slice_get e.procs p ≡ Some x → Ends e stamp who (Mapping c) reg host x (mapped_proc c n x)
  ends_mapped free reg host maps x h =
      let rows = rows_after e stamp who (entry_of e (Mapping c)) in
      record {
        keeps = record {
          script = refl;
          named = λ is. is;
          numbered = λ all. names_join (IsNumbered e.desk.here rows) c n x.process.names numbered_now all;
          hand = λ l. l;
          going = λ g. no_hand_more x.hand (mapped_proc c n x).process.course.place (length x.process.script) (free x h).0;
        };
        moved = refl;
        tells = maps x h e.desk.here rows reg host ∙ ap (λ (r : Reply). act_after_reply reg host (Mapping c) r (plain_process e.desk.here rows x)) (sym answer);
      }

-- one that a host may make isn't stray
pub not_stray : (own : Bool) (limit n : ℕ) → n < limit → (own && nat_le limit n) ≡ false
not_stray true limit n below = grind (arith, nat_tests)
not_stray false limit n below = refl

-- THE LEAF OF THE DESK'S KEY

one_more : (n : ℕ) → suc n ≡ n + 1
one_more n = omega arith

module _ (s : Scheme) (plan : HostPlan) (here : PubKey) (d : Desk) where
  -- a delegation that was made took a leaf
  made_leaf : (new : Delegation) (rule : Option Rule) (bytes : List ℕ) → reply_of s plan d (entry_unless rule (Delegated new)) ≡ Made bytes → (desk_after here (entry_unless rule (Delegated new)) d).leaf ≡ d.leaf + 1
  made_leaf new None bytes e = one_more d.leaf
  made_leaf new (Some rule) bytes e = absurd (no e)
    where
      no : Refuse rule ≡ Made bytes → ⊥
      no q = cc

  -- and one that was refused took none
  refused_leaf : (new : Delegation) (rule : Option Rule) (why : Rule) → reply_of s plan d (entry_unless rule (Delegated new)) ≡ Refuse why → (desk_after here (entry_unless rule (Delegated new)) d).leaf ≡ d.leaf
  refused_leaf new None why e = absurd (no e)
    where
      no : Made (s.spelling new) ≡ Refuse why → ⊥
      no q = cc
  refused_leaf new (Some rule) why e = refl

  -- nor do an import and a mapping
  kept_leaf : (new : Cert) (rule : Option Rule) → (desk_after here (entry_unless rule (Imported new)) d).leaf ≡ d.leaf
  kept_leaf (certs.Delegation new) None = refl
  kept_leaf (certs.Address new) None = refl
  kept_leaf new (Some rule) = refl

  import_leaf : (read : Option Cert) → (desk_after here (import_entry s d read) d).leaf ≡ d.leaf
  import_leaf None = refl
  import_leaf (Some new) = kept_leaf new (first_rule (unless (is_good s new) BadCert ∷ import_rule d new ∷ []))

  map_leaf : (c : Category) (rule : Option Rule) → (desk_after here (entry_unless rule (Mapped c)) d).leaf ≡ d.leaf
  map_leaf c None = refl
  map_leaf c (Some rule) = refl

module _ (e : HostState) (stamp : ℕ) (who : Actor) where
  abbrev leaf_after : Act → ℕ
  leaf_after act = (with_entry e stamp who (entry_of e act)).desk.desk.leaf

  pub leaf_made : (c : Category) (to : PubKey) (from until : ℕ) (bytes : List ℕ) → answer_of e (Delegating c to from until) ≡ Made bytes → leaf_after (Delegating c to from until) ≡ e.desk.desk.leaf + 1
  leaf_made c to from until bytes answer = made_leaf scheme (site_of e) e.desk.here e.desk.desk (delegation_by scheme (site_of e).signing e.desk.desk.leaf e.desk.here c to from until)
      (first_rule (unless (nat_lt (length e.desk.desk.store) store_limit) StoreFull ∷ unless (scheme.has_leaf (site_of e).signing e.desk.desk.leaf) KeySpent ∷ [])) bytes answer

  pub leaf_refused : (c : Category) (to : PubKey) (from until : ℕ) (rule : Rule) → answer_of e (Delegating c to from until) ≡ Refuse rule → leaf_after (Delegating c to from until) ≡ e.desk.desk.leaf
  leaf_refused c to from until rule answer = refused_leaf scheme (site_of e) e.desk.here e.desk.desk (delegation_by scheme (site_of e).signing e.desk.desk.leaf e.desk.here c to from until)
      (first_rule (unless (nat_lt (length e.desk.desk.store) store_limit) StoreFull ∷ unless (scheme.has_leaf (site_of e).signing e.desk.desk.leaf) KeySpent ∷ [])) rule answer

  pub leaf_imported : (bytes : List ℕ) → leaf_after (Importing bytes) ≡ e.desk.desk.leaf
  leaf_imported bytes = import_leaf scheme (site_of e) e.desk.here e.desk.desk (scheme.read_cert bytes)

  pub leaf_mapped : (c : Category) → leaf_after (Mapping c) ≡ e.desk.desk.leaf
  leaf_mapped c = map_leaf scheme (site_of e) e.desk.here e.desk.desk c (unless (is_known e.desk.here e.desk.desk.rows c || nat_lt (length e.desk.desk.rows) row_limit) TableFull)
