-- All that is known of an ask, from what each operation's own function says.
use Rattle.std.proofs.Common.{◌≡◌, ℕ, zero, suc, ◌<◌, ◌≤◌, List, [], ◌∷◌, Option, Some, refl, sym, subst, slice_get, arith}
use Rattle.std.specs.Prelude.{All, IfOk, IsTrue, Result, Ok, Err, length}
use Rattle.ds_label.specs.declared.category.PubKey.{PubKey}
use Rattle.ds_label.specs.declared.category.Category.{Category}
use Rattle.ds_label.specs.declared.category.Kind.{Kind}
use Rattle.ds_label.specs.declared.rule.Rule.TheVariants.{NotKnown, NotHeld}
use Rattle.ds_label.specs.Flow.{has}
use Rattle.ds_label.specs.Names.{by_name}
use Rattle.ds_script.specs.declared.op.Op.{Op}
use Rattle.ds_script.specs.declared.op.Op.TheVariants as ops
use Rattle.ds_script.specs.Process.{ProcView, Process as Numbered}
use Rattle.ds_msg.specs.declared.message.Message.{Message}
use Rattle.ds_model.specs.World.{Process}
use Rattle.ds_model.specs.Plan.{HostPlan}
use Rattle.ds_model.specs.Keys.{key_of}
use Rattle.ds_model.specs.Desk.{Delegating}
use Rattle.ds_model.specs.FirstRule.{first_rule, unless}
use Rattle.ds_model.specs.Mapping.{is_known, next_category}
use Rattle.ds_model.specs.ExporterRules.{known_rule}
use Rattle.ds_model.specs.ProcessRules.{may_make, may_relabel}
use Rattle.ds_model.specs.ProcessStep.{Ask, ask_outer, make, publish, publish_rule, relabel}
use Rattle.ds_map.specs.Labels.{have_names}
use Rattle.ds_actor.specs.declared.ask.ProcessAsk.{ProcessAsk}
use Rattle.ds_actor.specs.declared.ask.ProcessAsk.TheVariants as asks
use Rattle.ds_actor.specs.Usable.{IsAgreed}
use Rattle.ds_actor.specs.Sites.{SitePlan, with_site, labels_of}
use Rattle.ds_actor.specs.Seen.{UnderTables, process_of, proc_labels}
use Rattle.ds_actor.specs.Asks.{IsAsked, IsCopied, IsAskInRange, IsInside, HasMailNames, StaysUnless}
use Rattle.ds_actor.specs.Asking.{CanEnd, IsReady, MovesInside, IsOfOperation, IsOutside, SendsNothing, IsAnswer}
use Rattle.ds_actor.proofs.Sites.{three_named}

-- what holds of each holds of the one at a place
pub each_here : {X : Type 0} (P : X → Type 0) (xs : List X) (i : ℕ) (x : X) → All P xs → slice_get xs i ≡ Some x → P x
each_here P [] i x all e = absurd cc
each_here P (y ∷ ys) zero x all e = subst P (same y x e) (all zero y (omega arith))
  where
    same : {X : Type 0} (a b : X) → Some a ≡ Some b → a ≡ b
    same a b f = cc
each_here P (y ∷ ys) (suc i) x all e = each_here P ys i x (λ k d w. all (suc k) d (omega (arith, w))) e

pub is_within : {X : Type 0} (xs : List X) (i : ℕ) (x : X) → slice_get xs i ≡ Some x → i < length xs
is_within [] i x e = absurd cc
is_within (y ∷ ys) zero x e = omega arith
is_within (y ∷ ys) (suc i) x e = let w = is_within ys i x e in omega (arith, w)

-- an operation that has room for its end
pub can_end : (p : ProcView) (op : Op) → Some op ≡ slice_get p.process.script p.process.course.place → 0 < p.room → 0 < p.spare → CanEnd p
can_end p op is room spare = record { going = is_within p.process.script p.process.course.place op (sym is); room = room; spare = spare }

-- ---- no step inside the process

module _ (site : SitePlan) (index : ℕ) (op : Option Op) (p : ProcView) where
  abbrev has_asked : ProcessAsk → Type 0
  has_asked a = UnderTables site.here site.boxes p.process (λ rows. (plan : HostPlan) (hand : Option Message) (y : Process) →
      IsAsked site.here rows (process_of site.here rows hand p.process) y a (ask_outer (with_site site rows plan) index (process_of site.here rows hand p.process) op))

  at_op : (a : ProcessAsk) → IsOutside a → IsOfOperation a
  at_op asks.Waits o = tt
  at_op asks.Internal o = tt
  at_op (asks.Refused rule) o = tt
  at_op (asks.Put place message kept) o = tt
  at_op (asks.Admit place message kept) o = o
  at_op (asks.TakeFrom place reg slot) o = tt
  at_op (asks.PublicAct request reg host) o = tt
  at_op (asks.AsksJudgement message) o = tt

  ready : (a : ProcessAsk) → IsOutside a → CanEnd p → IsReady a p
  ready asks.Waits o can = tt
  ready asks.Internal o can = tt
  ready (asks.Refused rule) o can = can
  ready (asks.Put place message kept) o can = can
  ready (asks.Admit place message kept) o can = can
  ready (asks.TakeFrom place reg slot) o can = can
  ready (asks.PublicAct request reg host) o can = can
  ready (asks.AsksJudgement message) o can = can

  stays : (a : ProcessAsk) → IsOutside a → StaysUnless a p p
  stays asks.Waits o = (refl, omega arith, omega arith)
  stays asks.Internal o = tt
  stays (asks.Refused rule) o = (refl, omega arith, omega arith)
  stays (asks.Put place message kept) o = (refl, omega arith, omega arith)
  stays (asks.Admit place message kept) o = (refl, omega arith, omega arith)
  stays (asks.TakeFrom place reg slot) o = (refl, omega arith, omega arith)
  stays (asks.PublicAct request reg host) o = (refl, omega arith, omega arith)
  stays (asks.AsksJudgement message) o = (refl, omega arith, omega arith)

  moves : (a : ProcessAsk) → IsOutside a → MovesInside a p.process p.process
  moves asks.Waits o = tt
  moves asks.Internal o = absurd o
  moves (asks.Refused rule) o = tt
  moves (asks.Put place message kept) o = tt
  moves (asks.Admit place message kept) o = tt
  moves (asks.TakeFrom place reg slot) o = tt
  moves (asks.PublicAct request reg host) o = tt
  moves (asks.AsksJudgement message) o = tt

  pub outside_is : (a : ProcessAsk) → CanEnd p → IsOutside a → IsCopied a → IsAskInRange site a
      → UnderTables site.here [] p.process (λ rows. HasMailNames site.here rows a) → has_asked a → IsAnswer site index op p p a
  outside_is a can outside copied range mail asked = record {
    copied = copied;
    range = range;
    operation = at_op a outside;
    ready = ready a outside can;
    still = stays a outside;
    moved = moves a outside;
    names = λ rows table agreed named. agreed;
    labels = λ rows table agreed named. named;
    mail = mail;
    asked = λ rows table agreed named plan hand. asked rows table agreed named plan hand (process_of site.here rows hand p.process);
  }

  pub outside_ok : {E : Type 0} (r : Result ProcessAsk E) → CanEnd p → IfOk r IsOutside → IfOk r IsCopied → IfOk r (IsAskInRange site)
      → UnderTables site.here [] p.process (λ rows. IfOk r (HasMailNames site.here rows))
      → UnderTables site.here site.boxes p.process (λ rows. (plan : HostPlan) (hand : Option Message) (y : Process) →
      IfOk r (λ a. IsAsked site.here rows (process_of site.here rows hand p.process) y a (ask_outer (with_site site rows plan) index (process_of site.here rows hand p.process) op)))
      → IfOk r (IsAnswer site index op p p)
  outside_ok (Ok a) can outside copied range mail asked = outside_is a can outside copied range mail asked
  outside_ok (Err e) can outside copied range mail asked = tt

  -- and no message
  record Silent (a : ProcessAsk) : Type 0 where
    outside : IsOutside a
    copied : IsCopied a
    mail : (rows : List Category) → HasMailNames site.here rows a

  silent : (a : ProcessAsk) → SendsNothing a → Silent a
  silent asks.Waits o = absurd o
  silent asks.Internal o = absurd o
  silent (asks.Refused rule) o = record { outside = tt; copied = tt; mail = λ rows. tt }
  silent (asks.Put place message kept) o = absurd o
  silent (asks.Admit place message kept) o = absurd o
  silent (asks.TakeFrom place reg slot) o = record { outside = tt; copied = tt; mail = λ rows. tt }
  silent (asks.PublicAct request reg host) o = record { outside = tt; copied = tt; mail = λ rows. tt }
  silent (asks.AsksJudgement message) o = absurd o

  pub silent_is : (a : ProcessAsk) → CanEnd p → SendsNothing a → IsAskInRange site a → has_asked a → IsAnswer site index op p p a
  silent_is a can sends range asked = outside_is a can (silent a sends).outside (silent a sends).copied range (λ rows table agreed named. (silent a sends).mail rows) asked

  pub silent_ok : {E : Type 0} (r : Result ProcessAsk E) → CanEnd p → IfOk r SendsNothing → IfOk r (IsAskInRange site)
      → UnderTables site.here site.boxes p.process (λ rows. (plan : HostPlan) (hand : Option Message) (y : Process) →
      IfOk r (λ a. IsAsked site.here rows (process_of site.here rows hand p.process) y a (ask_outer (with_site site rows plan) index (process_of site.here rows hand p.process) op)))
      → IfOk r (IsAnswer site index op p p)
  silent_ok (Ok a) can sends range asked = silent_is a can sends range asked
  silent_ok (Err e) can sends range asked = tt

-- ---- a step inside it, or a refusal

module _ (site : SitePlan) (index : ℕ) (op : Option Op) (old new : ProcView) where
  abbrev has_done : ProcessAsk → Type 0
  has_done a = UnderTables site.here [] old.process (λ rows. (plan : HostPlan) (hand : Option Message) →
      IsAsked site.here rows (process_of site.here rows hand old.process) (process_of site.here rows hand new.process) a
      (ask_outer (with_site site rows plan) index (process_of site.here rows hand old.process) op))

  still_ready : CanEnd old → (new.process ≡ old.process) × (old.room ≤ new.room) × (old.spare ≤ new.spare) → CanEnd new
  still_ready can same = record {
    going = subst (λ (p : Numbered). p.course.place < length p.script) (sym same.0) can.going;
    room = let r = can.room in let s = same.1 in omega (arith, r, s);
    spare = let r = can.spare in let s = same.2 in omega (arith, r, s);
  }

  is_ready : (a : ProcessAsk) → IsInside a → CanEnd old → StaysUnless a old new → IsReady a new
  is_ready asks.Waits o can still = tt
  is_ready asks.Internal o can still = tt
  is_ready (asks.Refused rule) o can still = still_ready can still
  is_ready (asks.Put place message kept) o can still = absurd o
  is_ready (asks.Admit place message kept) o can still = absurd o
  is_ready (asks.TakeFrom place reg slot) o can still = absurd o
  is_ready (asks.PublicAct request reg host) o can still = absurd o
  is_ready (asks.AsksJudgement message) o can still = absurd o

  record Plain (a : ProcessAsk) : Type 0 where
    copied : IsCopied a
    range : IsAskInRange site a
    operation : IsOfOperation a
    mail : (rows : List Category) → HasMailNames site.here rows a

  plain : (a : ProcessAsk) → IsInside a → Plain a
  plain asks.Waits o = absurd o
  plain asks.Internal o = record { copied = tt; range = tt; operation = tt; mail = λ rows. tt }
  plain (asks.Refused rule) o = record { copied = tt; range = tt; operation = tt; mail = λ rows. tt }
  plain (asks.Put place message kept) o = absurd o
  plain (asks.Admit place message kept) o = absurd o
  plain (asks.TakeFrom place reg slot) o = absurd o
  plain (asks.PublicAct request reg host) o = absurd o
  plain (asks.AsksJudgement message) o = absurd o

  inside_is : (a : ProcessAsk) → CanEnd old → IsInside a → StaysUnless a old new → MovesInside a old.process new.process
      → UnderTables site.here [] old.process (λ rows. IsAgreed site.here rows new.process.names)
      → UnderTables site.here [] old.process (λ rows. IsTrue (have_names site.here rows (proc_labels new.process)))
      → has_done a → IsAnswer site index op old new a
  inside_is a can inside still moved names labels asked = record {
    copied = (plain a inside).copied;
    range = (plain a inside).range;
    operation = (plain a inside).operation;
    ready = is_ready a inside can still;
    still = still;
    moved = moved;
    names = names;
    labels = labels;
    mail = λ rows table agreed named. (plain a inside).mail rows;
    asked = λ rows table agreed named. asked rows table agreed (three_named site.here rows old.process.label old.process.own old.process.clear (labels_of site.boxes) named);
  }

  pub inside_ok : {E : Type 0} (r : Result ProcessAsk E) → CanEnd old → IfOk r IsInside → IfOk r (λ a. StaysUnless a old new) → IfOk r (λ a. MovesInside a old.process new.process)
      → UnderTables site.here [] old.process (λ rows. IsAgreed site.here rows new.process.names)
      → UnderTables site.here [] old.process (λ rows. IsTrue (have_names site.here rows (proc_labels new.process)))
      → UnderTables site.here [] old.process (λ rows. (plan : HostPlan) (hand : Option Message) →
      IfOk r (λ a. IsAsked site.here rows (process_of site.here rows hand old.process) (process_of site.here rows hand new.process) a
      (ask_outer (with_site site rows plan) index (process_of site.here rows hand old.process) op)))
      → IfOk r (IsAnswer site index op old new)
  inside_ok (Ok a) can inside still moved names labels asked = inside_is a can inside still moved names labels asked
  inside_ok (Err e) can inside still moved names labels asked = tt

-- ---- a new label, a new category

module _ (site : SitePlan) (index : ℕ) (old new : ProcView) {E : Type 0} (r : Result ProcessAsk E) where
  -- what was said under the tables of a host's key
  pub record Done (asks_by : PubKey → Process → Ask) (key : PubKey) : Type 0 where
    pub names : UnderTables key [] old.process (λ rows. IsAgreed key rows new.process.names)
    pub labels : UnderTables key [] old.process (λ rows. IsTrue (have_names key rows (proc_labels new.process)))
    pub asked : UnderTables key [] old.process (λ rows. (hand : Option Message) →
        IfOk r (λ a. IsAsked key rows (process_of key rows hand old.process) (process_of key rows hand new.process) a (asks_by key (process_of key rows hand old.process))))

  abbrev pub asks_label : List Category → PubKey → Process → Ask
  asks_label label key x = relabel x label (first_rule (known_rule key x.names label [] [] ∷ may_relabel by_name x.label x.own x.clear label ∷ []))

  abbrev pub asks_category : Kind → PubKey → Process → Ask
  asks_category kind key x = make x (next_category key index x.made kind) (may_make by_name x.own x.made (next_category key index x.made kind))

  pub label_ok : (label : List Category) (key : PubKey) → key ≡ site.here → CanEnd old → IfOk r IsInside → IfOk r (λ a. StaysUnless a old new) → IfOk r (λ a. MovesInside a old.process new.process)
      → Done (asks_label label) key → IfOk r (IsAnswer site index (Some (ops.SetLabel label)) old new)
  label_ok label key same can inside still moved done =
      let d = subst (Done (asks_label label)) same done in
      inside_ok site index (Some (ops.SetLabel label)) old new r can inside still moved d.names d.labels (λ rows table agreed named plan hand. d.asked rows table agreed named hand)

  pub category_ok : (kind : Kind) (key : PubKey) → key ≡ site.here → CanEnd old → IfOk r IsInside → IfOk r (λ a. StaysUnless a old new) → IfOk r (λ a. MovesInside a old.process new.process)
      → Done (asks_category kind) key → IfOk r (IsAnswer site index (Some (ops.NewCat kind)) old new)
  category_ok kind key same can inside still moved done =
      let d = subst (Done (asks_category kind)) same done in
      inside_ok site index (Some (ops.NewCat kind)) old new r can inside still moved d.names d.labels (λ rows table agreed named plan hand. d.asked rows table agreed named hand)

-- ---- a delegation

module _ (site : SitePlan) (index : ℕ) (p : ProcView) (reg host from until : ℕ) (c : Category) (a : ProcessAsk) where
  abbrev pub DelegatesBy : PubKey → PubKey → Type 0
  DelegatesBy key to = UnderTables key [] p.process (λ rows. (hand : Option Message) (y : Process) → let x = process_of key rows hand p.process in
      IsAsked key rows x y a (publish x (Delegating c to from until) reg host (first_rule (unless (is_known key x.names c) (NotKnown c) ∷ unless (has by_name c x.own) NotHeld ∷ publish_rule x ∷ []))))

  pub delegate_is : (key to : PubKey) → key ≡ site.here → to ≡ key_of site.keys host → CanEnd p → SendsNothing a → IsAskInRange site a → DelegatesBy key to
      → IsAnswer site index (Some (ops.Delegate reg c host from until)) p p a
  delegate_is key to same same_to can sends range asked =
      let asked_here = subst (λ k. DelegatesBy k (key_of site.keys host)) same (subst (DelegatesBy key) same_to asked) in
      silent_is site index (Some (ops.Delegate reg c host from until)) p a can sends range
      (λ rows table agreed named plan hand y. asked_here rows table agreed (three_named site.here rows p.process.label p.process.own p.process.clear (labels_of site.boxes) named) hand y)

-- ---- of two outcomes, where the one follows from the other

pub if_ok : {A E : Type 0} (P Q : A → Type 0) (r : Result A E) → ((a : A) → P a → Q a) → IfOk r P → IfOk r Q
if_ok P Q (Ok a) more is = more a is
if_ok P Q (Err e) more is = tt
