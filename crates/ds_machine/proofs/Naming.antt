-- Names are of one object each.
use Rattle.std.proofs.Common.{◌≡◌, ℕ, zero, suc, Bool, true, false, Option, Some, None, option_map, refl, sym, ◌∙◌, ap, subst, arith, eqb, eqb-true, eq-eqb}
use Rattle.std.specs.Prelude.{◌==◌, ◌&&◌, if◌then◌else◌}
use Rattle.std.proofs.lemmas.List.Quantifiers.{position-Some}
use Rattle.ds_model.specs.Plan.{HostPlan, Plan, host_plan, box_plan, no_box}
use Rattle.ds_model.specs.ProcessStep.{box_of}
use Rattle.ds_model.proofs.Places.{none_some, some_is}
use Rattle.ds_merge.specs.declared.kept.ObjectName.{ObjectName}
use Rattle.ds_merge.specs.Standing.{same_name}
use Rattle.ds_merge.proofs.Derived.{same_name_is}
use Rattle.ds_replay.specs.Objects.{Object, TheDesk, MailboxAt, LaneAt, InletAt, same_object}
use Rattle.ds_machine.specs.Names.{name_of, lane_numbered, object_of, IsNamed}
use Rattle.ds_machine.specs.Laws.{NamesAreOnes, ObjectsHaveNames}

module _ (plan : HostPlan) (h kind id : ℕ) (object : Object) where
  -- its name is this one
  abbrev Ties : Type 0
  Ties = name_of plan h object ≡ record { host = h; kind = kind; id = id }

  desk_ties : eqb kind 1 ≡ true → (z : Bool) → eqb id 0 ≡ z → (if z then Some TheDesk else None) ≡ Some object → Ties
  desk_ties p true q e = subst (λ o. name_of plan h o ≡ record { host = h; kind = kind; id = id }) (some_is TheDesk object e) (λ j. record { host = h; kind = sym (eqb-true kind 1 p) j; id = sym (eqb-true id 0 q) j })
  desk_ties p false q e = absurd (none_some object e)

  box_ties : eqb kind 2 ≡ true → (o : Option ℕ) → box_of plan id ≡ o → option_map MailboxAt o ≡ Some object → Ties
  box_ties p None q e = absurd (none_some object e)
  box_ties p (Some b) q e =
      let slot : (box_plan plan b).slot ≡ id = eqb-true (box_plan plan b).slot id (position-Some (λ x. x.slot == id) plan.boxes b no_box q).1 in
      subst (λ o. name_of plan h o ≡ record { host = h; kind = kind; id = id }) (some_is (MailboxAt b) object e) (λ j. record { host = h; kind = sym (eqb-true kind 2 p) j; id = slot j })

  lane_ties : eqb kind 3 ≡ true → (i : ℕ) → i ≡ id → lane_numbered i ≡ Some object → Ties
  lane_ties p zero q e = absurd (none_some object e)
  lane_ties p (suc l) q e = subst (λ o. name_of plan h o ≡ record { host = h; kind = kind; id = id }) (some_is (LaneAt l) object e) (λ j. record { host = h; kind = sym (eqb-true kind 3 p) j; id = q j })

  inlet_ties : eqb kind 4 ≡ true → Some (InletAt id) ≡ Some object → Ties
  inlet_ties p e = subst (λ o. name_of plan h o ≡ record { host = h; kind = kind; id = id }) (some_is (InletAt id) object e) (λ j. record { host = h; kind = sym (eqb-true kind 4 p) j; id = id })

  by_kind : (a b c d : Bool) → eqb kind 1 ≡ a → eqb kind 2 ≡ b → eqb kind 3 ≡ c → eqb kind 4 ≡ d →
      (if a then (if id == 0 then Some TheDesk else None) else if b then option_map MailboxAt (box_of plan id) else if c then lane_numbered id else if d then Some (InletAt id) else None) ≡ Some object → Ties
  by_kind true b c d p q r t e = desk_ties p (eqb id 0) refl e
  by_kind false true c d p q r t e = box_ties q (box_of plan id) refl e
  by_kind false false true d p q r t e = lane_ties r id refl e
  by_kind false false false true p q r t e = inlet_ties t e
  by_kind false false false false p q r t e = absurd (none_some object e)

pub names_are_ones : NamesAreOnes
names_are_ones plan name object e = by_kind (host_plan plan name.host) name.host name.kind name.id object (eqb name.kind 1) (eqb name.kind 2) (eqb name.kind 3) (eqb name.kind 4) refl refl refl refl e

pub objects_have_names : ObjectsHaveNames
objects_have_names plan h TheDesk is = refl
objects_have_names plan h (MailboxAt b) is = ap (option_map MailboxAt) is
objects_have_names plan h (LaneAt l) is = refl
objects_have_names plan h (InletAt i) is = refl

-- TESTS

same_bool : (a b : Bool) → (a ≡ true → b ≡ true) → (b ≡ true → a ≡ true) → a ≡ b
same_bool true b f g = sym (f refl)
same_bool false true f g = g refl
same_bool false false f g = refl

both : (a b : Bool) → a ≡ true → b ≡ true → (a && b) ≡ true
both a b p q = grind arith

first : (a b : Bool) → (a && b) ≡ true → a ≡ true
first a b p = grind arith

second : (a b : Bool) → (a && b) ≡ true → b ≡ true
second a b p = grind arith

name_itself : (a : ObjectName) → same_name a a ≡ true
name_itself a = both _ _ (eq-eqb a.host a.host refl) (both _ _ (eq-eqb a.kind a.kind refl) (eq-eqb a.id a.id refl))

object_itself : (o : Object) → same_object o o ≡ true
object_itself TheDesk = refl
object_itself (MailboxAt b) = eq-eqb b b refl
object_itself (LaneAt l) = eq-eqb l l refl
object_itself (InletAt i) = eq-eqb i i refl

same_object_is : (a b : Object) → same_object a b ≡ true → a ≡ b
same_object_is TheDesk TheDesk e = refl
same_object_is TheDesk (MailboxAt b) e = absurd (grind arith)
same_object_is TheDesk (LaneAt b) e = absurd (grind arith)
same_object_is TheDesk (InletAt b) e = absurd (grind arith)
same_object_is (MailboxAt a) TheDesk e = absurd (grind arith)
same_object_is (MailboxAt a) (MailboxAt b) e = ap MailboxAt (eqb-true a b e)
same_object_is (MailboxAt a) (LaneAt b) e = absurd (grind arith)
same_object_is (MailboxAt a) (InletAt b) e = absurd (grind arith)
same_object_is (LaneAt a) TheDesk e = absurd (grind arith)
same_object_is (LaneAt a) (MailboxAt b) e = absurd (grind arith)
same_object_is (LaneAt a) (LaneAt b) e = ap LaneAt (eqb-true a b e)
same_object_is (LaneAt a) (InletAt b) e = absurd (grind arith)
same_object_is (InletAt a) TheDesk e = absurd (grind arith)
same_object_is (InletAt a) (MailboxAt b) e = absurd (grind arith)
same_object_is (InletAt a) (LaneAt b) e = absurd (grind arith)
same_object_is (InletAt a) (InletAt b) e = ap InletAt (eqb-true a b e)

-- the name of an object of host g is this name of that object exactly where both are one
pub names_tie : (plan : Plan) (g : ℕ) (mine : Object) (name : ObjectName) (object : Object) → IsNamed (host_plan plan g) mine → object_of plan name ≡ Some object →
    same_name (name_of (host_plan plan g) g mine) name ≡ ((g == name.host) && same_object mine object)
names_tie plan g mine name object named is = same_bool _ _ there back
  where
    there : same_name (name_of (host_plan plan g) g mine) name ≡ true → ((g == name.host) && same_object mine object) ≡ true
    there e =
        let one : name_of (host_plan plan g) g mine ≡ name = same_name_is (name_of (host_plan plan g) g mine) name e in
        let same : mine ≡ object = some_is mine object (sym (objects_have_names plan g mine named) ∙ (ap (object_of plan) one ∙ is)) in
        both (g == name.host) (same_object mine object) (eq-eqb g name.host (host_is mine one)) (subst (λ o. same_object mine o ≡ true) same (object_itself mine))
      where
        host_is : (o : Object) → name_of (host_plan plan g) g o ≡ name → g ≡ name.host
        host_is TheDesk q = ap (λ (n : ObjectName). n.host) q
        host_is (MailboxAt b) q = ap (λ (n : ObjectName). n.host) q
        host_is (LaneAt l) q = ap (λ (n : ObjectName). n.host) q
        host_is (InletAt i) q = ap (λ (n : ObjectName). n.host) q

    back : ((g == name.host) && same_object mine object) ≡ true → same_name (name_of (host_plan plan g) g mine) name ≡ true
    back e =
        let at : g ≡ name.host = eqb-true g name.host (first (g == name.host) (same_object mine object) e) in
        let same : mine ≡ object = same_object_is mine object (second (g == name.host) (same_object mine object) e) in
        let one : name_of (host_plan plan g) g mine ≡ name = (λ j. name_of (host_plan plan (at j)) (at j) (same j)) ∙ names_are_ones plan name object is in
        subst (λ n. same_name n name ≡ true) (sym one) (name_itself name)

-- a name of no object is no object's
pub no_tie : (plan : Plan) (g : ℕ) (mine : Object) (name : ObjectName) → IsNamed (host_plan plan g) mine → object_of plan name ≡ None → same_name (name_of (host_plan plan g) g mine) name ≡ false
no_tie plan g mine name named none = go (same_name (name_of (host_plan plan g) g mine) name) refl
  where
    go : (b : Bool) → same_name (name_of (host_plan plan g) g mine) name ≡ b → b ≡ false
    go false e = refl
    go true e = absurd (none_some mine (sym none ∙ (ap (object_of plan) (sym (same_name_is (name_of (host_plan plan g) g mine) name e)) ∙ objects_have_names plan g mine named)))
