-- Parts that go on until one keeps nothing, as the code goes through them.
use Rattle.std.proofs.Common.{◌≡◌, ℕ, suc, ◌-◌, ◌+◌, ◌<◌, ◌≤◌, length, refl, sym, ap, ◌∙◌, arith}
use Rattle.std.specs.Prelude.{◌≢◌}
use Rattle.std.proofs.lemmas.List.{length-map}
use Rattle.ds_model.specs.Step.{Accept, Deliver}
use Rattle.ds_model.specs.Schedule.{Schedule}
use Rattle.ds_plan.specs.declared.doc.Doc.{Doc}
use Rattle.ds_setup.specs.Events.{meant}
use Rattle.ds_setup.specs.Plans.{plan_of}
use Rattle.ds_scheme.specs.TheScheme.{scheme}
use Rattle.ds_world.specs.declared.scheduling.Making.{Making}
use Rattle.ds_world.specs.Makings.{delivers, goes_round, goes_rounds, schedule_of, takes_turns, test_of, tries}
use Rattle.ds_world.specs.Worlds.{WorldState}
use Rattle.ds_world.proofs.Rounds.{delivery_ends, delivery_goes, round_ends, round_goes, turn_ends, turn_goes}

-- so many parts at most: each part does this; where it keeps nothing it is the last
pub record AreParts (parts : ℕ → Schedule → Schedule) (part : Schedule → Schedule) : Type 0 where
  pub none : (sch : Schedule) → parts 0 sch ≡ sch
  pub ends : (most : ℕ) (sch : Schedule) → length (part sch).events ≡ length sch.events
      → parts (suc most) sch ≡ part sch
  pub goes : (most : ℕ) (sch : Schedule) → length (part sch).events ≢ length sch.events
      → parts (suc most) sch ≡ parts most (part sch)

module _ (parts : ℕ → Schedule → Schedule) (part : Schedule → Schedule) (are : AreParts parts part) where
  counts : (w v : WorldState) (m n : Making) → schedule_of v n ≡ part (schedule_of w m)
      → length (part (schedule_of w m)).events ≡ length n.events
  counts w v m n made = ap (λ (x : Schedule). length x.events) (sym made) ∙ length-map n.events meant

  next : (most counter : ℕ) (sch goal : Schedule) → counter < most → parts (most - counter) sch ≡ goal
      → parts (suc (most - (counter + 1))) sch ≡ goal
  next most counter sch goal lt rest =
      let e : most - counter ≡ suc (most - (counter + 1)) = omega arith in
      ap (λ n. parts n sch) (sym e) ∙ rest

  pub begins : (most : ℕ) (sch : Schedule) → parts (most - 0) sch ≡ parts most sch
  begins most sch = let e : most - 0 ≡ most = omega arith in ap (λ n. parts n sch) e

  pub part_ends : (most counter : ℕ) (w v : WorldState) (m n : Making) (goal : Schedule) → counter < most
      → schedule_of v n ≡ part (schedule_of w m) → length n.events ≡ length m.events
      → parts (most - counter) (schedule_of w m) ≡ goal → schedule_of v n ≡ goal
  part_ends most counter w v m n goal lt made same rest =
      let kept_none = counts w v m n made ∙ (same ∙ sym (length-map m.events meant)) in
      made ∙ (sym (are.ends (most - (counter + 1)) (schedule_of w m) kept_none) ∙ next most counter (schedule_of w m) goal lt rest)

  pub part_goes : (most counter : ℕ) (w v : WorldState) (m n : Making) (goal : Schedule) → counter < most
      → schedule_of v n ≡ part (schedule_of w m) → length n.events ≢ length m.events
      → parts (most - counter) (schedule_of w m) ≡ goal → parts (most - (counter + 1)) (schedule_of v n) ≡ goal
  part_goes most counter w v m n goal lt made differ rest =
      ap (parts (most - (counter + 1))) made
      ∙ (sym (are.goes (most - (counter + 1)) (schedule_of w m) (λ same. differ (sym (counts w v m n made) ∙ (same ∙ length-map m.events meant))))
      ∙ next most counter (schedule_of w m) goal lt rest)

  pub over : (most counter : ℕ) (sch goal : Schedule) → most ≤ counter → parts (most - counter) sch ≡ goal → sch ≡ goal
  over most counter sch goal past rest =
      let e : most - counter ≡ 0 = omega (arith, past) in
      sym (are.none sch) ∙ (ap (λ n. parts n sch) (sym e) ∙ rest)

-- THE THREE

pub are_deliveries : (d : Doc) (k : ℕ) → AreParts (delivers d k) (tries d (Deliver k))
are_deliveries d k = record { none = λ sch. refl; ends = delivery_ends (test_of d) scheme (plan_of d) k; goes = delivery_goes (test_of d) scheme (plan_of d) k }

abbrev pub one_turn : Doc → (conn budget : ℕ) → Schedule → Schedule
one_turn d k budget sch = delivers d k budget (tries d (Accept k) sch)

pub are_turns : (d : Doc) (k budget : ℕ) → 0 < budget → AreParts (takes_turns d k budget) (one_turn d k budget)
are_turns d k budget some = record {
  none = λ sch. refl;
  ends = λ most sch. turn_ends (test_of d) scheme (plan_of d) k budget most sch some;
  goes = λ most sch. turn_goes (test_of d) scheme (plan_of d) k budget most sch some;
}

pub are_rounds : (d : Doc) (budget : ℕ) → AreParts (goes_rounds d budget) (goes_round d budget)
are_rounds d budget = record { none = λ sch. refl; ends = round_ends (test_of d) scheme (plan_of d) budget; goes = round_goes (test_of d) scheme (plan_of d) budget }
