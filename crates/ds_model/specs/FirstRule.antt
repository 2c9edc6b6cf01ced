-- The first rule that fails. A test gives None where it passes and else the rule that it breaks.
use Rattle.std.specs.Prelude.{Bool, true, false, not, ◌||◌, List, [], ◌∷◌, Option, Some, None}
use Rattle.ds_label.specs.declared.rule.Rule.{Rule}
use Rattle.ds_label.specs.Flow.{Naming}

-- the rule, unless the test passes
abbrev pub unless : Bool → Rule → Option Rule
unless true rule = None
unless false rule = Some rule

-- the first rule, or where there is none the second
abbrev pub or_else : Option Rule → Option Rule → Option Rule
or_else None second = second
or_else (Some rule) second = Some rule

-- the first rule that fails, of tests in their order
abbrev pub first_rule : List (Option Rule) → Option Rule
first_rule [] = None
first_rule (test ∷ tests) = or_else test (first_rule tests)

-- the rule of the first member of a label that fails a test
abbrev pub each_member : {C : Type 0} → (C → Bool) → (C → Rule) → List C → Option Rule
each_member test rule [] = None
each_member test rule (c ∷ members) = or_else (unless (test c) (rule c)) (each_member test rule members)

-- the rule of the first secrecy category of a label that fails a test
abbrev pub each_secret : {C : Type 0} → Naming C → (C → Bool) → (C → Rule) → List C → Option Rule
each_secret naming test rule [] = None
each_secret naming test rule (c ∷ members) = or_else (unless (not (naming.secret c) || test c) (rule c)) (each_secret naming test rule members)
