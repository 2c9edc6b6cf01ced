-- What a judgement answers.
use Rattle.std.specs.Prelude.{◌≡◌, ℕ, List, [], ◌∷◌, Option, Some, None, Result, Ok, Err}
use Rattle.ds_label.specs.declared.rule.Rule.{Rule}
use Rattle.ds_flow.specs.declared.fault.FlowFault.{FlowFault}
use Rattle.ds_flow.specs.declared.fault.FlowFault.TheVariants.{Drop, NoMemory}

-- Ok where no rule fails, else the first rule that does, unless memory ran out.
abbrev pub Judges : {A : Type 0} → Option Rule → Result A FlowFault → Type 0
Judges rule (Ok a) = rule ≡ None
Judges rule (Err (Drop first)) = rule ≡ Some first
Judges rule (Err NoMemory) = Unit {0}

-- the labels of a judgement for a mailbox
abbrev pub box_labels : Option (List ℕ) → List ℕ → List (List ℕ)
box_labels None label = label ∷ []
box_labels (Some target) label = target ∷ label ∷ []
