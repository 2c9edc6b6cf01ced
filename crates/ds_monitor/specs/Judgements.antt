-- What a judgement answers.
use Rattle.std.specs.Prelude.{◌≡◌, Option, Some, None, Result, Ok, Err}
use Rattle.ds_label.specs.declared.rule.Rule.{Rule}
use Rattle.ds_monitor.specs.declared.fault.ProcFault.{ProcFault}
use Rattle.ds_monitor.specs.declared.fault.ProcFault.TheVariants.{Refused, NoMemory}

-- Ok where no rule fails, and the first that fails where one does; that memory ran out says nothing of rules
abbrev pub Answers : {A : Type 0} → Option Rule → Result A ProcFault → Type 0
Answers rule (Ok a) = rule ≡ None
Answers rule (Err (Refused first)) = rule ≡ Some first
Answers rule (Err NoMemory) = Unit {0}
