-- The draft of a value that breaks no rule.
use Rattle.std.specs.Prelude.{◌≡◌, Option, None, Result, Ok, Err}
use Rattle.serde_json.specs.Data.{Data}
use Rattle.ds_doc.specs.declared.fault.Fault.{Fault}
use Rattle.ds_doc.specs.declared.fault.DocFault.{DocFault}
use Rattle.ds_doc.specs.declared.draft.Draft.{Draft}
use Rattle.ds_doc.specs.Draft.{draft_of}
use Rattle.ds_doc.specs.Reading.{AnswersBy, answer_by, fault_of, root_of}

-- the draft where there is no fault, else what the fault answers
abbrev pub CheckedBy : Option Fault → Draft → Result Draft DocFault → Type 0
CheckedBy fault draft (Ok x) = (fault ≡ None) × (x ≡ draft)
CheckedBy fault draft (Err e) = AnswersBy (answer_by fault draft) (Err e)

-- the same of a value's draft, by its fault
abbrev pub Checks : Data → Result Draft DocFault → Type 0
Checks d = CheckedBy (fault_of d) (draft_of (root_of d))
