-- What reading a document answers: the document, or the least code of a rule that it breaks with the least place.
use Rattle.std.specs.Prelude.{◌≡◌, ℕ, List, Bool, false, nat_lt, if◌then◌else◌, Option, Some, None, Result, Ok, Err, ◌⊎◌}
use Rattle.std.specs.Str.{IsUtf8}
use Rattle.serde_json.specs.Data.{Data}
use Rattle.serde_json.specs.Read.{read}
use Rattle.lms_sig.specs.Keys.{Key}
use Rattle.ds_plan.specs.declared.doc.Doc.{Doc}
use Rattle.ds_plan.specs.Keys.{identity_of}
use Rattle.ds_doc.specs.declared.fault.Fault.{Fault}
use Rattle.ds_doc.specs.declared.fault.DocFault.{DocFault}
use Rattle.ds_doc.specs.declared.fault.DocFault.TheVariants.{Refused, NoMemory}
use Rattle.ds_doc.specs.declared.form.Form.TheVariants.{Object}
use Rattle.ds_doc.specs.declared.form.Object.TheVariants.{Document as DocumentForm}
use Rattle.ds_doc.specs.declared.draft.Draft.{Draft}
use Rattle.ds_doc.specs.declared.draft.DraftHost.{DraftHost}
use Rattle.ds_doc.specs.Places.{Spot}
use Rattle.ds_doc.specs.Shapes.{judged, least, lesser}
use Rattle.ds_doc.specs.Draft.{draft_of}
use Rattle.ds_doc.specs.Rules.{rules, over_full}
use Rattle.ds_doc.specs.Values.{doc_of}

abbrev pub root_of : Data → Spot
root_of d = record { at = 0; value = d }

-- a form isn't kept: codes 2, 3 and 4
abbrev pub is_misshapen : Option Fault → Bool
is_misshapen None = false
is_misshapen (Some f) = nat_lt f.code 5

abbrev pub or_by_rules : Option Fault → Draft → Option Fault
or_by_rules (Some f) draft = Some f
or_by_rules None draft = least (rules draft)

-- The forms come first, then the limits, where also the room for address certificates counts, then all other rules. So
-- no rule is asked of a value that hasn't its form.
unfoldable pub fault_by : Option Fault → Draft → Option Fault
fault_by form draft = if is_misshapen form then form else or_by_rules (lesser form (least (over_full draft))) draft

unfoldable pub fault_of : Data → Option Fault
fault_of d = fault_by (least (judged (Object DocumentForm) 0 d)) (draft_of (root_of d))

abbrev pub answer_by : Option Fault → Draft → Result Doc (ℕ × ℕ)
answer_by (Some f) draft = Err (f.code, f.at)
answer_by None draft = Ok (doc_of draft)

-- the least fault, or the document
unfoldable pub answer_of : Data → Result Doc (ℕ × ℕ)
answer_of d = answer_by (fault_of d) (draft_of (root_of d))

-- the bytes are a text, and the text is that value
abbrev pub Reads : List ℕ → Data → Type 0
Reads bytes d = IsUtf8 bytes × (read bytes ≡ Some d)

-- the bytes are no text, or the text is no value
abbrev pub IsNoValue : List ℕ → Type 0
IsNoValue bytes = IsUtf8 bytes → read bytes ≡ None

-- What bytes say: the document, or the code and place of the least fault. Where they are no value, these are 1 and 0.
abbrev pub Document : List ℕ → Result Doc (ℕ × ℕ) → Type 0
Document bytes r = (IsNoValue bytes × (r ≡ Err (1, 0))) ⊎ ((d : Data) × Reads bytes d × (r ≡ answer_of d))

-- What reading answered: what the bytes say, unless memory ran out.
abbrev pub Answers : List ℕ → Result Doc DocFault → Type 0
Answers bytes (Ok doc) = Document bytes (Ok doc)
Answers bytes (Err NoMemory) = Unit {0}
Answers bytes (Err (Refused code at)) = Document bytes (Err (code, at))

-- the answer without what stands beside the document
abbrev pub first_of : {B : Type 0} → Result (Doc × B) DocFault → Result Doc DocFault
first_of (Ok r) = Ok r.0
first_of (Err e) = Err e

-- the identity key of a running host
abbrev pub identity : DraftHost → Option Key
identity h = identity_of h.identity h.secret.value

-- the same of one answer
abbrev pub AnswersBy : Result Doc (ℕ × ℕ) → Result Doc DocFault → Type 0
AnswersBy r (Ok doc) = r ≡ Ok doc
AnswersBy r (Err NoMemory) = Unit {0}
AnswersBy r (Err (Refused code at)) = r ≡ Err (code, at)

abbrev pub refusal : Option Fault → DocFault
refusal None = NoMemory
refusal (Some f) = Refused f.code f.at
