-- Reading a document that may list no events, since the calls that run all hosts make the events themselves.
use Rattle.std.specs.Prelude.{◌≡◌, ◌⊎◌, ℕ, List, codes, true, is_some, Option, Some, None, option_map, Result, Ok, Err}
use Rattle.serde_json.specs.Data.{Data}
use Rattle.ds_plan.specs.declared.doc.Doc.{Doc}
use Rattle.ds_doc.specs.declared.fault.DocFault.{DocFault}
use Rattle.ds_doc.specs.declared.fault.DocFault.TheVariants.{Refused, NoMemory}
use Rattle.ds_doc.specs.Places.{Spot, member}
use Rattle.ds_doc.specs.Reading.{Document, Reads, answer_of, root_of}

-- the place of a value
abbrev pub place_of : Spot → ℕ
place_of s = s.at

-- where a value lists events
abbrev pub events_at : Data → Option ℕ
events_at d = option_map place_of (member (codes "events") (root_of d))

-- a value is a document that lists events: code 13, at these events
pub record ListsEvents (d : Data) (code at : ℕ) : Type 0 where
  pub document : Doc
  pub reads : answer_of d ≡ Ok document
  pub listed : is_some document.events ≡ true
  pub code_is : code ≡ 13
  pub place_is : events_at d ≡ Some at

-- the bytes say such a document
abbrev pub SaysEvents : List ℕ → (code at : ℕ) → Type 0
SaysEvents bytes code at = (d : Data) × Reads bytes d × ListsEvents d code at

-- What reading answered, unless memory ran out: the document that the bytes say, which lists no events; the least fault; or that
-- events are listed.
abbrev pub AnswersWithoutEvents : List ℕ → Result Doc DocFault → Type 0
AnswersWithoutEvents bytes (Ok doc) = Document bytes (Ok doc) × (doc.events ≡ None)
AnswersWithoutEvents bytes (Err NoMemory) = Unit {0}
AnswersWithoutEvents bytes (Err (Refused code at)) = Document bytes (Err (code, at)) ⊎ SaysEvents bytes code at

-- the same of one value
abbrev pub AnswersOf : Data → Result Doc DocFault → Type 0
AnswersOf d (Ok doc) = (answer_of d ≡ Ok doc) × (doc.events ≡ None)
AnswersOf d (Err NoMemory) = Unit {0}
AnswersOf d (Err (Refused code at)) = (answer_of d ≡ Err (code, at)) ⊎ ListsEvents d code at
