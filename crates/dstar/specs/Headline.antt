-- What `sim` promises of the run whose text it wrote.
use Rattle.std.specs.Prelude.{ℕ, List, Option}
use Rattle.ds_base.specs.Counts.{Told, NoneLeft, Appended}
use Rattle.ds_model.specs.Step.{Event}
use Rattle.ds_plan.specs.declared.doc.Doc.{Doc}
use Rattle.dstar.specs.Sims.{IsRunOf}

-- The input was read to its end, the text of the run of the document that it says was written, and this holds of that document and
-- the events of that run. What input and output told before and after is given.
pub record Ran (told left written after : Option (List ℕ)) (Holds : Doc → List Event → Type 0) : Type 0 where
  pub bytes : List ℕ
  pub taken : Told told bytes left
  pub none_left : NoneLeft left
  pub text : List ℕ
  pub wrote : Appended written text after
  pub run : IsRunOf bytes text
  pub holds : Holds run.document run.runs.events
