-- Of the run in threads whose text is written.
use Rattle.std.proofs.Common.{◌≡◌, ℕ, List, Ok}
use Rattle.ds_model.specs.Step.{Event}
use Rattle.ds_plan.specs.declared.doc.Doc.{Doc}
use Rattle.ds_doc.specs.Reading.{Document}
use Rattle.ds_sim.proofs.TwoTexts.{looks_the_same}
use Rattle.dstar.specs.Meshes.{LooksTheSameBy}
use Rattle.dstar.proofs.Sims.{is_document_of}

-- so the law over two runs holds of it, by whatever events
pub outside_by : (bytes : List ℕ) (d : Doc) (one : List Event) → Document bytes (Ok d) → LooksTheSameBy d one
outside_by bytes d one reads other e two also c trusted both =
    looks_the_same c trusted d one e two (is_document_of bytes d reads) (is_document_of other e also) both
