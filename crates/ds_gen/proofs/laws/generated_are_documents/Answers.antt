use Rattle.ds_gen.proofs.Whole.{documented}
use Rattle.ds_gen.proofs.laws.generated_are_documents.Goals as goal

pub returns : goal.returns
returns c = documented
