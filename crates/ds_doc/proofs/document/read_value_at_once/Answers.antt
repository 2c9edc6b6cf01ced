use Rattle.serde_json.specs.View.{view}
use Rattle.ds_doc.proofs.Answered.{keys_answered}
use Rattle.ds_doc.proofs.document.read_value_at_once.Goals as goal

pub returns-clause-keys : goal.returns-clause-keys
returns-clause-keys g c = keys_answered (view c.args.value.now) (λ v. v.items) c.read_parts_at_once.result c.read_parts_at_once.ensures.answer c.read_parts_at_once.ensures.trees
