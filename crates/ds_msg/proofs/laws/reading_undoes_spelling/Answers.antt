use Rattle.ds_msg.proofs.RecordLaws.{is_message}
use Rattle.ds_msg.proofs.laws.reading_undoes_spelling.Goals as goal

pub returns : goal.returns
returns c = is_message
