use Rattle.ds_cert.proofs.Steps.{prefix_free}
use Rattle.ds_msg.specs.Ranges.{MessageFits}
use Rattle.ds_msg.specs.Reading.{message_at}
use Rattle.ds_msg.specs.Spelling.{spelling_of_message}
use Rattle.ds_msg.proofs.RecordLaws.{is_message}
use Rattle.ds_msg.proofs.laws.spellings_are_prefix_free.Goals as goal

pub returns : goal.returns
returns c = prefix_free MessageFits spelling_of_message message_at is_message
