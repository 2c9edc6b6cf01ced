use Rattle.ds_msg.proofs.Places.{message_length}
use Rattle.ds_msg.proofs.laws.messages_are_short.Goals as goal

pub returns : goal.returns
returns c = message_length
