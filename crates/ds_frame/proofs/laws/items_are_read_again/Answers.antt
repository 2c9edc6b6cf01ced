use Rattle.ds_frame.proofs.Written.{hello_item, frame_item}
use Rattle.ds_frame.proofs.laws.items_are_read_again.Goals as goal

pub returns : goal.returns
returns c = record { hello = hello_item; frame = frame_item }
