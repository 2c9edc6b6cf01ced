use Rattle.ds_frame.proofs.PrefixFree.{hellos_prefix_free, frames_prefix_free}
use Rattle.ds_frame.proofs.laws.values_are_prefix_free.Goals as goal

pub returns : goal.returns
returns c = record { hello = hellos_prefix_free; frame = frames_prefix_free }
