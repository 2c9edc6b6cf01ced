use Rattle.ds_frame.proofs.Written.{stream_of}
use Rattle.ds_frame.proofs.laws.streams_carry_what_was_written.Goals as goal

pub returns : goal.returns
returns c = stream_of
