use Rattle.std.proofs.Common.{arith}
use Rattle.ds_frame.proofs.Lengths.{messages_in_range}
use Rattle.ds_rows.proofs.rows_frame.messages.Goals as goal

pub returns : goal.returns
returns c = messages_in_range c.loop.bodies (omega (arith, c.loop.invariant.0, c.loop-test.false, c.requires.some)) (omega (arith, c.loop.invariant.0, c.loop.auto.counter-end, c.requires.most)) c.loop.invariant.1
