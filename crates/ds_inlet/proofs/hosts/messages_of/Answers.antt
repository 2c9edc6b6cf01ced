use Rattle.std.proofs.Common.{length, ap, arith}
use Rattle.std.proofs.lemmas.Grind.{common_steps}
use Rattle.ds_inlet.proofs.Messages.{one_more, in_range_more}
use Rattle.ds_inlet.proofs.Places.{bodies_more}
use Rattle.ds_inlet.proofs.hosts.messages_of.Goals as goal

pub loop-bytes-preserved : goal.loop-bytes-preserved
loop-bytes-preserved c = record {
  reads = grind (arith, common_steps, one_more);
  range = rw c.in_ok-append.ensures (in_range_more c.loop-bytes.messages.items c.in_ok-message.message c.loop-bytes.invariant.range c.in_ok-message.ensures.range);
  place = omega (arith, c.loop-bytes.invariant.place, c.len.ensures, ap length c.bytes-item.is, bodies_more c.args.bodies.now c.loop-bytes.bytes-index c.bytes-item.result c.loop-bytes-test.true);
}
