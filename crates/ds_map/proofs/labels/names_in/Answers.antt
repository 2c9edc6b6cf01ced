use Rattle.std.proofs.Common.{arith}
use Rattle.ds_label.specs.Names.{by_name}
use Rattle.ds_map.specs.Labels.{name_of}
use Rattle.ds_map.proofs.Images.{image_step, image_done}
use Rattle.ds_map.proofs.labels.names_in.Goals as goal

pub loop-n-preserved : goal.loop-n-preserved
loop-n-preserved c = record {
  so_far = image_step by_name (name_of c.args.table.now.here c.args.table.now.rows) c.args.members.now c.loop-n.n-index _ c.loop-n.names c.add_name.new.label _ c.known_name.result c.loop-n-test.true
      c.known_name.ensures c.in_ok-add_name.ensures.ok c.loop-n.invariant.so_far;
  few = omega (arith, c.in_ok-add_name.ensures.more, c.loop-n.invariant.few);
}

pub returns : goal.returns
returns c = image_done by_name (name_of c.args.table.now.here c.args.table.now.rows) c.args.members.now c.loop-n.n-index c.loop-n.names _ c.loop-n-test.false c.loop-n.invariant.so_far
