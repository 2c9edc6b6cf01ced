use Rattle.std.proofs.Common.{arith}
use Rattle.ds_label.specs.Numbers.{by_number}
use Rattle.ds_model.specs.Mapping.{number_of}
use Rattle.ds_map.proofs.Images.{image_step, image_done}
use Rattle.ds_map.proofs.labels.numbers_in.Goals as goal

pub loop-c-preserved : goal.loop-c-preserved
loop-c-preserved c = record {
  so_far = image_step by_number (number_of c.args.table.now.here c.args.table.now.rows) c.args.members.now c.loop-c.c-index _ c.loop-c.numbers c.add_number.new.label _ c.known_number.result c.loop-c-test.true
      c.known_number.ensures c.in_ok-add_number.ensures.ok c.loop-c.invariant.so_far;
  few = omega (arith, c.in_ok-add_number.ensures.more, c.loop-c.invariant.few);
}

pub returns : goal.returns
returns c = image_done by_number (number_of c.args.table.now.here c.args.table.now.rows) c.args.members.now c.loop-c.c-index c.loop-c.numbers _ c.loop-c-test.false c.loop-c.invariant.so_far
