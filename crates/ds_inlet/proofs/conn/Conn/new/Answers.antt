use Rattle.std.proofs.Common.{arith, subst, sym, List}
use Rattle.std.specs.List.{All}
use Rattle.std.proofs.lemmas.Grind.{common_steps}
use Rattle.ds_msg.specs.Ranges.{MessageRange}
use Rattle.ds_msg.specs.declared.message.Message.{Message}
use Rattle.ds_inlet.proofs.Accepting.{new_kept}
use Rattle.ds_inlet.proofs.conn.Conn.new.Goals as goal

pub invariant_of-result : goal.invariant_of-result
invariant_of-result c = record {
  read = omega arith;
  lane = tt;
  offered = tt;
  offered_range = tt;
  hand = subst (λ (ms : List Message). All MessageRange ms) (sym c.new-2.ensures.items) (grind (arith, common_steps));
  passed = tt;
  so_far = new_kept c.args.who c.args.here c.args.inlets c.new.result.items c.new-2.result.items c.new-3.result.items c.new.ensures.items c.new-3.ensures.items;
}
