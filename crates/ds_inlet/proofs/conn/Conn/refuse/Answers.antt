use Rattle.std.proofs.Common.{refl}
use Rattle.ds_inlet.specs.declared.offer.ConnEntry.TheVariants as entries
use Rattle.ds_inlet.specs.ConnInside.{connection_of}
use Rattle.ds_inlet.proofs.Accepting.{judged_kept}
use Rattle.std.proofs.lemmas.List.Elements.{All-rest}
use Rattle.ds_msg.specs.Ranges.{MessageRange}
use Rattle.ds_inlet.proofs.conn.Conn.refuse.Goals as goal

pub invariant_of-self : goal.invariant_of-self
invariant_of-self c = record {
  read = c.self.invariant.read;
  lane = c.self.invariant.lane;
  offered = c.self.invariant.offered;
  offered_range = c.self.invariant.offered_range;
  hand = All-rest MessageRange c.in-Some.first c.pop_front.new.self.items c.self.inside.hand.items c.in-Some.ensures.items c.self.invariant.hand;
  passed = c.self.invariant.passed;
  so_far = judged_kept (connection_of c.self.inside) (entries.Drop c.args.rule c.in-Some.first.slot) c.pop_front.new.self.items c.self.inside.passed c.push_reserved.new.self.items c.self.invariant.so_far refl c.push_reserved.ensures.items;
}
