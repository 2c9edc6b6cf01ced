use Rattle.std.proofs.Common.{Option, Some, refl, sym, ap, subst, ◌∙◌}
use Rattle.ds_inlet.specs.declared.offer.ConnEntry.TheVariants as entries
use Rattle.ds_inlet.specs.OfferedFrames.{OfferedFrame}
use Rattle.ds_inlet.specs.Connections.{IsForInlet, AreOfferedInRange, lane_inlet_of}
use Rattle.ds_inlet.specs.ConnInside.{connection_of}
use Rattle.ds_inlet.proofs.Accepting.{settled_kept}
use Rattle.ds_inlet.proofs.conn.Conn.settle.Goals as goal

pub invariant_of-self : goal.invariant_of-self
invariant_of-self c =
    let there = sym c.take.ensures.value ∙ c.in-Some.is ∙ ap Some (sym c.offered.view_is) in
    record {
      read = c.self.invariant.read;
      lane = c.self.invariant.lane;
      offered = subst (λ (o : Option OfferedFrame). IsForInlet (lane_inlet_of c.self.inside.inlets c.self.inside.lane) o) (sym c.take.ensures.after) tt;
      offered_range = subst (λ (o : Option OfferedFrame). AreOfferedInRange o) (sym c.take.ensures.after) tt;
      hand = c.self.invariant.hand;
      passed = c.self.invariant.passed;
      so_far = settled_kept (connection_of c.self.inside) _ (entries.Stale c.offered.inside.number) c.take.new.self c.self.inside.hand.items c.push_reserved.new.self.items c.self.invariant.so_far there refl c.take.ensures.after c.push_reserved.ensures.items;
    }

pub invariant_of-self-2 : goal.invariant_of-self-2
invariant_of-self-2 c =
    let there = sym c.take.ensures.value ∙ c.in-Some.is ∙ ap Some (sym c.offered.view_is) in
    record {
      read = c.self.invariant.read;
      lane = c.self.invariant.lane;
      offered = subst (λ (o : Option OfferedFrame). IsForInlet (lane_inlet_of c.self.inside.inlets c.self.inside.lane) o) (sym c.take.ensures.after) tt;
      offered_range = subst (λ (o : Option OfferedFrame). AreOfferedInRange o) (sym c.take.ensures.after) tt;
      hand = subst (λ (o : Option OfferedFrame). AreOfferedInRange o) there c.self.invariant.offered_range;
      passed = c.self.invariant.passed;
      so_far = settled_kept (connection_of c.self.inside) _ (entries.Frame c.offered.inside.number c.len-count.result) c.take.new.self c.offered.inside.messages.items c.push_reserved-2.new.self.items c.self.invariant.so_far there refl c.take.ensures.after c.push_reserved-2.ensures.items;
    }
