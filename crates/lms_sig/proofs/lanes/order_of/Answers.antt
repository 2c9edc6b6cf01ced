use Rattle.std.proofs.Common.{◌∙◌, ap, arith}
use Rattle.lms_sig.specs.declared.lanes.Turn.{Turn}
use Rattle.lms_sig.proofs.lanes.order_of.Goals as goal

pub returns-clause-within : goal.returns-clause-within
returns-clause-within c k below =
    let none : Turn = record { spare = 0; chain = 0 } in
    let same = c.places.invariant.1 k (omega arith) none in
    omega (arith, same, c.sorted_turns-turns.ensures.within k none (omega (arith, c.sorted_turns-turns.ensures.size)))

pub returns-clause-each : goal.returns-clause-each
returns-clause-each c i below =
    let w = c.sorted_turns-turns.ensures.each i below in
    record {
      place = w.0;
      below = omega (arith, w.2, c.sorted_turns-turns.ensures.size);
      here = c.places.invariant.1 w.0 (omega (arith, w.2, c.sorted_turns-turns.ensures.size)) w.1 ∙ ap (λ (t : Turn). t.chain) w.3 ∙ w.4;
    }
