use Rattle.std.proofs.Common.{◌≡◌, ◌+◌, ◌<◌, ◌∙◌, [], arith, get_or, get_or-set_other, get_or-set_same, inl, inr, length, length-set, set, take, ap}
use Rattle.std.proofs.lemmas.Bool.{cases_eq}
use Rattle.lms_sig.proofs.leaves.put_all.Goals as goal

pub lanes-preserved : goal.lanes-preserved
lanes-preserved g c =
    let rooms = c.lanes.rooms in
    let l = c.lanes.l in
    let at = c.args.at in
    let room : l < length rooms = omega (arith, c.lanes.invariant.0) in
    let made = c.put_in.new.room in
    let same : get_or (set rooms l made) l [] ≡ made = get_or-set_same rooms l made [] room in
    let value = rw (c.lanes.invariant.1.1 l (omega arith)) at c.put_in.ensures.value in (
      length-set rooms l made ∙ c.lanes.invariant.0,
      (
        λ j below.
            elim (cases_eq j l) [
              | inl e ↦ rw e (ap (take (at + g.row.N)) same ∙ value, ap length same ∙ c.put_in.ensures.length)
              | inr other ↦ rw (get_or-set_other rooms l j made [] other) (c.lanes.invariant.1.0 j (omega arith))
            ],
        λ j past. get_or-set_other rooms l j made [] (λ e. omega arith) ∙ c.lanes.invariant.1.1 j (omega arith),
      ),
    )
