use Rattle.std.proofs.Common.{◌<◌, ◌∙◌, arith, length, length-set, slice_index, ap, inl, inr}
use Rattle.std.proofs.lemmas.Bool.{cases_eq}
use Rattle.lms_sig.proofs.Eights.{put_right}
use Rattle.lms_sig.proofs.lanes.placed.Goals as goal

pub lanes-preserved : goal.lanes-preserved
lanes-preserved c =
    let all = c.lanes.all in
    let l = c.lanes.l in
    let at = slice_index c.args.chains.now l in
    let room : at < length all = omega (arith, c.lanes.invariant.0, c.requires l (omega arith)) in (
      length-set all at _ ∙ c.lanes.invariant.0,
      λ E right.
          let before = c.lanes.invariant.1 E right in
          let here = right l (omega arith) in (
            λ j below. put_right E all at (slice_index c.args.chains.now j) _ room here
                (elim (cases_eq j l) [ inl e ↦ inr (ap (λ k. slice_index c.args.chains.now k) e) | inr other ↦ inl (before.0 j (omega arith)) ]),
            λ n known. put_right E all at n _ room here (inl (before.1 n known)),
          ),
    )
