use Rattle.std.proofs.Common.{◌≡◌, ◌+◌, ◌-◌, ◌∷◌, ◌++◌, ◌∙◌, true, false, nat_lt, suc, inl, inr, ap, ap₂, arith, le-ltb, lt-ltb, refl, slice_index}
use Rattle.std.proofs.lemmas.Bool.{cases_lt}
use Rattle.sha2.specs.Sha256.{digest_bytes, sha256}
use Rattle.sha_lanes.specs.Lanes.{chained}
use Rattle.sha_lanes.proofs.steps.all_steps.Goals as goal

pub steps-init : goal.steps-init
unfolding chained
steps-init c l lt =
    let from = slice_index c.args.from l in
    let none : from - from ≡ 0 = omega arith in
    (omega (arith, c.requires.order l lt), λ p len ef. rw none refl)

pub steps-preserved : goal.steps-preserved
unfolding chained
steps-preserved c l lt =
    let from = slice_index c.args.from l in
    let to = slice_index c.args.to l in
    let at = slice_index c.steps.at l in
    let place = (c.steps.invariant l lt).0 in
    let order = c.requires.order l lt in
    let byte = c.requires.bytes l lt in
    elim (cases_lt at to) [
      | inl below ↦
          let test : nat_lt at to ≡ true = lt-ltb at to below in
          let next : slice_index c.advanced-at.result l ≡ at + 1 = rw test at (c.advanced-at.ensures l lt) ∙ omega arith in
          let words = rw test at (c.chosen_words-v.ensures l lt) in
          let more : at + 1 - from ≡ suc (at - from) = omega arith in
          let here : at ≡ from + (at - from) = omega arith in (
            next ∙ omega arith,
            λ p len ef.
                rw (next, more) (ap (λ h. digest_bytes h 8) words ∙ c.step.ensures l lt p len ef
                ∙ ap₂ (λ x d. sha256 (p ++ x ∷ d)) here ((c.steps.invariant l lt).1 p len ef)),
          )
      | inr done ↦
          let test : nat_lt at to ≡ false = le-ltb at to done in
          let next : slice_index c.advanced-at.result l ≡ at = rw test at (c.advanced-at.ensures l lt) in
          let words = rw test at (c.chosen_words-v.ensures l lt) in (
            next ∙ omega arith,
            λ p len ef. rw next (ap (λ h. digest_bytes h 8) words ∙ (c.steps.invariant l lt).1 p len ef),
          )
    ]
