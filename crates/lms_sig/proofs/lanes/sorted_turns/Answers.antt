use Rattle.std.proofs.Common.{◌≡◌, ◌<◌, ◌∙◌, arith, length, length-set, refl, slice_index_or}
use Rattle.lms_sig.proofs.Eights.{filled}
use Rattle.lms_sig.specs.declared.lanes.Turn.{Turn}
use Rattle.std.proofs.lemmas.List.Sorted.{All-permutation, Contains-permutation}
use Rattle.std.proofs.lemmas.List.{get_or_default}
use Rattle.lms_sig.proofs.lanes.sorted_turns.Goals as goal

pub chains-preserved : goal.chains-preserved
chains-preserved c = (
  length-set c.chains.turns c.chains.i _ ∙ c.chains.invariant.0,
  λ j below t. filled (λ j v. v.chain ≡ j) c.chains.turns c.chains.i 72 _ t c.chains.invariant.0 (omega arith) (λ j before. c.chains.invariant.1 j before t) refl j below,
)

pub returns-clause-within : goal.returns-clause-within
returns-clause-within c =
    All-permutation (λ t. t.chain < 72) c.chains.turns c.sort_unstable.new.self c.sort_unstable.ensures.permutation
    (λ k d below. omega (arith, c.chains.invariant.1 k (omega arith) d))

pub returns-clause-each : goal.returns-clause-each
returns-clause-each c i below =
    let none : Turn = record { spare = 0; chain = 0 } in
    let turns = c.chains.turns in
    let t : Turn = slice_index_or turns i none in
    let room : i < length turns = omega arith in
    let found = Contains-permutation turns c.sort_unstable.new.self t c.sort_unstable.ensures.permutation (i, room, get_or_default turns i t none room) in
    (found.0, t, found.1, found.2, c.chains.invariant.1 i (omega arith) none)
