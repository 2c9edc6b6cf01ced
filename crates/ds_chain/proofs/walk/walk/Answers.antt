use Rattle.std.proofs.Common.{◌≡◌, ℕ, suc, ◌+◌, ◌-◌, ◌++◌, ◌∷◌, [], List, Some, arith, ◌∙◌, ap, subst}
use Rattle.std.proofs.lemmas.Bool.{some_since}
use Rattle.std.proofs.lemmas.List.{append-nil, append_assoc}
use Rattle.ds_chain.specs.Chain.{IsShortestChain}
use Rattle.ds_chain.specs.Distance.{IsFirstNearer}
use Rattle.ds_chain.proofs.Nearer.{some_nearer, nearer_shortest, end_shortest}
use Rattle.ds_chain.proofs.walk.walk.Goals as goal

pub unwrap-step-requires : goal.unwrap-step-requires
unwrap-step-requires c =
    let one : c.args.count - c.loop-walked.walked ≡ suc (c.args.count - 1 - c.loop-walked.walked) = omega arith in
    some_since c.first_nearer.result _ _ c.first_nearer.ensures.none
    (some_nearer c.args.edges.now c.args.key c.args.distances.now c.loop-walked.invariant.settled c.loop-walked.by (c.args.count - 1 - c.loop-walked.walked) (c.loop-walked.invariant.at ∙ ap (λ (n : ℕ). Some n) one))

pub loop-walked-preserved : goal.loop-walked-preserved
loop-walked-preserved c =
    let one : c.args.count - c.loop-walked.walked ≡ suc (c.args.count - 1 - c.loop-walked.walked) = omega arith in
    let less : c.args.count - 1 - c.loop-walked.walked ≡ c.args.count - (c.loop-walked.walked + 1) = omega arith in
    let first : IsFirstNearer c.args.edges.now c.args.distances.now c.loop-walked.by (c.args.count - 1 - c.loop-walked.walked) c.unwrap-step.result.place c.unwrap-step.result.to =
    rw c.unwrap-step.ensures at c.first_nearer.ensures.found in
    record {
      settled = c.loop-walked.invariant.settled;
      at = first.left_over ∙ ap (λ (n : ℕ). Some n) less;
      rest = λ tail least.
          let all : IsShortestChain c.args.edges.now c.args.creator (c.loop-walked.chain.items ++ c.unwrap-step.result.place ∷ tail) c.args.key =
          c.loop-walked.invariant.rest (c.unwrap-step.result.place ∷ tail)
          (nearer_shortest c.args.edges.now c.args.key c.args.distances.now c.loop-walked.invariant.settled c.loop-walked.by (c.args.count - 1 - c.loop-walked.walked) c.unwrap-step.result.place c.unwrap-step.result.to
          (c.loop-walked.invariant.at ∙ ap (λ (n : ℕ). Some n) one) first tail least) in
          rw (c.in_ok-push.ensures.items, append_assoc) all;
    }

pub returns : goal.returns
returns c =
    let none : c.args.count - c.loop-walked.walked ≡ 0 = omega arith in
    let all : IsShortestChain c.args.edges.now c.args.creator (c.loop-walked.chain.items ++ []) c.args.key =
    c.loop-walked.invariant.rest [] (end_shortest c.args.edges.now c.args.key c.args.distances.now c.loop-walked.invariant.settled c.loop-walked.by (c.loop-walked.invariant.at ∙ ap (λ (n : ℕ). Some n) none)) in
    subst (λ (places : List ℕ). IsShortestChain c.args.edges.now c.args.creator places c.args.key) (append-nil c.loop-walked.chain.items) all
