use Rattle.std.proofs.Common.{◌≡◌, ℕ, List, [], ◌∷◌, ◌++◌, ◌∙◌, ap, ap₂, replicate, arith}
use Rattle.std.proofs.lemmas.List.{replicate-append-replicate}
use Rattle.ds_sim.proofs.Begun.{no_bytes}
use Rattle.ds_sim.proofs.beginning.empty_links.Goals as goal

pub loop-made-init : goal.loop-made-init
loop-made-init c = c.in_ok-links.ensures.items

pub loop-made-preserved : goal.loop-made-preserved
loop-made-preserved c =
    c.in_ok-push.ensures.items
    ∙ ap₂ (λ (l : List (List ℕ)) (x : List ℕ). l ++ x ∷ []) c.loop-made.invariant c.new.ensures
    ∙ replicate-append-replicate c.loop-made._made 1 no_bytes

pub returns : goal.returns
returns c =
    let all : c.loop-made._made ≡ c.args.count = omega (c.loop-made-test.false, c.loop-made.auto._made-end, arith) in
    c.loop-made.invariant ∙ ap (λ (n : ℕ). replicate n no_bytes) all
