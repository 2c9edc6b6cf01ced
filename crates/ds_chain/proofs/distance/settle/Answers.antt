use Rattle.std.proofs.Common.{◌≡◌, arith, sym, subst, List, ℕ}
use Rattle.std.specs.Prelude.{Option}
use Rattle.std.proofs.lemmas.Bool.{OnFalse_at}
use Rattle.ds_chain.specs.Distance.{AreKnown}
use Rattle.ds_chain.proofs.Levels.{settled_still, settled_all}
use Rattle.ds_chain.proofs.distance.settle.Goals as goal

pub returns-then-not-add_level : goal.returns-then-not-add_level
returns-then-not-add_level c =
    let e : c.add_level.new.distances ≡ c.loop-level.distances = OnFalse_at c.if-not-add_level.true c.add_level.ensures.none in
    record {
      settled = λ key start.
          settled_still c.args.edges.now key c.loop-level.level c.add_level.new.distances
          (subst (λ (distances : List (Option ℕ)). AreKnown c.args.edges.now key c.loop-level.level distances) (sym e) (c.loop-level.invariant key start))
          (c.add_level.ensures.known key (c.loop-level.invariant key start));
    }

pub loop-level-preserved : goal.loop-level-preserved
loop-level-preserved c = λ key start. c.add_level.ensures.known key (c.loop-level.invariant key start)

pub returns : goal.returns
returns c = record { settled = λ key start. settled_all c.args.edges.now key c.loop-level.level c.loop-level.distances (omega arith) (c.loop-level.invariant key start) }
