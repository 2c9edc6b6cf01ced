use Rattle.std.proofs.Common.{◌≡◌, ℕ, List, ◌-◌, ◌++◌, Some, None, slice_index_or}
use Rattle.ds_chain.specs.Chain.{IsShortestChain}
use Rattle.ds_chain.specs.Distance.{AreSettled}
use Rattle.ds_chain.proofs.walk.walk.Given as goal

abbrev pub invariant-loop-walked : goal.invariant-loop-walked
invariant-loop-walked l =
    record {
      settled : AreSettled l.edges l.key l.distances;
      at : slice_index_or l.distances l.by None ≡ Some (l.count - l.walked);
      rest : (tail : List ℕ) → IsShortestChain l.edges l.by tail l.key → IsShortestChain l.edges l.creator (l.chain.items ++ tail) l.key;
    }
