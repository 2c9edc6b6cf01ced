use Rattle.std.proofs.Common.{◌≡◌, ◌++◌, take}
use Rattle.ds_chain.specs.Delegated.{hops_of_list}
use Rattle.ds_chain.proofs.delegated.add_hops.Given as goal

abbrev pub invariant-loop-place : goal.invariant-loop-place
invariant-loop-place l = l.edges ≡ l.initial.edges ++ hops_of_list l.now l.category (take l.place l.certs)
