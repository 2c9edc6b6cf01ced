use Rattle.std.proofs.Common.{◌≡◌, ◌++◌, map, take, drop}
use Rattle.ds_chain.specs.Delegated.{hops_of_list}
use Rattle.ds_chain.specs.Postings.{places_from}
use Rattle.ds_chain.proofs.delegated.add_listed.Given as goal

abbrev pub invariant-loop-place : goal.invariant-loop-place
invariant-loop-place l =
    record {
      edges : l.edges ≡ l.initial.edges ++ hops_of_list l.now l.category (take l.place l.certs);
      left : drop l.next (map (λ p. p.place) l.postings) ≡ places_from l.category l.place (drop l.place l.certs);
    }
