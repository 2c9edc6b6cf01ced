use Rattle.std.proofs.Common.{◌≡◌, true, List, [], subst, sym}
use Rattle.std.specs.Prelude.{Option, IsTrue}
use Rattle.std.proofs.lemmas.List.{map-append}
use Rattle.ds_label.specs.declared.category.PubKey.{PubKey}
use Rattle.ds_chain.specs.declared.edge.Edge.{Edge}
use Rattle.ds_chain.specs.Delegated.{hop_of, hops_of_list}
use Rattle.ds_chain.specs.Holding.{holds}
use Rattle.ds_chain.specs.Keys.{same_key}
use Rattle.ds_chain.proofs.Chains.{shortest_here}
use Rattle.ds_chain.proofs.Delegations.{delegates_hop, hop_delegates, hop_is}
use Rattle.ds_chain.proofs.Holdings.{closed_list_has_holders, holder_kept}
use Rattle.ds_chain.proofs.Numbered.{same_key_is}
use Rattle.ds_chain.proofs.Shortest.{given_shortest, holds_given, shortest_given}
use Rattle.ds_chain.proofs.laws.delegation_laws.Goals as goal

pub returns-clause-edge : goal.returns-clause-edge
returns-clause-edge c = λ certs moment category place by to. (hop_delegates certs moment category place by to, delegates_hop certs moment category place by to)

pub returns-clause-creator : goal.returns-clause-creator
returns-clause-creator c = λ certs moment category.
    let edges = hops_of_list moment category certs in
    given_shortest same_key same_key_is edges category.creator category.creator [] (shortest_here edges category.creator)

pub returns-clause-led : goal.returns-clause-led
returns-clause-led c = λ certs moment category key. holds_given same_key same_key_is (hops_of_list moment category certs) key category.creator

pub returns-clause-shortest : goal.returns-clause-shortest
returns-clause-shortest c = λ certs moment category key places.
    let edges = hops_of_list moment category certs in
    (shortest_given same_key same_key_is edges key category.creator places, given_shortest same_key same_key_is edges key category.creator places)

pub returns-clause-kept : goal.returns-clause-kept
returns-clause-kept c = λ certs more moment category key held.
    let edges = hops_of_list moment category certs in
    let others = hops_of_list moment category more in
    subst (λ (all : List (Option (Edge PubKey))). IsTrue (holds same_key all category.creator key)) (sym (map-append (hop_of moment category) certs more))
    (holder_kept same_key same_key_is edges others category.creator key held)

pub returns-clause-closed : goal.returns-clause-closed
returns-clause-closed c = λ certs moment category inside start step key held.
    closed_list_has_holders same_key same_key_is (hop_of moment category) certs category.creator (λ k. inside k ≡ true) start
    (λ cert there edge is within.
    let known = hop_is moment category cert edge is in
    let signer : inside cert.by ≡ true = rw known.signer within in
    rw (← known.named) (step cert there known.counts.subject known.counts.good signer))
    key held
