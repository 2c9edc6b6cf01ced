use Rattle.std.proofs.Common.{◌≡◌, true}
use Rattle.ds_chain.proofs.Chains.{only_shortest}
use Rattle.ds_chain.proofs.Holdings.{holds_by_chain, chain_of_holder, places_within, holder_kept, closed_set_has_holders}
use Rattle.ds_chain.proofs.Shortest.{shortest_of_holder, shortest_given, given_shortest, holds_given}
use Rattle.ds_chain.proofs.laws.chain_laws.Goals as goal

pub returns-clause-unique : goal.returns-clause-unique
returns-clause-unique g c = λ edges creator key places others p q. only_shortest edges creator key places others p q

pub returns-clause-exists : goal.returns-clause-exists
returns-clause-exists g c = λ same is_same edges creator key. (shortest_of_holder same is_same edges key creator, λ (places, p). holds_by_chain same is_same edges creator key places p.leads)

pub returns-clause-led : goal.returns-clause-led
returns-clause-led g c = λ same is_same edges creator key. (chain_of_holder same is_same edges creator key, λ (places, p). holds_by_chain same is_same edges creator key places p)

pub returns-clause-within : goal.returns-clause-within
returns-clause-within g c = λ edges creator key places p. places_within edges creator key places p

pub returns-clause-closed : goal.returns-clause-closed
returns-clause-closed g c = λ same is_same edges creator inside start step key held. closed_set_has_holders same is_same edges creator (λ k. inside k ≡ true) start step key held

pub returns-clause-given : goal.returns-clause-given
returns-clause-given g c = λ same is_same edges creator key places. (shortest_given same is_same edges key creator places, given_shortest same is_same edges key creator places)

pub returns-clause-none : goal.returns-clause-none
returns-clause-none g c = λ same is_same edges creator key. holds_given same is_same edges key creator

pub returns-clause-kept : goal.returns-clause-kept
returns-clause-kept g c = λ same is_same edges more creator key e. holder_kept same is_same edges more creator key e
