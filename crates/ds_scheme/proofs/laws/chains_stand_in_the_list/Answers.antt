use Rattle.ds_scheme.proofs.Parts.{held_by_chain, chain_places, no_chain}
use Rattle.ds_scheme.proofs.laws.chains_stand_in_the_list.Goals as goal

pub returns-clause-held : goal.returns-clause-held
returns-clause-held c = held_by_chain

pub returns-clause-places : goal.returns-clause-places
returns-clause-places c = chain_places

pub returns-clause-none : goal.returns-clause-none
returns-clause-none c = no_chain
