use Rattle.ds_inlet.proofs.PlainCalls.{plain_arrival, plain_fresh, plain_stale, plain_pass, plain_drop, plain_hand, plain_return}
use Rattle.ds_inlet.proofs.laws.connections_act_as_the_plain_world.Goals as goal

pub returns-clause-arrives : goal.returns-clause-arrives
returns-clause-arrives c = plain_arrival

pub returns-clause-fresh : goal.returns-clause-fresh
returns-clause-fresh c = plain_fresh

pub returns-clause-stale : goal.returns-clause-stale
returns-clause-stale c = plain_stale

pub returns-clause-passes : goal.returns-clause-passes
returns-clause-passes c = plain_pass

pub returns-clause-drops : goal.returns-clause-drops
returns-clause-drops c = plain_drop

pub returns-clause-put : goal.returns-clause-put
returns-clause-put c = plain_hand

pub returns-clause-given_back : goal.returns-clause-given_back
returns-clause-given_back c = plain_return
