use Rattle.ds_turn.proofs.ConnTurning.{leads_arrived, leads_new}
use Rattle.ds_turn.proofs.conn_laws.connections_lead_to_their_hosts.Goals as goal

pub returns-clause-new : goal.returns-clause-new
returns-clause-new c = leads_new

pub returns-clause-arrives : goal.returns-clause-arrives
returns-clause-arrives c = leads_arrived
