use Rattle.std.proofs.Common.{subst}
use Rattle.ds_model.specs.ProcessStep.{PublicAct}
use Rattle.ds_actor.specs.declared.ask.DeskRequest.{DeskRequest}
use Rattle.ds_actor.specs.Asks.{act_of}
use Rattle.ds_exporter.specs.Stepping.{Asks, always}
use Rattle.ds_exporter.proofs.exporter.Exporter.act.Goals as goal

pub import-requires-clause-asks : goal.import-requires-clause-asks
import-requires-clause-asks g c =
    let asks = subst (λ (request : DeskRequest). Asks c.args.index c.args.self.now (always (PublicAct (act_of request) c.args.reg c.args.host))) c.in-Importing.is c.requires.asks in
    (c.args.reg, c.args.host, λ x h. asks x h)

pub map-requires-clause-asks : goal.map-requires-clause-asks
map-requires-clause-asks g c =
    let asks = subst (λ (request : DeskRequest). Asks c.args.index c.args.self.now (always (PublicAct (act_of request) c.args.reg c.args.host))) c.in-Mapping.is c.requires.asks in
    (c.args.reg, c.args.host, λ x h. asks x h)
