use Rattle.std.proofs.Common.{◌∙◌}
use Rattle.ds_flow.proofs.Flows.{attached_is}
use Rattle.ds_flow.proofs.attaching.attach.Goals as goal

pub returns-clause-certs : goal.returns-clause-certs
returns-clause-certs c s = c.into_certs.ensures.certs ∙ c.in_ok-certs.ensures.certs ∙ attached_is s c.args.store.now.items c.args.now c.args.here.now c.args.label.now c.args.own.now c.args.clear.now
