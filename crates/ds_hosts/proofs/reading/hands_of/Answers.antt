use Rattle.ds_hosts.proofs.Hands.{fit_hands}
use Rattle.ds_hosts.proofs.reading.hands_of.Goals as goal

pub returns : goal.returns
returns c = fit_hands c.args.exporter.now c.fit.ensures
