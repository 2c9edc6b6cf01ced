use Rattle.ds_monitor.proofs.Names.{grant_names}
use Rattle.ds_monitor.proofs.monitor.ProcMonitor.grant.Goals as goal

pub returns-clause-names : goal.returns-clause-names
returns-clause-names c =
    let p = c.args.self.now.process in
    grant_names c.grant.result p.own p.clear c.args.own.now c.args.clear.now c.grant.ensures.fits
