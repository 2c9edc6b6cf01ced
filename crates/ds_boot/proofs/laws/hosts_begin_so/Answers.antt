use Rattle.ds_boot.proofs.Exporters.{begun_before, begun_fits, begun_host, begun_site}
use Rattle.ds_boot.proofs.laws.hosts_begin_so.Goals as goal

pub returns-clause-fit : goal.returns-clause-fit
returns-clause-fit c = begun_fits

pub returns-clause-host : goal.returns-clause-host
returns-clause-host c = begun_host

pub returns-clause-site : goal.returns-clause-site
returns-clause-site c = begun_site

pub returns-clause-before : goal.returns-clause-before
returns-clause-before c = begun_before
