use Rattle.ds_report.proofs.Sections.{sections_are}
use Rattle.ds_report.proofs.laws.hosts_are_printed.Goals as goal

pub returns : goal.returns
returns c = sections_are
