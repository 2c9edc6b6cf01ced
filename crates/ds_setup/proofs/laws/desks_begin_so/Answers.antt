use Rattle.ds_setup.proofs.Desks.{each_issues, silent_desks}
use Rattle.ds_setup.proofs.laws.desks_begin_so.Goals as goal

pub returns-clause-issued : goal.returns-clause-issued
returns-clause-issued c = each_issues

pub returns-clause-silent : goal.returns-clause-silent
returns-clause-silent c = silent_desks
