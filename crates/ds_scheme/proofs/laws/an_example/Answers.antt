use Rattle.ds_scheme.proofs.Example.{is_met, is_read}
use Rattle.ds_scheme.proofs.laws.an_example.Goals as goal

pub returns-clause-met : goal.returns-clause-met
returns-clause-met c = is_met

pub returns-clause-read : goal.returns-clause-read
returns-clause-read c = is_read
