use Rattle.ds_scheme.proofs.Instances.{is_scheme}
use Rattle.ds_scheme.proofs.laws.serves_the_two_run_law.Goals as goal

pub returns : goal.returns
returns c = is_scheme
