use Rattle.ds_scheme.proofs.Instances.{is_readable}
use Rattle.ds_scheme.proofs.laws.reads_what_was_written.Goals as goal

pub returns : goal.returns
returns c = is_readable
