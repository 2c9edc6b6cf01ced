use Rattle.std.proofs.Common.{◌≤◌, sym, arith}
use Rattle.ds_summary.proofs.Names.{no_name}
use Rattle.ds_summary.proofs.writing.name_of.Goals as goal

pub returns-in_default : goal.returns-in_default
returns-in_default c = let high : 27 ≤ c.args.number = omega (arith, c.in_default) in sym (no_name c.args.number high)
