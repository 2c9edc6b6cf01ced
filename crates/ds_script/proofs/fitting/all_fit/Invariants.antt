use Rattle.std.specs.List.{AllWithin}
use Rattle.ds_script.specs.Fits.{IsOp}
use Rattle.ds_script.proofs.fitting.all_fit.Given as goal

abbrev pub invariant-loop-op : goal.invariant-loop-op
invariant-loop-op l = AllWithin (IsOp l.size) l.ops 0 l.op-index
