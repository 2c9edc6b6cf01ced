use Rattle.std.specs.Prelude.{◌≤◌, length}
use Rattle.ds_base.proofs.file_keeper.read_front.Given as goal

abbrev pub invariant-loop : goal.invariant-loop
invariant-loop g l = l.filled ≤ length l.room
