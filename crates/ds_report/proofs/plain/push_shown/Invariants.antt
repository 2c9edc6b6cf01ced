use Rattle.std.proofs.Common.{◌≡◌, ◌++◌, take}
use Rattle.ds_model.specs.Print.{shown}
use Rattle.ds_report.proofs.plain.push_shown.Given as goal

abbrev pub invariant-loop-byte : goal.invariant-loop-byte
invariant-loop-byte l = l.out.items ≡ l.initial.out.items ++ shown (take l.byte-index l.bytes)
