use Rattle.std.proofs.Common.{◌≡◌, ◌++◌, take, flat_map}
use Rattle.ds_model.specs.Print.{hex_byte}
use Rattle.ds_summary.proofs.lines.push_hex.Given as goal

abbrev pub invariant-loop-byte : goal.invariant-loop-byte
invariant-loop-byte l = l.out.items ≡ l.initial.out.items ++ flat_map hex_byte (take l.byte-index l.bytes)
