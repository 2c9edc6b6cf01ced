use Rattle.std.proofs.Common.{◌≡◌, ◌++◌, take, flat_map}
use Rattle.ds_cert.specs.Spelling.{spelling_of_address}
use Rattle.ds_report.proofs.hosts.spell_addresses.Given as goal

abbrev pub invariant-loop-place : goal.invariant-loop-place
invariant-loop-place l = l.out ≡ l.initial.out ++ flat_map spelling_of_address (take l.place l.addresses.items)
