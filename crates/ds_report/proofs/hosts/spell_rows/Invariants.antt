use Rattle.std.proofs.Common.{◌≡◌, ◌++◌, take, flat_map}
use Rattle.ds_cert.specs.Spelling.{spelling_of_category}
use Rattle.ds_report.proofs.hosts.spell_rows.Given as goal

abbrev pub invariant-loop-row : goal.invariant-loop-row
invariant-loop-row l = l.out ≡ l.initial.out ++ flat_map spelling_of_category (take l.row-index l.rows)
