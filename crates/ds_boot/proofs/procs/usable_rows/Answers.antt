use Rattle.std.proofs.Common.{◌≤◌, List, length, subst, sym}
use Rattle.ds_label.specs.declared.category.Category.{Category}
use Rattle.ds_boot.specs.Parts.{usable_of}
use Rattle.ds_boot.proofs.Lists.{map_all}
use Rattle.ds_script.specs.Names.{AreApart}
use Rattle.ds_boot.proofs.Rows.{row_known, rows_apart}
use Rattle.ds_boot.proofs.procs.usable_rows.Goals as goal

pub usable_row-requires : goal.usable_row-requires
usable_row-requires c = rw c.rows-row-items.ensures.rows (row_known c.args.table.now.here c.args.table.now.rows c.loop-row.row-index _ (rw (sym c.rows-row-items.ensures.rows) c.loop-row-test.true))

pub returns-clause-apart : goal.returns-clause-apart
returns-clause-apart c = subst AreApart (sym (map_all (usable_of c.args.table.now.here c.args.table.now.rows) c.args.table.now.rows c.loop-row.row-index c.loop-row.names (subst (λ (xs : List Category). length xs ≤ c.loop-row.row-index) c.rows-row-items.ensures.rows c.loop-row-test.false) c.loop-row.invariant)) (rows_apart c.args.table.now.here c.args.table.now.rows c.rows-row-items.ensures.table)
