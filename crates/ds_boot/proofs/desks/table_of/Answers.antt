use Rattle.ds_boot.proofs.Rows.{row_new, row_foreign}
use Rattle.ds_boot.proofs.desks.table_of.Goals as goal

pub add_row-requires-clause-foreign : goal.add_row-requires-clause-foreign
add_row-requires-clause-foreign c = rw c.loop-row.invariant.here (row_foreign c.args.here c.args.rows.now c.loop-row.row-index _ c.requires.rows c.loop-row-test.true)

pub add_row-requires-clause-new : goal.add_row-requires-clause-new
add_row-requires-clause-new c = rw c.loop-row.invariant.rows (row_new c.args.here c.args.rows.now c.loop-row.row-index _ c.requires.rows c.loop-row-test.true)
