use Rattle.std.proofs.Common.{◌≡◌, take}
use Rattle.ds_boot.proofs.desks.table_of.Given as goal

abbrev pub invariant-loop-row : goal.invariant-loop-row
invariant-loop-row l =
    record {
      here : l.table.here ≡ l.fn.here;
      rows : l.table.rows ≡ take l.row-index l.rows;
    }
