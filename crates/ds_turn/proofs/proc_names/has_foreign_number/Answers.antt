use Rattle.std.proofs.Common.{◌-◌, sym, ◌∙◌}
use Rattle.std.specs.Prelude.{◌^◌}
use Rattle.ds_model.specs.Mapping.{kind_number}
use Rattle.ds_turn.proofs.ProcTables.{foreign_numbered, row_begins}
use Rattle.ds_turn.proofs.proc_names.has_foreign_number.Goals as goal

pub returns-in-Some : goal.returns-in-Some
returns-in-Some c = λ test table.
    let k = kind_number c.args.c.now.kind in
    foreign_numbered c.args.here.now c.args.names.now c.args.c.now c.args.number (c.args.number - c.parity.result) c.in-Some._row c.requires c.in-Some.ensures
    (row_begins c.args.number (2 ^ 63) c.in-Some._row k c.parity.result c.in-Some.ensures c.parity.ensures.value) (sym c.leave_number.ensures ∙ test) table
