use Rattle.std.proofs.Common.{List, Some, sym, ap, ◌∙◌}
use Rattle.std.specs.Prelude.{position}
use Rattle.ds_label.specs.declared.category.Category.{Category}
use Rattle.ds_label.specs.Names.{same_category}
use Rattle.ds_map.proofs.Rows.{numbered, foreign_is}
use Rattle.ds_map.proofs.table.MapTable.to_local.Goals as goal

pub returns-in_err-row : goal.returns-in_err-row
returns-in_err-row c =
    let at = c.first_row.ensures.row ∙ ap (λ (rows : List Category). position (same_category c.args.name.now) rows) c.as_slice.ensures.value in
    let e = foreign_is c.self.inside.here c.args.name.now c.self.inside.rows.items c.is_home.result c.first_row.result c.is_home.ensures c.if-is_home.false at in
    rw (← c.self.view_is) (c.from_residual.ensures ∙ sym (e ∙ ap (numbered c.args.name.now) c.in_err-row.was))

pub returns : goal.returns
returns c =
    let at = c.first_row.ensures.row ∙ ap (λ (rows : List Category). position (same_category c.args.name.now) rows) c.as_slice.ensures.value in
    let e = foreign_is c.self.inside.here c.args.name.now c.self.inside.rows.items c.is_home.result c.first_row.result c.is_home.ensures c.if-is_home.false at in
    rw (← c.self.view_is) (ap Some c.foreign_number.ensures ∙ sym (e ∙ ap (numbered c.args.name.now) c.in_ok-row.was))
