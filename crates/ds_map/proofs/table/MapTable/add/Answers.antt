use Rattle.std.proofs.Common.{List, ◌++◌, ◌∷◌, [], ℕ, ◌+◌, ◌*◌, ◌^◌, sym, ap, ◌∙◌}
use Rattle.ds_label.specs.declared.category.Category.{Category}
use Rattle.ds_model.specs.Mapping.{kind_number}
use Rattle.ds_map.proofs.Tables.{numbered_home, none_unknown, grown, new_number}
use Rattle.ds_map.proofs.table.MapTable.add.Goals as goal

pub returns-in-Some-clause-not_home : goal.returns-in-Some-clause-not_home
returns-in-Some-clause-not_home c = (
  λ e. absurd cc,
  λ e. absurd (numbered_home c.self.inside.here c.self.inside.rows.items c.args.name c.in-Some.local c.to_local.result c.self.invariant (rw (← c.self.view_is) at c.to_local.ensures) c.in-Some.is (rw (← c.self.view_is) at e)),
)

pub invariant_of-self-2 : goal.invariant_of-self-2
invariant_of-self-2 c =
    let unknown = none_unknown c.self.inside.here c.self.inside.rows.items c.args.name c.to_local.result (rw (← c.self.view_is) at c.to_local.ensures) c.in_default.is in
    let e = c.push_reserved.ensures.items ∙ ap (λ (rows : List Category). rows ++ c.args.name ∷ []) c.reserve.ensures.items in
    rw e (grown c.self.inside.here c.self.inside.rows.items c.args.name c.self.invariant unknown (sym c.eq.ensures ∙ c.if-eq.false) (λ full. c.if-row-eq-ROW_LIMIT.false ((rw (← c.self.view_is) at c.len-row.ensures.count) ∙ full)))

pub returns-clause-number : goal.returns-clause-number
returns-clause-number c =
    let unknown = none_unknown c.self.inside.here c.self.inside.rows.items c.args.name c.to_local.result (rw (← c.self.view_is) at c.to_local.ensures) c.in_default.is in
    let e = new_number c.self.inside.here c.self.inside.rows.items c.args.name unknown in
    rw (← c.self.view_is) (c.foreign_number.ensures ∙ ap (λ (n : ℕ). 2 ^ 63 + 2 * n + kind_number c.args.name.kind) (rw (← c.self.view_is) at c.len-row.ensures.count) ∙ sym e)
