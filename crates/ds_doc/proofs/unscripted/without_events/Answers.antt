use Rattle.std.proofs.Common.{◌≡◌, true, false, None, sym, ap, ◌∙◌}
use Rattle.std.specs.Prelude.{is_some}
use Rattle.serde_json.specs.View.{view}
use Rattle.ds_doc.proofs.Listed.{none_listed}
use Rattle.ds_doc.proofs.unscripted.without_events.Goals as goal

pub unreachable-requires : goal.unreachable-requires
unreachable-requires g c =
    let none : c.in_ok-doc.doc.events ≡ None = none_listed (view c.args.value.now) c.in_ok-doc.doc c.in_ok-doc.ensures.answer (sym c.events_place.ensures ∙ c.in_default.is) in
    let some : is_some c.in_ok-doc.doc.events ≡ true = c.if-is_none.ensures in
    let clash : false ≡ true = sym (ap is_some none) ∙ some in
    absurd cc
