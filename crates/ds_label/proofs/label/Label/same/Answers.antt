use Rattle.std.proofs.Common.{◌≡◌, sym, ◌∙◌}
use Rattle.ds_label.specs.contracts.category.CategoryPartialEq.TheImpl as equal
use Rattle.ds_label.specs.Names.{by_name, same_category}
use Rattle.ds_label.proofs.Derived.{categories_eq}
use Rattle.ds_label.proofs.Namings.{names}
use Rattle.ds_label.proofs.Members.{same-is, pointwise-is, pointwise-alike}
use Rattle.ds_label.proofs.label.Label.same.Goals as goal

pub returns : goal.returns
returns c =
    let both = pointwise-is same_category (same-is by_name names) c.as_slice.result.now c.as_slice-2.result.now in
    let tested = pointwise-alike (equal.ghosts).eq same_category categories_eq c.as_slice.result.now c.as_slice-2.result.now in
    let first : c.as_slice.result.now ≡ c.args.self.now = c.as_slice.ensures.value ∙ c.self.view_is in
    let second : c.as_slice-2.result.now ≡ c.args.other.now = c.as_slice-2.ensures.value ∙ c.other.view_is in
    (λ e. sym first ∙ both.0 (sym tested ∙ sym c.eq.ensures ∙ e) ∙ second, λ e. c.eq.ensures ∙ tested ∙ both.1 (first ∙ e ∙ sym second))
