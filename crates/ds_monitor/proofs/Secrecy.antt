-- The rules of the first secrecy category that fails, where each fails by the same rule.
use Rattle.std.proofs.Common.{◌≡◌, ℕ, ◌%◌, Bool, ◌||◌, not, List, sym, ap, ◌∙◌}
use Rattle.std.specs.Prelude.{◌==◌}
use Rattle.std.specs.List.{list_all}
use Rattle.ds_label.specs.declared.rule.Rule.TheVariants.{NotPublic, LabelRefused}
use Rattle.ds_label.specs.Flow.{has}
use Rattle.ds_label.specs.Numbers.{by_number}
use Rattle.ds_model.specs.FirstRule.{unless, each_secret}
use Rattle.ds_model.specs.ProcessRules.{may_publish}
use Rattle.ds_map.proofs.Sets.{each_secret-is}

pub publish_is : (passed b : Bool) (label own : List ℕ) → passed ≡ list_all (λ c. not (c % 2 == 0) || has by_number c own) label → passed ≡ b → unless b NotPublic ≡ may_publish by_number label own
publish_is passed b label own e f = ap (λ x. unless x NotPublic) (sym f ∙ e) ∙ sym (each_secret-is by_number (λ c. has by_number c own) NotPublic label)

pub covered_is : (passed b : Bool) (to label clear own : List ℕ) → passed ≡ list_all (λ c. not (c % 2 == 0) || (has by_number c label || (has by_number c clear || has by_number c own))) to → passed ≡ b →
    unless b LabelRefused ≡ each_secret by_number (λ c. has by_number c label || (has by_number c clear || has by_number c own)) (λ c. LabelRefused) to
covered_is passed b to label clear own e f = ap (λ x. unless x LabelRefused) (sym f ∙ e) ∙ sym (each_secret-is by_number (λ c. has by_number c label || (has by_number c clear || has by_number c own)) LabelRefused to)
