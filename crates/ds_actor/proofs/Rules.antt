-- First failing rules.
use Rattle.std.proofs.Common.{◌≡◌, Bool, true, false, ◌&&◌, List, [], ◌∷◌, ◌++◌, Option, Some, None, refl, sym, ap, ◌∙◌}
use Rattle.std.specs.List.{list_all}
use Rattle.ds_label.specs.declared.category.PubKey.{PubKey}
use Rattle.ds_label.specs.declared.category.Category.{Category}
use Rattle.ds_label.specs.declared.rule.Rule.{Rule}
use Rattle.ds_label.specs.declared.rule.Rule.TheVariants.{NotKnown}
use Rattle.ds_model.specs.FirstRule.{unless, or_else, first_rule, each_member}
use Rattle.ds_model.specs.Mapping.{is_known}
use Rattle.ds_model.specs.ExporterRules.{known_rule}

pub none_or : (a b : Option Rule) → or_else a b ≡ None → (a ≡ None) × (b ≡ None)
none_or None b e = (refl, e)
none_or (Some rule) b e = absurd cc

-- each member passes where no rule comes
pub all_pass : {C : Type 0} (test : C → Bool) (rule : C → Rule) (cs : List C) → each_member test rule cs ≡ None → list_all test cs ≡ true
all_pass test rule [] e = refl
all_pass test rule (c ∷ cs) e = go (test c) (none_or (unless (test c) (rule c)) (each_member test rule cs) e) (all_pass test rule cs)
  where
    go : (b : Bool) → (unless b (rule c) ≡ None) × (each_member test rule cs ≡ None) → (each_member test rule cs ≡ None → list_all test cs ≡ true) → (b && list_all test cs) ≡ true
    go true f later = later f.1
    go false f later = absurd cc

pub each_append : {C : Type 0} (test : C → Bool) (rule : C → Rule) (xs ys : List C) → each_member test rule (xs ++ ys) ≡ or_else (each_member test rule xs) (each_member test rule ys)
each_append test rule [] ys = refl
each_append test rule (x ∷ xs) ys = go (unless (test x) (rule x)) (each_append test rule xs ys)
  where
    go : (o : Option Rule) → each_member test rule (xs ++ ys) ≡ or_else (each_member test rule xs) (each_member test rule ys) → or_else o (each_member test rule (xs ++ ys)) ≡ or_else (or_else o (each_member test rule xs)) (each_member test rule ys)
    go None e = e
    go (Some r) e = refl

-- the three labels, one after the other
pub or_else_none : (a : Option Rule) → or_else a None ≡ a
or_else_none None = refl
or_else_none (Some rule) = refl

pub three_known : (here : PubKey) (names : List Category) (label own clear : List Category)
    → first_rule (each_member (is_known here names) NotKnown label ∷ each_member (is_known here names) NotKnown own ∷ each_member (is_known here names) NotKnown clear ∷ []) ≡ known_rule here names label own clear
three_known here names label own clear =
    ap (λ (o : Option Rule). or_else (each_member (is_known here names) NotKnown label) (or_else (each_member (is_known here names) NotKnown own) o)) (or_else_none (each_member (is_known here names) NotKnown clear))
    ∙ (ap (or_else (each_member (is_known here names) NotKnown label)) (sym (each_append (is_known here names) NotKnown own clear))
    ∙ sym (each_append (is_known here names) NotKnown label (own ++ clear)))
