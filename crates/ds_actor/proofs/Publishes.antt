-- Acts in public: what is judged in numbers is what the model judges by names.
use Rattle.std.proofs.Common.{◌≡◌, ℕ, Bool, true, false, ◌&&◌, List, [], ◌∷◌, Option, Some, None, is_some, sym, ap, ap₂, ◌∙◌}
use Rattle.ds_label.specs.declared.category.PubKey.{PubKey}
use Rattle.ds_label.specs.declared.category.Category.{Category}
use Rattle.ds_label.specs.declared.rule.Rule.{Rule}
use Rattle.ds_label.specs.declared.rule.Rule.TheVariants.{NotKnown, NotHeld}
use Rattle.ds_label.specs.Flow.{has}
use Rattle.ds_label.specs.Names.{by_name}
use Rattle.ds_label.specs.Numbers.{by_number}
use Rattle.ds_script.specs.Process.{Process as Numbered}
use Rattle.ds_model.specs.FirstRule.{unless, first_rule}
use Rattle.ds_model.specs.Mapping.{is_known, number_of}
use Rattle.ds_model.specs.ProcessRules.{may_publish}
use Rattle.ds_map.specs.Table.{IsTable}
use Rattle.ds_map.specs.Labels.{named, have_names, has_name, name_of}
use Rattle.ds_map.proofs.Numbers.{same_answers, number_named, name_of-number_of}
use Rattle.ds_actor.specs.Usable.{categories, usable_number, IsAgreed}
use Rattle.ds_actor.proofs.Usables.{agreed as agreed_number, known_usable, numbered_is}
use Rattle.ds_actor.proofs.Rules.{or_else_none}
use Rattle.ds_actor.proofs.Sites.{first_named, second_named}

pub two_named : (here : PubKey) (rows : List Category) (p : Numbered) → have_names here rows (p.label ∷ p.own ∷ p.clear ∷ []) ≡ true → have_names here rows (p.label ∷ p.own ∷ []) ≡ true
two_named here rows p e = λ i. first_named here rows p.label p.own p.clear [] e i && (second_named here rows p.label p.own p.clear [] e i && true)

module _ (here : PubKey) (rows : List Category) (p : Numbered) (c : Category) where
  abbrev rest : Option Rule
  rest = may_publish by_name (named here rows p.label) (named here rows p.own)

  abbrev rule : Option Rule
  rule = first_rule (unless (is_known here (categories p.names) c) (NotKnown c) ∷ unless (has by_name c (named here rows p.own)) NotHeld ∷ rest ∷ [])

  pub not_known : usable_number here p.names c ≡ None → rule ≡ Some (NotKnown c)
  not_known e = ap (λ (b : Bool). first_rule (unless b (NotKnown c) ∷ unless (has by_name c (named here rows p.own)) NotHeld ∷ rest ∷ [])) (known_usable here p.names c ∙ ap is_some e)

  module _ (table : IsTable here rows) (agreed : IsAgreed here rows p.names) (all_named : have_names here rows (p.label ∷ p.own ∷ p.clear ∷ []) ≡ true) (n : ℕ) (e : usable_number here p.names c ≡ Some n) where
    abbrev there : (is_known here rows c ≡ true) × (number_of here rows c ≡ n)
    there = numbered_is here rows c n (agreed_number here rows c p.names n agreed e)

    name : name_of here rows n ≡ c
    name = ap (name_of here rows) (sym there.1) ∙ name_of-number_of here rows c there.0

    has_one : has_name here rows n ≡ true
    has_one = ap (has_name here rows) (sym there.1) ∙ number_named here rows c there.0

    held_by : has by_name c (named here rows p.own) ≡ has by_number n p.own
    held_by = ap (λ (d : Category). has by_name d (named here rows p.own)) (sym name)
        ∙ (same_answers here rows table).member n p.own (λ i. (has_one i && true) && (second_named here rows p.label p.own p.clear [] all_named i && true))

    pub held : (b : Bool) → has by_number n p.own ≡ b → rule ≡ first_rule (unless b NotHeld ∷ rest ∷ [])
    held b f = ap₂ (λ (k h : Bool). first_rule (unless k (NotKnown c) ∷ unless h NotHeld ∷ rest ∷ [])) (known_usable here p.names c ∙ ap is_some e) (held_by ∙ f)

    pub not_held : has by_number n p.own ≡ false → rule ≡ Some NotHeld
    not_held f = held false f

    pub all_but_public : has by_number n p.own ≡ true → rule ≡ rest
    all_but_public f = held true f ∙ or_else_none rest
