-- Takes: what is judged in numbers is what the model judges by names.
use Rattle.std.proofs.Common.{◌≡◌, ℕ, ◌<◌, true, ◌&&◌, List, [], ◌∷◌, Option, Some, None, ap, ap₂, ◌∙◌}
use Rattle.std.specs.Prelude.{option_map, position, ◌==◌, length}
use Rattle.ds_label.specs.declared.category.Category.{Category}
use Rattle.ds_label.specs.declared.rule.Rule.{Rule}
use Rattle.ds_label.specs.declared.rule.Rule.TheVariants.{NoBox}
use Rattle.ds_label.specs.Names.{by_name}
use Rattle.ds_label.specs.Numbers.{by_number}
use Rattle.ds_script.specs.Process.{Process as Numbered}
use Rattle.ds_msg.specs.declared.message.Message.{Message}
use Rattle.ds_model.specs.World.{Process}
use Rattle.ds_model.specs.Plan.{HostPlan, box_plan}
use Rattle.ds_model.specs.FirstRule.{unless, first_rule}
use Rattle.ds_model.specs.ProcessRules.{may_take}
use Rattle.ds_model.specs.ProcessStep.{Ask, refused, take_from, take_rule, box_of as box_place}
use Rattle.ds_map.specs.Table.{IsTable}
use Rattle.ds_map.specs.Labels.{named, have_names}
use Rattle.ds_map.proofs.Numbers.{same_rules}
use Rattle.ds_actor.specs.Sites.{SitePlan, BoxSite, with_site, labels_of, label_at, owner_at}
use Rattle.ds_actor.specs.Seen.{process_of}
use Rattle.ds_actor.proofs.Sites.{same_box, label_same, owner_same, site_named, first_named, second_named, rest_named}

is_of : {X : Type 0} (x y : X) → Some x ≡ Some y → x ≡ y
is_of x y e = cc

module _ (site : SitePlan) (rows : List Category) (table : IsTable site.here rows) (plan : HostPlan) (hand : Option Message) (p : Numbered) (index reg slot : ℕ)
    (all_named : have_names site.here rows (p.label ∷ p.own ∷ p.clear ∷ labels_of site.boxes) ≡ true) where
  abbrev x : Process
  x = process_of site.here rows hand p

  abbrev q : HostPlan
  q = with_site site rows plan

  abbrev asks : Ask
  asks = take_from x reg slot (box_place q slot) (take_rule q index x (box_place q slot))

  at_place : (o : Option ℕ) → position (λ (b : BoxSite). b.slot == slot) site.boxes ≡ o → asks ≡ take_from x reg slot o (take_rule q index x o)
  at_place o e = ap (λ (i : Option ℕ). take_from x reg slot i (take_rule q index x i)) (same_box site rows plan slot ∙ e)

  pub no_box : position (λ (b : BoxSite). b.slot == slot) site.boxes ≡ None → asks ≡ refused NoBox x
  no_box e = at_place None e

  -- the rule of a mailbox that is there
  module _ (i owner : ℕ) (label : List ℕ) (within : i < length site.boxes) (owned : owner_at site.boxes (Some i) ≡ Some owner) (labelled : label_at site.boxes (Some i) ≡ Some label) where
    by_owner : (box_plan q i).owner ≡ owner
    by_owner = is_of (box_plan q i).owner owner (owner_same site rows plan i within ∙ owned)

    by_label : (box_plan q i).label ≡ named site.here rows label
    by_label = is_of (box_plan q i).label (named site.here rows label) (label_same site rows plan (Some i) within ∙ ap (option_map (named site.here rows)) labelled)

    has : have_names site.here rows (label ∷ p.label ∷ p.own ∷ []) ≡ true
    has = λ t. site_named site.here rows site.boxes (Some i) label labelled (rest_named site.here rows p.label p.own p.clear (labels_of site.boxes) all_named) t
        && (first_named site.here rows p.label p.own p.clear (labels_of site.boxes) all_named t && (second_named site.here rows p.label p.own p.clear (labels_of site.boxes) all_named t && true))

    rule_by : take_rule q index x (Some i) ≡ first_rule (unless (index == owner) NoBox ∷ may_take by_number label p.label p.own ∷ [])
    rule_by =
        ap₂ (λ (o : ℕ) (l : List Category). first_rule (unless (index == o) NoBox ∷ may_take by_name l x.label x.own ∷ [])) by_owner by_label
        ∙ ap (λ (r : Option Rule). first_rule (unless (index == owner) NoBox ∷ r ∷ [])) ((same_rules site.here rows table).take label p.label p.own has)

    pub take_is : (o : Option Rule) → position (λ (b : BoxSite). b.slot == slot) site.boxes ≡ Some i → first_rule (unless (index == owner) NoBox ∷ may_take by_number label p.label p.own ∷ []) ≡ o
        → asks ≡ take_from x reg slot (Some i) o
    take_is o at e = at_place (Some i) at ∙ ap (take_from x reg slot (Some i)) (rule_by ∙ e)
