-- The rules of a send in the host's own numbers.
use Rattle.std.specs.Prelude.{◌≡◌, List, [], ◌∷◌, Option, Some, None, Result, Ok, Err, IsTrue}
use Rattle.ds_label.specs.declared.category.PubKey.{PubKey}
use Rattle.ds_label.specs.declared.category.Category.{Category}
use Rattle.ds_label.specs.declared.rule.Rule.{Rule}
use Rattle.ds_label.specs.Names.{by_name}
use Rattle.ds_script.specs.Process.{Process as Numbered}
use Rattle.ds_model.specs.FirstRule.{first_rule}
use Rattle.ds_model.specs.ProcessRules.{may_send}
use Rattle.ds_model.specs.ExporterRules.{known_rule}
use Rattle.ds_map.specs.Labels.{named, have_names}
use Rattle.ds_actor.specs.declared.sending.Numbers.{Numbers}
use Rattle.ds_actor.specs.Usable.{categories}

-- the process's own rules for a message with these labels, by names
abbrev pub own_rule : PubKey → List Category → Numbered → (label own clear : List Category) → Option Rule
own_rule here rows p label own clear = first_rule (
    known_rule here (categories p.names) label own clear
    ∷ may_send by_name (named here rows p.label) (named here rows p.own) (named here rows p.clear) label own clear
    ∷ [])

-- they pass, and these are the labels' numbers
pub record MaySend (here : PubKey) (rows : List Category) (p : Numbered) (label own clear : List Category) (n : Numbers) : Type 0 where
  pub passes : own_rule here rows p label own clear ≡ None
  pub by_label : named here rows n.label ≡ label
  pub by_own : named here rows n.own ≡ own
  pub by_clear : named here rows n.clear ≡ clear
  pub names : IsTrue (have_names here rows (n.label ∷ n.own ∷ n.clear ∷ []))

-- so, or the first rule that fails
abbrev pub IsJudged : PubKey → List Category → Numbered → (label own clear : List Category) → Result Numbers Rule → Type 0
IsJudged here rows p label own clear (Ok n) = MaySend here rows p label own clear n
IsJudged here rows p label own clear (Err rule) = own_rule here rows p label own clear ≡ Some rule
