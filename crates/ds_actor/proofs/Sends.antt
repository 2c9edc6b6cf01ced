-- Sends: what is judged in numbers is what the model judges by names.
use Rattle.std.proofs.Common.{◌≡◌, ℕ, ◌<◌, true, false, cond, ◌&&◌, List, [], ◌∷◌, ◌++◌, Option, Some, None, refl, sym, ap, ◌∙◌}
use Rattle.std.specs.Prelude.{option_map, position, ◌==◌, length, IfSome}
use Rattle.std.specs.List.{list_all}
use Rattle.ds_label.specs.declared.category.PubKey.{PubKey}
use Rattle.ds_label.specs.declared.category.Category.{Category}
use Rattle.ds_label.specs.declared.rule.Rule.{Rule}
use Rattle.ds_label.specs.declared.rule.Rule.TheVariants.{NotKnown}
use Rattle.ds_label.specs.Names.{by_name}
use Rattle.ds_label.specs.Numbers.{by_number}
use Rattle.ds_label.specs.Flow.{IsRising}
use Rattle.ds_script.specs.Process.{Process as Numbered}
use Rattle.ds_script.specs.declared.note.Note.TheVariants as notes
use Rattle.ds_msg.specs.declared.message.Message.{Message}
use Rattle.ds_msg.specs.declared.local.LocalMessage.{LocalMessage}
use Rattle.ds_script.specs.Inner.{register}
use Rattle.ds_model.specs.Keys.{same_key}
use Rattle.ds_model.specs.World.{Process}
use Rattle.ds_model.specs.Plan.{HostPlan}
use Rattle.ds_model.specs.FirstRule.{or_else, each_member}
use Rattle.ds_model.specs.Mapping.{is_known}
use Rattle.ds_model.specs.ProcessRules.{may_send, mailbox_rule}
use Rattle.ds_model.specs.ExporterRules.{known_rule}
use Rattle.ds_model.specs.ProcessStep.{Put, refused, noted, message_of, send, send_away, send_here, send_rule, target, judge_box, label_of}
use Rattle.ds_map.specs.Table.{IsTable}
use Rattle.ds_map.specs.Labels.{named, have_names, has_name}
use Rattle.ds_map.proofs.Numbers.{same_rules}
use Rattle.ds_actor.specs.declared.sending.Numbers.{Numbers}
use Rattle.ds_actor.specs.Usable.{categories, numbers_by, IsAgreed}
use Rattle.ds_actor.specs.Sites.{SitePlan, BoxSite, with_site, labels_of, label_at}
use Rattle.ds_actor.specs.Seen.{process_of, mail_of}
use Rattle.ds_actor.specs.Sending.{own_rule, MaySend}
use Rattle.ds_actor.proofs.Usables.{names_again, numbers_named}
use Rattle.ds_actor.proofs.Rules.{none_or, all_pass, each_append, or_else_none}
use Rattle.ds_actor.proofs.Sites.{same_box, label_same, site_named, first_named, second_named, third_named}

-- ---- the process's own rules

-- where no category of three labels is unknown
pub all_known : (here : PubKey) (names : List Category) (label own clear : List Category) → known_rule here names label own clear ≡ None
    → (list_all (is_known here names) label ≡ true) × (list_all (is_known here names) own ≡ true) × (list_all (is_known here names) clear ≡ true)
all_known here names label own clear e =
    let first = none_or (each_member (is_known here names) NotKnown label) (each_member (is_known here names) NotKnown (own ++ clear)) (sym (each_append (is_known here names) NotKnown label (own ++ clear)) ∙ e) in
    let rest = none_or (each_member (is_known here names) NotKnown own) (each_member (is_known here names) NotKnown clear) (sym (each_append (is_known here names) NotKnown own clear) ∙ first.1) in
    (all_pass (is_known here names) NotKnown label first.0, all_pass (is_known here names) NotKnown own rest.0, all_pass (is_known here names) NotKnown clear rest.1)

pub judged_unknown : (here : PubKey) (rows : List Category) (p : Numbered) (label own clear : List Category) (rule : Rule) → known_rule here (categories p.names) label own clear ≡ Some rule → own_rule here rows p label own clear ≡ Some rule
judged_unknown here rows p label own clear rule e = ap (λ (o : Option Rule). or_else o (or_else (may_send by_name (named here rows p.label) (named here rows p.own) (named here rows p.clear) label own clear) None)) e

module _ (here : PubKey) (rows : List Category) (table : IsTable here rows) (p : Numbered) (label own clear : List Category)
    (agreed : IsAgreed here rows p.names) (up_label : IsRising by_name label) (up_own : IsRising by_name own) (up_clear : IsRising by_name clear)
    (n : Numbers) (same_label : n.label ≡ numbers_by here p.names label) (same_own : n.own ≡ numbers_by here p.names own) (same_clear : n.clear ≡ numbers_by here p.names clear)
    (all_named : have_names here rows (p.label ∷ p.own ∷ p.clear ∷ []) ≡ true) (known : known_rule here (categories p.names) label own clear ≡ None) where
  by_label : named here rows n.label ≡ label
  by_label = ap (named here rows) same_label ∙ names_again here rows table p.names agreed label up_label (all_known here (categories p.names) label own clear known).0

  by_own : named here rows n.own ≡ own
  by_own = ap (named here rows) same_own ∙ names_again here rows table p.names agreed own up_own (all_known here (categories p.names) label own clear known).1

  by_clear : named here rows n.clear ≡ clear
  by_clear = ap (named here rows) same_clear ∙ names_again here rows table p.names agreed clear up_clear (all_known here (categories p.names) label own clear known).2

  label_named : list_all (has_name here rows) n.label ≡ true
  label_named = ap (list_all (has_name here rows)) same_label ∙ numbers_named here rows p.names agreed label (all_known here (categories p.names) label own clear known).0

  own_named : list_all (has_name here rows) n.own ≡ true
  own_named = ap (list_all (has_name here rows)) same_own ∙ numbers_named here rows p.names agreed own (all_known here (categories p.names) label own clear known).1

  clear_named : list_all (has_name here rows) n.clear ≡ true
  clear_named = ap (list_all (has_name here rows)) same_clear ∙ numbers_named here rows p.names agreed clear (all_known here (categories p.names) label own clear known).2

  numbers_have : have_names here rows (n.label ∷ n.own ∷ n.clear ∷ []) ≡ true
  numbers_have = λ i. label_named i && (own_named i && (clear_named i && true))

  all_have : have_names here rows (p.label ∷ p.own ∷ p.clear ∷ n.label ∷ n.own ∷ n.clear ∷ []) ≡ true
  all_have = λ i. first_named here rows p.label p.own p.clear [] all_named i && (second_named here rows p.label p.own p.clear [] all_named i && (third_named here rows p.label p.own p.clear [] all_named i && numbers_have i))

  pub judged : (o : Option Rule) → may_send by_number p.label p.own p.clear n.label n.own n.clear ≡ o → own_rule here rows p label own clear ≡ o
  judged o e =
      ap (λ (u : Option Rule). or_else u (or_else (may_send by_name (named here rows p.label) (named here rows p.own) (named here rows p.clear) label own clear) None)) known
      ∙ (or_else_none (may_send by_name (named here rows p.label) (named here rows p.own) (named here rows p.clear) label own clear)
      ∙ ((λ i. may_send by_name (named here rows p.label) (named here rows p.own) (named here rows p.clear) (sym by_label i) (sym by_own i) (sym by_clear i))
      ∙ ((same_rules here rows table).send p.label p.own p.clear n.label n.own n.clear all_have ∙ e)))

  pub may : may_send by_number p.label p.own p.clear n.label n.own n.clear ≡ None → MaySend here rows p label own clear n
  may e = record { passes = judged None e; by_label = by_label; by_own = by_own; by_clear = by_clear; names = numbers_have }

-- ---- the mailbox's rule

pub mailbox_same : (here : PubKey) (rows : List Category) (table : IsTable here rows) (o : Option (List ℕ)) (label : List ℕ) → ((l : List ℕ) → o ≡ Some l → list_all (has_name here rows) l ≡ true)
    → list_all (has_name here rows) label ≡ true → mailbox_rule by_name (option_map (named here rows) o) (named here rows label) ≡ mailbox_rule by_number o label
mailbox_same here rows table None label all e = refl
mailbox_same here rows table (Some l) label all e = (same_rules here rows table).mailbox l label (λ i. all l refl i && (e i && true))

module _ (site : SitePlan) (rows : List Category) (table : IsTable site.here rows) (plan : HostPlan) (hand : Option Message) (p : Numbered) (host slot reg : ℕ) (n : Numbers)
    (boxes_named : have_names site.here rows (labels_of site.boxes) ≡ true) (label_has : list_all (has_name site.here rows) n.label ≡ true)
    (place : Option ℕ) (at : place ≡ position (λ (b : BoxSite). b.slot == slot) site.boxes) (within : IfSome place (λ i. i < length site.boxes)) where
  abbrev x : Process
  x = process_of site.here rows hand p

  abbrev q : HostPlan
  q = with_site site rows plan

  abbrev m : Message
  m = message_of q x host slot reg (named site.here rows n.label) (named site.here rows n.own) (named site.here rows n.clear)

  target_by : (o : Option Rule) → mailbox_rule by_number (label_at site.boxes place) n.label ≡ o → send_here q x m None (judge_box q slot m.label) ≡ send_here q x m None (target place o)
  target_by o e =
      ap (λ (i : Option ℕ). send_here q x m None (target i (mailbox_rule by_name (label_of q i) m.label))) (same_box site rows plan slot ∙ sym at)
      ∙ ap (λ (r : Option Rule). send_here q x m None (target place r))
      (ap (λ (z : Option (List Category)). mailbox_rule by_name z m.label) (label_same site rows plan place within)
      ∙ (mailbox_same site.here rows table (label_at site.boxes place) n.label (λ l f. site_named site.here rows site.boxes place l f boxes_named) label_has ∙ e))

  pub put_refused : (rule : Rule) → mailbox_rule by_number (label_at site.boxes place) n.label ≡ Some rule → send_here q x m None (judge_box q slot m.label) ≡ refused rule x
  put_refused rule e = target_by (Some rule) e

  pub put_put : (i : ℕ) (message : LocalMessage) → mailbox_rule by_number (label_at site.boxes place) n.label ≡ None → place ≡ Some i
      → message.from ≡ site.here → (message.label ≡ n.label) × (message.own ≡ n.own) × (message.clear ≡ n.clear) → message.payload ≡ register reg p.course
      → send_here q x m None (judge_box q slot m.label) ≡ Put i (mail_of site.here rows message) (noted notes.Sent x)
  put_put i message e is from labels payload =
      target_by None e ∙ (ap (λ (o : Option ℕ). send_here q x m None (target o None)) is
      ∙ (λ t. Put i (record { from = sym from t; label = named site.here rows (sym labels.0 t); own = named site.here rows (sym labels.1 t); clear = named site.here rows (sym labels.2 t); payload = sym payload t }) (noted notes.Sent x)))

-- ---- the labels' names for their numbers

pub here_again : (site : SitePlan) (rows : List Category) (plan : HostPlan) (hand : Option Message) (p : Numbered) (host slot reg : ℕ) (label own clear : List Category) (n : Numbers) → MaySend site.here rows p label own clear n →
    let q = with_site site rows plan in let x = process_of site.here rows hand p in
    let m = message_of q x host slot reg label own clear in
    let again = message_of q x host slot reg (named site.here rows n.label) (named site.here rows n.own) (named site.here rows n.clear) in
    send_here q x again None (judge_box q slot again.label) ≡ send_here q x m (send_rule q x m) (judge_box q slot m.label)
here_again site rows plan hand p host slot reg label own clear n j =
    let q = with_site site rows plan in let x = process_of site.here rows hand p in
    λ i. send_here q x (message_of q x host slot reg (j.by_label i) (j.by_own i) (j.by_clear i)) (sym j.passes i) (judge_box q slot (j.by_label i))

-- ---- either receiver

module _ (site : SitePlan) (rows : List Category) (plan : HostPlan) (hand : Option Message) (p : Numbered) (host slot reg : ℕ) (label own clear : List Category) where
  abbrev z : Process
  z = process_of site.here rows hand p

  abbrev to : Message
  to = message_of (with_site site rows plan) z host slot reg label own clear

  pub sent_here : same_key to.to site.here ≡ true → send_here (with_site site rows plan) z to (send_rule (with_site site rows plan) z to) (judge_box (with_site site rows plan) slot label) ≡ send (with_site site rows plan) z to
  sent_here e = λ i. cond (sym e i) (send_here (with_site site rows plan) z to (send_rule (with_site site rows plan) z to) (judge_box (with_site site rows plan) slot label)) (send_away z to (send_rule (with_site site rows plan) z to))

  pub sent_away : same_key to.to site.here ≡ false → send_away z to (send_rule (with_site site rows plan) z to) ≡ send (with_site site rows plan) z to
  sent_away e = λ i. cond (sym e i) (send_here (with_site site rows plan) z to (send_rule (with_site site rows plan) z to) (judge_box (with_site site rows plan) slot label)) (send_away z to (send_rule (with_site site rows plan) z to))
