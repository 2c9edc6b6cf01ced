-- The law over two runs, of an actor outside.
use Rattle.std.proofs.Common.{◌≡◌, ℕ, List, Some, refl, sym, ap, ◌∙◌, option_map}
use Rattle.std.proofs.lemmas.Option.{same_Some}
use Rattle.ds_label.specs.declared.category.Category.{Category}
use Rattle.ds_script.specs.declared.actor.Actor.{Actor}
use Rattle.ds_script.specs.declared.actor.ActorKind.{ActorKind}
use Rattle.ds_script.specs.declared.actor.ActorKind.TheVariants as kinds
use Rattle.ds_model.specs.Step.{Event}
use Rattle.ds_plan.specs.declared.doc.Doc.{Doc}
use Rattle.ds_plan.specs.Documents.{IsDocument}
use Rattle.ds_setup.specs.Plans.{plan_of}
use Rattle.ds_law.specs.TwoDocuments.{Both, end_of}
use Rattle.ds_law.proofs.Documents.{same_hosts, same_processes}
use Rattle.ds_views.specs.declared.actor_view.View.{View}
use Rattle.ds_views.specs.declared.actor_view.View.TheVariants as views
use Rattle.ds_views.specs.Views.{IsApart, IsOutside, view_by, view_of}

module _ (c : Category) (trusted : List ℕ) (d : Doc) (one : List Event) (e : Doc) (two : List Event) (is_one : IsDocument d) (is_two : IsDocument e) (both : Both c trusted d one e two) where
  views_same : (k : ActorKind) (h i : ℕ) → IsApart c trusted (end_of d one) k h i → view_by (plan_of d) (end_of d one) k h i ≡ view_by (plan_of e) (end_of e two) k h i
  views_same kinds.Clock h i apart = ap (option_map views.Host) (same_hosts c trusted d one e two is_one is_two both h apart)
  views_same kinds.Proc h i apart = ap (option_map views.Proc) (same_processes c trusted d one e two is_one is_two both h i apart)
  views_same kinds.Lane h i apart = refl
  views_same kinds.Conn h i apart = refl

  pub same_views : (a : Actor) (x y : View) → IsOutside c trusted (end_of d one) a → view_of (plan_of d) (end_of d one) a ≡ Some x → view_of (plan_of e) (end_of e two) a ≡ Some y → x ≡ y
  same_views a x y apart first second = same_Some x y (sym first ∙ views_same a.kind a.host a.index apart ∙ second)
