-- The law over two runs, of two documents.
use Rattle.std.proofs.Common.{◌≡◌, ℕ, List, sym, subst}
use Rattle.ds_label.specs.declared.category.Category.{Category}
use Rattle.ds_model.specs.Plan.{Plan}
use Rattle.ds_model.specs.World.{World}
use Rattle.ds_model.specs.Setup.{IsSetup}
use Rattle.ds_model.specs.Step.{Event, run}
use Rattle.ds_model.specs.Views.{view_of_proc, view_of_host}
use Rattle.ds_noninterference.specs.Law.{Premises, AtEnd}
use Rattle.ds_noninterference.specs.Law.{SameProcesses as EqualProcesses, SameHosts as EqualHosts, SameSections as EqualSections}
use Rattle.ds_noninterference.specs.Observations.{marks}
use Rattle.ds_noninterference.specs.Outside.{outside_sections}
use Rattle.ds_noninterference.specs.Premises.{Obeys, Unforged}
use Rattle.ds_noninterference.proofs.Views.{processes, hosts}
use Rattle.ds_noninterference.proofs.Outside.{outside}
use Rattle.ds_scheme.specs.TheScheme.{scheme}
use Rattle.ds_scheme.proofs.Instances.{after_both}
use Rattle.ds_plan.specs.declared.doc.Doc.{Doc}
use Rattle.ds_plan.specs.Documents.{IsDocument}
use Rattle.ds_setup.specs.Plans.{plan_of}
use Rattle.ds_setup.specs.Starts.{start_of}
use Rattle.ds_setup.proofs.Setups.{setup_fits}
use Rattle.ds_law.specs.TwoDocuments.{Both, AtBothEnds, end_of, SameProcesses, SameHosts, SameSections}
use Rattle.ds_law.proofs.Agreeing.{plan_same, alike_starts}

module _ (c : Category) (trusted : List ℕ) (d : Doc) (one : List Event) (e : Doc) (two : List Event) (is_one : IsDocument d) (is_two : IsDocument e) (both : Both c trusted d one e two) where
  same : plan_of d ≡ plan_of e
  same = plan_same c trusted d e both.documents

  -- what is known of the second run, over any plan
  record Second (plan : Plan) : Type 0 where
    start : IsSetup scheme plan (start_of e)
    same_marks : marks scheme c trusted (plan_of d) (start_of d) one ≡ marks scheme c trusted plan (start_of e) two
    obeys : Obeys scheme c trusted plan (start_of e) two
    unforged : Unforged scheme c trusted plan (start_of e) two

  second : Second (plan_of d)
  second = subst Second (sym same) (record { start = (setup_fits e is_two).start; same_marks = both.same_marks; obeys = both.obeys_two; unforged = both.unforged_two })

  premises : Premises scheme c trusted (plan_of d) (start_of d) (start_of e) one two
  premises = record {
    secret = both.secret;
    fits = (setup_fits d is_one).plan;
    start_one = (setup_fits d is_one).start;
    start_two = second.start;
    agree = record { start = alike_starts c trusted d e both.documents; same_marks = second.same_marks };
    obeys_one = both.obeys_one;
    obeys_two = second.obeys;
    unforged_one = both.unforged_one;
    unforged_two = second.unforged;
  }

  -- a claim of both ends over the first plan
  pub at_ends : (Claim : Category → List ℕ → Plan → World → World → Type 0) → AtEnd Claim → Claim c trusted (plan_of d) (end_of d one) (run scheme (plan_of d) (start_of e) two)
  at_ends Claim law = after_both Claim law c trusted (plan_of d) (start_of d) (start_of e) one two (setup_fits d is_one).lanes premises

  -- and with the second plan for the second run
  pub by_second : (P : Plan → Type 0) → P (plan_of d) → P (plan_of e)
  by_second P known = subst P same known

pub same_processes : AtBothEnds SameProcesses
same_processes c trusted d one e two is_one is_two both = λ h p low.
    by_second c trusted d one e two is_one is_two both (λ plan. view_of_proc (end_of d one) h p ≡ view_of_proc (run scheme plan (start_of e) two) h p)
    (at_ends c trusted d one e two is_one is_two both EqualProcesses processes h p low)

pub same_hosts : AtBothEnds SameHosts
same_hosts c trusted d one e two is_one is_two both = λ h outside.
    by_second c trusted d one e two is_one is_two both (λ plan. view_of_host (plan_of d) (end_of d one) h ≡ view_of_host plan (run scheme plan (start_of e) two) h)
    (at_ends c trusted d one e two is_one is_two both EqualHosts hosts h outside)

pub same_sections : AtBothEnds SameSections
same_sections c trusted d one e two is_one is_two both = λ f.
    by_second c trusted d one e two is_one is_two both (λ plan. outside_sections f c trusted (plan_of d) (end_of d one) ≡ outside_sections f c trusted plan (run scheme plan (start_of e) two))
    (at_ends c trusted d one e two is_one is_two both EqualSections outside f)
