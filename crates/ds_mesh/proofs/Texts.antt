-- From a run in threads to its text.
use Rattle.std.proofs.Common.{◌≡◌, ◌≤◌, ◌++◌, ◌⊎◌, inl, inr, true, ℕ, List, length, map, sym, ap, ◌∙◌, subst}
use Rattle.std.proofs.lemmas.Bool.{and_parts, leb-true}
use Rattle.ds_plan.specs.Documents.{IsDocument, events_of, has_at_most, has_sizes, is_between}
use Rattle.ds_plan.specs.declared.doc.Doc.{Doc}
use Rattle.ds_plan.specs.declared.event.Event.{Event as DocEvent}
use Rattle.ds_model.specs.World.{World}
use Rattle.ds_model.specs.Step.{run}
use Rattle.ds_model.specs.Lawful.{Lawful}
use Rattle.ds_model.specs.Views.{IsQuiet}
use Rattle.ds_model.specs.Text.{text_of}
use Rattle.ds_model.specs.Print.{printed}
use Rattle.ds_scheme.specs.TheScheme.{scheme}
use Rattle.ds_setup.specs.Events.{meant}
use Rattle.ds_setup.specs.Plans.{plan_of}
use Rattle.ds_setup.specs.Starts.{start_of}
use Rattle.ds_world.specs.Worlds.{WorldState, IsFresh, world_of}
use Rattle.ds_world.specs.Hands.{HandsAreSpelled}
use Rattle.ds_world.proofs.Hands.{is_lawful}
use Rattle.ds_report.specs.Printings.{printing_of}
use Rattle.ds_sim.specs.Sims.{text_now}
use Rattle.ds_mesh.specs.Phases.{IsAtRest}
use Rattle.ds_mesh.specs.Runs.{RanTo}
use Rattle.ds_mesh.specs.Meshes.{IsMeshTextOf, event_lines}

-- a document has few hosts
pub few_hosts : (d : Doc) → has_sizes d ≡ true → length d.hosts ≤ 16
few_hosts d all =
    let e = and_parts _ (has_at_most 20000 (events_of d.events)) all in
    let l = and_parts _ (has_at_most 16 d.links) e.0 in
    let c = and_parts _ (has_at_most 256 d.certs) l.0 in
    leb-true (length d.hosts) 16 (and_parts (has_at_most 16 d.hosts) (is_between 1 20000 d.budget) c.0).0

pub is_mesh_text : (d : Doc) (w v : WorldState) (events : List DocEvent) (text : List ℕ) → IsDocument d → w.doc ≡ d → world_of w ≡ start_of d → HandsAreSpelled (world_of w)
    → RanTo d.budget w v events → text ≡ event_lines v.doc events ++ text_now v → IsMeshTextOf d text
is_mesh_text d w v events text documented doc start hands ran printing =
    let fresh : IsFresh w = record { document = subst IsDocument (sym doc) documented; start = start ∙ ap start_of (sym doc) } in
    let here : v.doc ≡ d = ran.happened.doc ∙ doc in
    let ends : world_of v ≡ run scheme (plan_of d) (start_of d) (map meant events) = ran.happened.ran ∙ (λ i. run scheme (plan_of (doc i)) (start i) (map meant events)) in
    record {
      events = events;
      few = ran.few;
      ends = at_end (length events ≡ d.budget) v d (run scheme (plan_of d) (start_of d) (map meant events)) here ends ran.ends;
      lawful = subst (λ (x : Doc). Lawful scheme (plan_of x) (start_of x) (map meant events)) doc (is_lawful w (map meant events) (ran.happened.spelled hands) fresh);
      printed = printing ∙ (λ i. event_lines (here i) events ++ text_of (printed (printing_of (here i)) (plan_of (here i))) (plan_of (here i)) (ends i));
    }
  where
    at_end : (P : Type 0) (v : WorldState) (d : Doc) (u : World) → v.doc ≡ d → world_of v ≡ u → P ⊎ IsAtRest v → P ⊎ IsQuiet scheme (plan_of d) u
    at_end P v d u here ends (inl full) = inl full
    at_end P v d u here ends (inr rest) = inr (subst (λ (x : World). IsQuiet scheme (plan_of d) x) ends (subst (λ (x : Doc). IsQuiet scheme (plan_of x) (world_of v)) here rest))
