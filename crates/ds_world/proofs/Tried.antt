-- Events of a round, as the code goes through them.
use Rattle.std.proofs.Common.{◌≡◌, ℕ, suc, ◌+◌, List, [], ◌∷◌, ◌++◌, length, map, sym, ap, ◌∙◌, arith}
use Rattle.ds_model.specs.Lists.{gathered}
use Rattle.ds_model.specs.Plan.{host_plan}
use Rattle.ds_model.specs.World.{World}
use Rattle.ds_model.specs.Step.{Event, Frame, Step, run}
use Rattle.ds_model.specs.Schedule.{IsCanonical, canonical, Schedule, host_events}
use Rattle.ds_plan.specs.declared.doc.Doc.{Doc}
use Rattle.ds_plan.specs.declared.event.Event.{Event as DocEvent}
use Rattle.ds_setup.specs.Events.{meant}
use Rattle.ds_setup.specs.Plans.{plan_of}
use Rattle.ds_scheme.specs.TheScheme.{scheme}
use Rattle.ds_world.specs.Makings.{connects_all, goes_round, goes_rounds, test_of, tries_all}
use Rattle.ds_world.proofs.Rounds.{all_tried-append, rounds_run}
use Rattle.ds_world.proofs.Trying.{finds}

-- one thing more of a gathered list
pub more_tried : (d : Doc) (f : ℕ → List Event) (n : ℕ) (start sch next : Schedule)
    → sch ≡ tries_all d (gathered f n) start → next ≡ tries_all d (f n) sch
    → next ≡ tries_all d (gathered f (n + 1)) start
more_tried d f n start sch next before now =
    let e : n + 1 ≡ suc n = omega arith in
    now ∙ (ap (tries_all d (f n)) before
    ∙ (sym (all_tried-append (test_of d) scheme (plan_of d) (gathered f n) (f n) start) ∙ ap (λ (m : ℕ). tries_all d (gathered f m) start) (sym e)))

abbrev pub steps_of : (host : ℕ) → (place : ℕ) → List Event
steps_of h p = Step h p ∷ []

abbrev pub frames_of : (host : ℕ) → (place : ℕ) → List Event
frames_of h l = Frame h l ∷ Frame h l ∷ []

pub host_tried : (d : Doc) (h procs lanes : ℕ) (start sch next : Schedule) → procs ≡ (host_plan (plan_of d) h).procs
    → lanes ≡ length (host_plan (plan_of d) h).lanes
    → sch ≡ tries_all d (gathered (steps_of h) procs) start → next ≡ tries_all d (gathered (frames_of h) lanes) sch → next ≡ tries_all d (host_events (plan_of d) h) start
host_tried d h procs lanes start sch next p l before now =
    now ∙ (ap (tries_all d (gathered (frames_of h) lanes)) before
    ∙ (sym (all_tried-append (test_of d) scheme (plan_of d) (gathered (steps_of h) procs) (gathered (frames_of h) lanes) start)
    ∙ (λ i. tries_all d (gathered (steps_of h) (p i) ++ gathered (frames_of h) (l i)) start)))

pub round_tried : (d : Doc) (budget hosts conns : ℕ) (start sch next : Schedule) → hosts ≡ length (plan_of d).hosts
    → conns ≡ length (plan_of d).conn_plans
    → sch ≡ tries_all d (gathered (host_events (plan_of d)) hosts) start → next ≡ connects_all d budget conns sch → next ≡ goes_round d budget start
round_tried d budget hosts conns start sch next h c before now =
    now ∙ (ap (connects_all d budget conns) before ∙ (λ i. connects_all d budget (c i) (tries_all d (gathered (host_events (plan_of d)) (h i)) start)))

-- the whole
module _ (d : Doc) (budget : ℕ) (w v : World) (events : List DocEvent) (left : ℕ) (most : ℕ) (enough : most ≡ suc budget)
    (made : record { world = v; events = map meant events; left = left } ≡ goes_rounds d budget most (record { world = w; events = []; left = budget })) where
  canonical_is : map meant events ≡ canonical (test_of d) scheme (plan_of d) budget w
  canonical_is = ap (λ (x : Schedule). x.events) made ∙ ap (λ (n : ℕ). (goes_rounds d budget n (record { world = w; events = []; left = budget })).events) enough

  pub is_canonical : IsCanonical scheme (plan_of d) budget w (map meant events)
  is_canonical = record { changes = test_of d; decides = finds d; made = canonical_is }

  pub is_run : v ≡ run scheme (plan_of d) w (map meant events)
  is_run = ap (λ (x : Schedule). x.world) made
      ∙ (rounds_run (test_of d) scheme (plan_of d) w budget most budget ∙ ap (λ (x : Schedule). run scheme (plan_of d) w x.events) (sym made))
