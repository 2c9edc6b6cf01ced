-- An event that is tried, as the code tries it.
use Rattle.std.proofs.Common.{◌≡◌, ℕ, suc, ◌-◌, ◌<◌, Bool, true, false, List, [], ◌∷◌, ◌++◌, map, refl, sym, ap, ◌∙◌, arith}
use Rattle.std.proofs.lemmas.List.{map-append}
use Rattle.ds_model.specs.World.{World}
use Rattle.ds_model.specs.Step.{Event, step}
use Rattle.ds_model.specs.Schedule.{Decides, Schedule}
use Rattle.ds_model.proofs.Moves.{finds_still}
use Rattle.ds_plan.specs.declared.doc.Doc.{Doc}
use Rattle.ds_plan.specs.declared.event.Event.{Event as DocEvent}
use Rattle.ds_setup.specs.Events.{meant}
use Rattle.ds_setup.specs.Plans.{plan_of}
use Rattle.ds_scheme.specs.TheScheme.{scheme}
use Rattle.ds_exporter.specs.declared.moved.Moved.TheVariants.{Changed, Still}
use Rattle.ds_exporter.specs.Moving.{Moves}
use Rattle.ds_world.specs.Makings.{test_of, tries}
use Rattle.ds_world.proofs.Rounds.{came, full, skipped}

-- the document's test finds what is still
pub finds : (d : Doc) → Decides scheme (plan_of d) (test_of d)
unfolding test_of
finds d = finds_still scheme (plan_of d)

pub none_left : (d : Doc) (e : Event) (sch : Schedule) → sch.left ≡ 0 → sch ≡ tries d e sch
none_left d e sch none = sym (full (test_of d) scheme (plan_of d) e sch none)

pub still_event : (d : Doc) (e : Event) (sch : Schedule) (v : World)
    → Moves Still sch.world v (step scheme (plan_of d) sch.world e) → record sch { world = v } ≡ tries d e sch
still_event d e sch v moves =
    let same : v ≡ sch.world = moves.1.0 refl in
    (λ i. record sch { world = same i }) ∙ sym (skipped (test_of d) scheme (plan_of d) e sch ((finds d sch.world e).1 (sym moves.0 ∙ same)))

moved_event : (d : Doc) (e : Event) (w v : World) → Moves Changed w v (step scheme (plan_of d) w e)
    → test_of d w e ≡ true
moved_event d e w v moves = go (test_of d w e) refl
  where
    go : (b : Bool) → test_of d w e ≡ b → test_of d w e ≡ true
    go true q = q
    go false q = absurd (other (moves.1.1 (moves.0 ∙ (finds d w e).0 q)))
      where
        other : Changed ≡ Still → ⊥
        other same = absurd cc

pub kept_event : (d : Doc) (w v : World) (events more : List DocEvent) (event : DocEvent) (left less : ℕ)
    → Moves Changed w v (step scheme (plan_of d) w (meant event)) → 0 < left → more ≡ events ++ event ∷ [] → less ≡ left - 1
    → record { world = v; events = map meant more; left = less } ≡ tries d (meant event) (record { world = w; events = map meant events; left = left })
kept_event d w v events more event left less moves some grown fewer =
    let sch : Schedule = record { world = w; events = map meant events; left = left } in
    let next : left ≡ suc less = omega (arith, some, fewer) in
    let listed : map meant more ≡ map meant events ++ meant event ∷ [] = ap (map meant) grown ∙ map-append meant events (event ∷ []) in
    (λ i. record { world = moves.0 i; events = listed i; left = less })
    ∙ sym (came (test_of d) scheme (plan_of d) (meant event) sch less (moved_event d (meant event) w v moves) next)
