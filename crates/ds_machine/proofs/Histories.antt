-- Histories are what the run entered, and readers of entries replay them.
use Rattle.std.proofs.Common.{◌≡◌, ℕ, zero, suc, ◌<◌, Bool, true, false, cond, List, [], ◌∷◌, ◌++◌, length, take, Option, Some, None, map, option_map, refl, sym, ◌∙◌, ap, ap₂, subst, arith}
use Rattle.std.proofs.lemmas.List.{map-append}
use Rattle.ds_script.specs.Replay.{onward, replay}
use Rattle.ds_model.specs.Scheme.{Scheme}
use Rattle.ds_model.specs.Plan.{Plan}
use Rattle.ds_model.specs.World.{World}
use Rattle.ds_model.specs.Step.{Event, step}
use Rattle.ds_merge.specs.declared.kept.ObjectName.{ObjectName}
use Rattle.ds_merge.specs.declared.kept.Kept.{Kept}
use Rattle.ds_merge.specs.declared.recorded.Recorded.{Recorded}
use Rattle.ds_merge.specs.declared.records.History.{History}
use Rattle.ds_merge.specs.Standing.{same_name}
use Rattle.ds_merge.specs.Walk as walks
use Rattle.ds_merge.specs.Parts.{entry_of, entries_of, AllAgree}
use Rattle.ds_merge.proofs.Derived.{same_name_is}
use Rattle.ds_merge.proofs.Runs.{history_is, histories_replay}
use Rattle.ds_replay.specs.Objects.{ObjectState}
use Rattle.ds_replay.specs.Touches.{Touch, touch}
use Rattle.ds_machine.specs.Names.{state_named, after_named}
use Rattle.ds_machine.specs.Spelled.{kept_of}
use Rattle.ds_machine.specs.Machine.{event_of, after_event, after, moves, event_entry, entry, answer}
use Rattle.ds_machine.specs.Laws.{line_of, event_line, lines_of, kept_in, change_in, HistoriesAreLines, ReadsOne, Reads, StepsAgree, HistoriesReplay}
use Rattle.ds_machine.proofs.Lines.{line_replays}

-- every event's entry is the recorded one
abbrev AllEnter : {M : Type 0} → (after : M → Recorded → M) (enters : M → Recorded → Option Kept) → M → List Recorded → Type 0
AllEnter after enters w [] = Unit {0}
AllEnter after enters w (r ∷ es) = (enters w r ≡ r.touched) × AllEnter after enters (after w r) es

module _ {M : Type 0} (after : M → Recorded → M) (shifts : M → Recorded → Bool) (enters : M → Recorded → Option Kept) (gives : M → Recorded → List ℕ) where
  all_enter : (es : List Recorded) (w : M) → ((k : ℕ) → k < length es → enters (walks.run after shifts enters gives w (take k es)) (walks.event es k) ≡ (walks.event es k).touched) → AllEnter after enters w es
  all_enter [] w f = tt
  all_enter (r ∷ es) w f = (f zero (omega arith), all_enter es (after w r) (λ k less. f (suc k) (omega (arith, less))))

  they_enter : (w : M) (hs : List History) (es : List Recorded) → walks.Matches after shifts enters gives w hs es → AllEnter after enters w es
  they_enter w hs es match = all_enter es w (λ k less. (match.goes.each k less).steps.entry)

module _ (s : Scheme) (plan : Plan) where
  line_kept : (w : World) (r : Recorded) (name : ObjectName) (o : Option Touch) → entry_of name (option_map (kept_of plan w r.who r.stamp) o) ≡ map kept_in (line_of plan w r name o)
  line_kept w r name None = refl
  line_kept w r name (Some t) = go (same_name (kept_of plan w r.who r.stamp t).object name)
    where
      go : (b : Bool) → cond b (kept_of plan w r.who r.stamp t ∷ []) [] ≡ map kept_in (cond b (record { kept = kept_of plan w r.who r.stamp t; change = t.change } ∷ []) [])
      go true = refl
      go false = refl

  event_kept : (w : World) (r : Recorded) (name : ObjectName) (q : Option Event) → entry_of name (event_entry s plan w r q) ≡ map kept_in (event_line s plan w r name q)
  event_kept w r name None = refl
  event_kept w r name (Some e) = line_kept w r name (touch s plan w e)

  lines_kept : (es : List Recorded) (w : World) (name : ObjectName) → AllEnter (after s plan) (entry s plan) w es → entries_of name es ≡ map kept_in (lines_of s plan w es name)
  lines_kept [] w name enter = refl
  lines_kept (r ∷ es) w name enter =
      ap₂ (λ xs ys. xs ++ ys) (ap (entry_of name) (sym enter.0) ∙ event_kept w r name (event_of plan r)) (lines_kept es (after s plan w r) name enter.1)
      ∙ sym (map-append kept_in (event_line s plan w r name (event_of plan r)) (lines_of s plan (after s plan w r) es name))

  module _ (act : ObjectState → Kept → Option ObjectState) where
    -- one event
    event_agrees : (w : World) (r : Recorded) (name : ObjectName) (q : Option Event) → ReadsOne s plan act w r q → replay act (state_named plan name w) (entry_of name (event_entry s plan w r q)) ≡ Some (state_named plan name (after_event s plan w q))
    event_agrees w r name None reads = refl
    event_agrees w r name (Some e) reads = by_touch (touch s plan w e) reads (line_replays s plan w r name (Some e))
      where
        by_touch : (o : Option Touch) →
            ((t : Touch) → o ≡ Some t → act (state_named plan (kept_of plan w r.who r.stamp t).object w) (kept_of plan w r.who r.stamp t)
            ≡ after_named s plan (kept_of plan w r.who r.stamp t).object (state_named plan (kept_of plan w r.who r.stamp t).object w) t.change) →
            replay (after_named s plan name) (state_named plan name w) (map change_in (line_of plan w r name o)) ≡ Some (state_named plan name (step s plan w e)) →
            replay act (state_named plan name w) (entry_of name (option_map (kept_of plan w r.who r.stamp) o)) ≡ Some (state_named plan name (step s plan w e))
        by_touch None one line = line
        by_touch (Some t) one line = by_name (same_name (kept_of plan w r.who r.stamp t).object name) refl line
          where
            by_name : (b : Bool) → same_name (kept_of plan w r.who r.stamp t).object name ≡ b →
                replay (after_named s plan name) (state_named plan name w) (map change_in (cond b (record { kept = kept_of plan w r.who r.stamp t; change = t.change } ∷ []) [])) ≡ Some (state_named plan name (step s plan w e)) →
                replay act (state_named plan name w) (cond b (kept_of plan w r.who r.stamp t ∷ []) []) ≡ Some (state_named plan name (step s plan w e))
            by_name false same line = line
            by_name true same line =
                ap (λ o. onward o (λ v. Some v)) (subst (λ n. act (state_named plan n w) (kept_of plan w r.who r.stamp t) ≡ after_named s plan n (state_named plan n w) t.change)
                (same_name_is (kept_of plan w r.who r.stamp t).object name same) (one t refl)) ∙ line

    steps_agree : (es : List Recorded) (w : World) → AllEnter (after s plan) (entry s plan) w es → Reads s plan act w es → AllAgree (after s plan) (state_named plan) act w es
    steps_agree [] w enter reads = tt
    steps_agree (r ∷ es) w enter reads = (
      record { parts = λ name. ap (λ t. replay act (state_named plan name w) (entry_of name t)) (sym enter.0) ∙ event_agrees w r name (event_of plan r) reads.0 },
      steps_agree es (after s plan w r) enter.1 reads.1,
    )

pub histories_are_lines : HistoriesAreLines
histories_are_lines s plan w hs es h match found =
    sym (history_is (after s plan) (moves s plan) (entry s plan) (answer s plan) w hs es h match found)
    ∙ lines_kept s plan es w h.object (they_enter (after s plan) (moves s plan) (entry s plan) (answer s plan) w hs es match)

pub each_step_agrees : StepsAgree
each_step_agrees s plan act w hs es match reads = steps_agree s plan act es w (they_enter (after s plan) (moves s plan) (entry s plan) (answer s plan) w hs es match) reads

pub readers_replay : HistoriesReplay
readers_replay s plan act w hs es h match found reads =
    histories_replay (after s plan) (moves s plan) (entry s plan) (answer s plan) (state_named plan) act w hs es h match found (each_step_agrees s plan act w hs es match reads)
