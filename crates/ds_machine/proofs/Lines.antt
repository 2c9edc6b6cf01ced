-- What a run enters in an object, and the object's replay.
use Rattle.std.proofs.Common.{◌≡◌, Bool, true, false, cond, List, [], ◌∷◌, Option, Some, None, map, refl, ◌∙◌, ap}
use Rattle.std.specs.Prelude.{filter_map, if◌then◌else◌}
use Rattle.std.specs.List.{cons_option}
use Rattle.std.proofs.lemmas.List.{map-append}
use Rattle.ds_script.specs.Replay.{onward, replay}
use Rattle.ds_model.specs.Scheme.{Scheme}
use Rattle.ds_model.specs.Plan.{Plan, host_plan}
use Rattle.ds_model.specs.World.{World}
use Rattle.ds_model.specs.Step.{Event, step}
use Rattle.ds_model.specs.Step as model
use Rattle.ds_model.proofs.Replays.{replay_append}
use Rattle.ds_merge.specs.declared.kept.ObjectName.{ObjectName}
use Rattle.ds_merge.specs.declared.recorded.Recorded.{Recorded}
use Rattle.ds_merge.specs.Standing.{same_name}
use Rattle.ds_replay.specs.Objects.{Object, TheDesk, MailboxAt, LaneAt, InletAt}
use Rattle.ds_replay.specs.Touches.{Touch, touch, change_of}
use Rattle.ds_replay.proofs.Replays.{one_object}
use Rattle.ds_replay.proofs.Slots.{slots_name}
use Rattle.ds_machine.specs.Names.{name_of, object_of, IsNamed, state_in, state_named, after_in, after_named}
use Rattle.ds_machine.specs.Spelled.{kept_of}
use Rattle.ds_machine.specs.Machine.{event_of, after_event, after}
use Rattle.ds_machine.specs.Laws.{line_of, event_line, lines_of, change_in, run}
use Rattle.ds_machine.proofs.Naming.{names_tie, no_tie}

module _ (s : Scheme) (plan : Plan) where
  pub runs_are_runs : (es : List Recorded) (w : World) → run s plan w es ≡ model.run s plan w (filter_map (event_of plan) es)
  runs_are_runs [] w = refl
  runs_are_runs (r ∷ es) w = go (event_of plan r) (runs_are_runs es)
    where
      go : (o : Option Event) → ((v : World) → run s plan v es ≡ model.run s plan v (filter_map (event_of plan) es)) → run s plan (after_event s plan w o) es ≡ model.run s plan w (cons_option o (filter_map (event_of plan) es))
      go None rec = rec w
      go (Some e) rec = rec (step s plan w e)

  -- what is touched has a name
  pub touched_is_named : (w : World) (e : Event) (t : Touch) → touch s plan w e ≡ Some t → IsNamed (host_plan plan t.host) t.object
  touched_is_named w e t is = go t.object refl
    where
      go : (o : Object) → t.object ≡ o → IsNamed (host_plan plan t.host) o
      go TheDesk q = tt
      go (MailboxAt b) q = slots_name s plan w e t b is q
      go (LaneAt l) q = tt
      go (InletAt i) q = tt

  line_changes : (w : World) (r : Recorded) (e : Event) (name : ObjectName) (object : Object) → object_of plan name ≡ Some object → (o : Option Touch) → touch s plan w e ≡ o →
      map change_in (line_of plan w r name o) ≡ change_of name.host object o
  line_changes w r e name object is None q = refl
  line_changes w r e name object is (Some t) q = go (same_name (name_of (host_plan plan t.host) t.host t.object) name) ∙ ap (λ b. if b then t.change ∷ [] else []) (names_tie plan t.host t.object name object (touched_is_named w e t q) is)
    where
      go : (b : Bool) → map change_in (cond b (record { kept = kept_of plan w r.who r.stamp t; change = t.change } ∷ []) []) ≡ (if b then t.change ∷ [] else [])
      go true = refl
      go false = refl

  no_line : (w : World) (r : Recorded) (e : Event) (name : ObjectName) → object_of plan name ≡ None → (o : Option Touch) → touch s plan w e ≡ o → line_of plan w r name o ≡ []
  no_line w r e name none None q = refl
  no_line w r e name none (Some t) q = ap (λ b. cond b (record { kept = kept_of plan w r.who r.stamp t; change = t.change } ∷ []) []) (no_tie plan t.host t.object name (touched_is_named w e t q) none)

  -- one event
  pub line_replays : (w : World) (r : Recorded) (name : ObjectName) (q : Option Event) → replay (after_named s plan name) (state_named plan name w) (map change_in (event_line s plan w r name q)) ≡ Some (state_named plan name (after_event s plan w q))
  line_replays w r name None = refl
  line_replays w r name (Some e) = go (object_of plan name) refl
    where
      go : (o : Option Object) → object_of plan name ≡ o → replay (after_in s (host_plan plan name.host) o) (state_in w name.host o) (map change_in (event_line s plan w r name (Some e))) ≡ Some (state_in (step s plan w e) name.host o)
      go None is = ap (λ xs. replay (after_in s (host_plan plan name.host) None) (state_in w name.host None) (map change_in xs)) (no_line w r e name is (touch s plan w e) refl)
      go (Some object) is = ap (replay (after_in s (host_plan plan name.host) (Some object)) (state_in w name.host (Some object))) (line_changes w r e name object is (touch s plan w e) refl) ∙ one_object s plan w e name.host object

  pub lines_replay : (es : List Recorded) (w : World) (name : ObjectName) → replay (after_named s plan name) (state_named plan name w) (map change_in (lines_of s plan w es name)) ≡ Some (state_named plan name (run s plan w es))
  lines_replay [] w name = refl
  lines_replay (r ∷ es) w name =
      ap (replay (after_named s plan name) (state_named plan name w)) (map-append change_in (event_line s plan w r name (event_of plan r)) (lines_of s plan (after s plan w r) es name))
      ∙ (replay_append (after_named s plan name) (state_named plan name w) (map change_in (event_line s plan w r name (event_of plan r))) (map change_in (lines_of s plan (after s plan w r) es name))
      ∙ (ap (λ o. onward o (λ v. replay (after_named s plan name) v (map change_in (lines_of s plan (after s plan w r) es name)))) (line_replays w r name (event_of plan r))
      ∙ lines_replay es (after s plan w r) name))
