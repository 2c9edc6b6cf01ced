-- What the events that the walk has gone past leave: last stamps, and how many entries of each object are taken.
use Rattle.std.specs.Prelude.{ℕ, ◌==◌, List, Bool, false, ◌&&◌, length, filter, find, Option, Some, None, slice_get}
use Rattle.ds_script.specs.Replay.{onward, last_of}
use Rattle.ds_script.specs.declared.actor.Actor.{Actor}
use Rattle.ds_merge.specs.declared.kept.ObjectName.{ObjectName}
use Rattle.ds_merge.specs.declared.kept.Kept.{Kept}
use Rattle.ds_merge.specs.declared.recorded.Recorded.{Recorded}
use Rattle.ds_merge.specs.declared.records.History.{History}
use Rattle.ds_merge.specs.Order.{kind_place}

abbrev pub same_actor : Actor → Actor → Bool
same_actor a b = (kind_place a.kind == kind_place b.kind) && ((a.host == b.host) && (a.index == b.index))

abbrev pub same_name : ObjectName → ObjectName → Bool
same_name a b = (a.host == b.host) && ((a.kind == b.kind) && (a.id == b.id))

abbrev pub touched_it : ObjectName → Option Kept → Bool
touched_it name None = false
touched_it name (Some k) = same_name k.object name

-- those events that the actor made
abbrev pub by_actor : Actor → List Recorded → List Recorded
by_actor who es = filter (λ e. same_actor e.who who) es

-- those events that touched the object
abbrev pub on_object : ObjectName → List Recorded → List Recorded
on_object name es = filter (λ e. touched_it name e.touched) es

-- the stamp of the last event, 0 where there is none
abbrev pub last_stamp : List Recorded → ℕ
last_stamp es = last_of (λ e. e.stamp) 0 es

-- how far a walk has come: the last stamp of each actor and of each object, and how many entries of each object are taken
pub record Standing : Type 0 where
  pub actor_last : Actor → ℕ
  pub object_last : ObjectName → ℕ
  pub taken : ObjectName → ℕ

-- after these events
abbrev pub standing : List Recorded → Standing
standing before = record {
  actor_last = λ who. last_stamp (by_actor who before);
  object_last = λ name. last_stamp (on_object name before);
  taken = λ name. length (on_object name before);
}

-- the history's first entry that isn't taken
abbrev pub next_in : Standing → History → Option Kept
next_in s h = slice_get h.entries.items (s.taken h.object)

-- the object's first entry that isn't taken; none where no history is the object's
abbrev pub next_of : List History → Standing → ObjectName → Option Kept
next_of hs s name = onward (find (λ h. same_name h.object name) hs) (next_in s)
