-- Last stamps and counts in tables, and what one event more makes of them.
use Rattle.std.specs.Prelude.{◌≡◌, ℕ, ◌+◌, List, cond, map, Some, unwrap_or, slice_get, find}
use Rattle.std.specs.BTreeMap.{BTreeMap, get}
use Rattle.std.specs.declared.cmp.Ordering.{Ordering}
use Rattle.std.specs.Ordering.{nat_cmp, ordering_then}
use Rattle.ds_script.specs.Replay.{onward}
use Rattle.ds_script.specs.declared.actor.Actor.{Actor}
use Rattle.ds_merge.specs.declared.kept.ObjectName.{ObjectName}
use Rattle.ds_merge.specs.declared.recorded.Recorded.{Recorded}
use Rattle.ds_merge.specs.declared.records.ActorRecord.{ActorRecord}
use Rattle.ds_merge.specs.declared.records.History.{History}
use Rattle.ds_merge.specs.declared.order.EventPlace.{EventPlace}
use Rattle.ds_merge.specs.declared.tables.Tables.{Tables}
use Rattle.ds_merge.specs.Order.{actor_cmp, key_of}
use Rattle.ds_merge.specs.Standing.{Standing, same_actor, same_name, touched_it}
use Rattle.ds_merge.specs.Walk.{no_event}

-- by host, then by kind, then by id
abbrev pub name_cmp : ObjectName → ObjectName → Ordering
name_cmp a b = ordering_then (nat_cmp a.host b.host) (ordering_then (nat_cmp a.kind b.kind) (nat_cmp a.id b.id))

-- the number at the actor, and at the object; 0 where there is none
abbrev pub at_actor : BTreeMap Actor ℕ → Actor → ℕ
at_actor m who = unwrap_or (get actor_cmp m who) 0

abbrev pub at_object : BTreeMap ObjectName ℕ → ObjectName → ℕ
at_object m name = unwrap_or (get name_cmp m name) 0

-- what tables say
abbrev pub seen : Tables → Standing
seen t = record { actor_last = at_actor t.actors; object_last = at_object t.objects; taken = at_object t.counts }

-- nothing is taken
abbrev pub at_start : Standing
at_start = record { actor_last = λ who. 0; object_last = λ name. 0; taken = λ name. 0 }

-- one event more
abbrev pub one_more : Recorded → Standing → Standing
one_more e s = record {
  actor_last = λ who. cond (same_actor e.who who) e.stamp (s.actor_last who);
  object_last = λ name. cond (touched_it name e.touched) e.stamp (s.object_last name);
  taken = λ name. cond (touched_it name e.touched) (s.taken name + 1) (s.taken name);
}

-- the event at the place; no event where there is none
abbrev pub event_of : List ActorRecord → EventPlace → Recorded
event_of records p = unwrap_or (onward (slice_get records p.record_place) (λ r. slice_get r.events.items p.at)) no_event

abbrev pub events_of : List ActorRecord → List EventPlace → List Recorded
events_of records places = map (event_of records) places

-- the record has the place's event, with the place's stamp and actor
pub record IsPlace (records : List ActorRecord) (p : EventPlace) : Type 0 where
  pub is : onward (slice_get records p.record_place) (λ r. slice_get r.events.items p.at) ≡ Some (event_of records p)
  pub key : p.key ≡ key_of (event_of records p)

-- the place that an index names for an object leads to the first history of this name
pub record Finds (places : BTreeMap ObjectName ℕ) (all searched : List History) : Type 0 where
  pub each : (name : ObjectName) → onward (get name_cmp places name) (slice_get all) ≡ find (λ h. same_name h.object name) searched
