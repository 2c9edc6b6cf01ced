-- The merged list: the recorded events of all records by stamp and actor, and in their record's order where both are equal.
use Rattle.std.specs.Prelude.{◌≡◌, ℕ, List, [], ◌∷◌, Bool, cond, flat_map, filter}
use Rattle.std.specs.declared.cmp.Ordering.{Ordering}
use Rattle.std.specs.Ordering.{nat_cmp, ordering_then, is_lt}
use Rattle.std.specs.List.Sorted.{IsPermutation, IsSortedBy, ties}
use Rattle.ds_script.specs.declared.actor.ActorKind.{ActorKind}
use Rattle.ds_script.specs.declared.actor.ActorKind.TheVariants.{Clock, Proc, Lane, Conn}
use Rattle.ds_script.specs.declared.actor.Actor.{Actor}
use Rattle.ds_merge.specs.declared.recorded.Recorded.{Recorded}
use Rattle.ds_merge.specs.declared.records.ActorRecord.{ActorRecord}
use Rattle.ds_merge.specs.declared.order.EventKey.{EventKey}

-- the kinds of actors in their order
abbrev pub kind_place : ActorKind → ℕ
kind_place Clock = 0
kind_place Proc = 1
kind_place Lane = 2
kind_place Conn = 3

-- by kind, then by host, then by index
abbrev pub actor_cmp : Actor → Actor → Ordering
actor_cmp a b = ordering_then (nat_cmp (kind_place a.kind) (kind_place b.kind)) (ordering_then (nat_cmp a.host b.host) (nat_cmp a.index b.index))

-- by stamp, then by actor
abbrev pub key_cmp : EventKey → EventKey → Ordering
key_cmp a b = ordering_then (nat_cmp a.stamp b.stamp) (actor_cmp a.who b.who)

abbrev pub key_of : Recorded → EventKey
key_of e = record { stamp = e.stamp; who = e.who }

abbrev pub is_before : Recorded → Recorded → Bool
is_before a b = is_lt (key_cmp (key_of a) (key_of b))

-- the event put into a list behind those that are before it, and ahead of all others
abbrev pub put_in : Recorded → List Recorded → List Recorded
put_in e [] = e ∷ []
put_in e (x ∷ xs) = cond (is_before x e) (x ∷ put_in e xs) (e ∷ x ∷ xs)

unfoldable pub in_order : List Recorded → List Recorded
in_order [] = []
in_order (e ∷ es) = put_in e (in_order es)

-- the events of all records, one record after another
abbrev pub all_events : List ActorRecord → List Recorded
all_events records = flat_map (λ r. r.events.items) records

-- the merged list
abbrev pub merged : List ActorRecord → List Recorded
merged records = in_order (all_events records)

-- es has all events, none is before the one ahead of it, and those with one stamp and actor stand as in the records
pub record IsMerged (records : List ActorRecord) (es : List Recorded) : Type 0 where
  pub all : IsPermutation (all_events records) es
  pub sorted : IsSortedBy is_before es
  pub stable : (e : Recorded) → filter (ties is_before e) es ≡ filter (ties is_before e) (all_events records)
