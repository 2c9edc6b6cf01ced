-- Places of events in the records: as they are pushed, and as they are sorted.
use Rattle.std.proofs.Common.{◌≡◌, ℕ, ◌<◌, ◌+◌, List, [], ◌∷◌, ◌++◌, length, take, map, Bool, true, false, ◌&&◌, not, cond, append-nil, Some, refl, sym, ap, ◌∙◌, arith, slice_index_or, filter, All}
use Rattle.std.specs.Prelude.{slice_get, unwrap_or}
use Rattle.std.specs.Ordering.{is_lt}
use Rattle.std.specs.List.Sorted.{IsSortedByKey, IsStableByKey, ties}
use Rattle.std.proofs.lemmas.List.{append_assoc, map-append, take_more}
use Rattle.std.proofs.lemmas.Grind.{flat_map-append}
use Rattle.std.proofs.lemmas.Option.{slice_get-get_or, get_or_from_slice_get, slice_get_within}
use Rattle.std.proofs.lemmas.List.Elements.{All-push, All-head, All-tail}
use Rattle.std.proofs.lemmas.List.Sorted.{sorted_far}
use Rattle.ds_script.specs.Replay.{onward}
use Rattle.ds_merge.specs.declared.recorded.Recorded.{Recorded}
use Rattle.ds_merge.specs.declared.records.ActorRecord.{ActorRecord}
use Rattle.ds_merge.specs.declared.order.EventKey.{EventKey}
use Rattle.ds_merge.specs.declared.order.EventPlace.{EventPlace}
use Rattle.ds_merge.specs.Walk.{no_event}
use Rattle.ds_merge.specs.Order.{key_cmp, key_of, is_before, all_events, merged}
use Rattle.ds_merge.specs.Tables.{event_of, events_of, IsPlace}
use Rattle.ds_merge.proofs.Ordered.{Ahead, Ascends, ascends_from}
use Rattle.ds_merge.proofs.OnlyList.{places_rank, in_order_is}

-- ---- one place

pub at_place : (records : List ActorRecord) (k : EventKey) (n at : ℕ) (r : ActorRecord) (e : Recorded) → slice_get records n ≡ Some r → slice_get r.events.items at ≡ Some e
    → event_of records (record { key = k; record_place = n; at = at }) ≡ e
at_place records k n at r e found there =
    ap (λ o. unwrap_or (onward o (λ x. slice_get x.events.items at)) no_event) found ∙ ap (λ o. unwrap_or o no_event) there

pub is_place : (records : List ActorRecord) (n at : ℕ) (r : ActorRecord) (e : Recorded) → slice_get records n ≡ Some r → slice_get r.events.items at ≡ Some e
    → IsPlace records (record { key = key_of e; record_place = n; at = at })
is_place records n at r e found there =
    record {
      is = ap (λ o. onward o (λ x. slice_get x.events.items at)) found ∙ there ∙ ap Some (sym (at_place records (key_of e) n at r e found there));
      key = ap key_of (sym (at_place records (key_of e) n at r e found there));
    }

pub push_list : (records : List ActorRecord) (n at : ℕ) (r : ActorRecord) (events : List Recorded) (e : Recorded) (before : List Recorded) (places : List EventPlace)
    → slice_get records n ≡ Some r → events ≡ r.events.items → slice_get events at ≡ Some e → take (at + 1) events ≡ take at events ++ e ∷ []
    → events_of records places ≡ before ++ take at events → events_of records (places ++ record { key = key_of e; record_place = n; at = at } ∷ []) ≡ before ++ take (at + 1) events
push_list records n at r events e before places found is there more so_far =
    map-append (event_of records) places (record { key = key_of e; record_place = n; at = at } ∷ [])
    ∙ (λ i. so_far i ++ at_place records (key_of e) n at r e found (ap (λ xs. slice_get xs at) (sym is) ∙ there) i ∷ [])
    ∙ append_assoc before (take at events) (e ∷ [])
    ∙ ap (λ xs. before ++ xs) (sym more)

pub push_all : (records : List ActorRecord) (n at : ℕ) (r : ActorRecord) (events : List Recorded) (e : Recorded) (places : List EventPlace)
    → slice_get records n ≡ Some r → events ≡ r.events.items → slice_get events at ≡ Some e
    → All (IsPlace records) places → All (IsPlace records) (places ++ record { key = key_of e; record_place = n; at = at } ∷ [])
push_all records n at r events e places found is there all =
    All-push (IsPlace records) places (record { key = key_of e; record_place = n; at = at }) all (is_place records n at r e found (ap (λ xs. slice_get xs at) (sym is) ∙ there))

-- ---- one record after another

pub found_at : {X : Type 0} (xs : List X) (n : ℕ) → n < length xs → (x : X) × (slice_get xs n ≡ Some x)
found_at [] n below = absurd (omega (arith, below))
found_at (x ∷ xs) n below = (slice_index_or (x ∷ xs) n x, slice_get-get_or (x ∷ xs) n x below)

pub events_more : (records : List ActorRecord) (n : ℕ) (r : ActorRecord) → slice_get records n ≡ Some r → all_events (take (n + 1) records) ≡ all_events (take n records) ++ r.events.items
events_more records n r found =
    ap all_events (take_more records n r (slice_get_within records n r found) ∙ ap (λ x. take n records ++ x ∷ []) (get_or_from_slice_get records n r r found))
    ∙ flat_map-append (λ x. x.events.items) (take n records) (r ∷ [])
    ∙ ap (λ xs. all_events (take n records) ++ xs) (append-nil r.events.items)

pub one_record_more : (records : List ActorRecord) (n : ℕ) (old new : List EventPlace) → n < length records
    → ((r : ActorRecord) → slice_get records n ≡ Some r → events_of records new ≡ events_of records old ++ r.events.items)
    → events_of records old ≡ all_events (take n records) → events_of records new ≡ all_events (take (n + 1) records)
one_record_more records n old new below grows so_far =
    let r = found_at records n below in
    grows r.0 r.1 ∙ ap (λ xs. xs ++ r.0.events.items) so_far ∙ sym (events_more records n r.0 r.1)

-- ---- in order

module _ (records : List ActorRecord) where
  same_lt : (p q : EventPlace) → IsPlace records p → IsPlace records q → is_before (event_of records p) (event_of records q) ≡ is_lt (key_cmp p.key q.key)
  same_lt p q x y = λ i. is_lt (key_cmp (sym x.key i) (sym y.key i))

  ahead_events : (p : EventPlace) (qs : List EventPlace) → IsPlace records p → All (IsPlace records) qs → Ahead (λ (a b : EventPlace). is_lt (key_cmp a.key b.key)) p qs → Ahead is_before (event_of records p) (events_of records qs)
  ahead_events p [] x all a = tt
  ahead_events p (q ∷ qs) x all a = (same_lt q p (All-head (IsPlace records) q qs all) x ∙ a.0, ahead_events p qs x (All-tail (IsPlace records) q qs all) a.1)

  ascend_events : (qs : List EventPlace) → All (IsPlace records) qs → Ascends (λ (a b : EventPlace). is_lt (key_cmp a.key b.key)) qs → Ascends is_before (events_of records qs)
  ascend_events [] all a = tt
  ascend_events (q ∷ qs) all a =
      (ahead_events q qs (All-head (IsPlace records) q qs all) (All-tail (IsPlace records) q qs all) a.0, ascend_events qs (All-tail (IsPlace records) q qs all) a.1)

  -- the events that tie with one are those at the places that tie with its key
  tied_events : (e : Recorded) (x : EventPlace) (qs : List EventPlace) → x.key ≡ key_of e → All (IsPlace records) qs
      → filter (ties is_before e) (events_of records qs) ≡ map (event_of records) (filter (ties (λ (a b : EventPlace). is_lt (key_cmp a.key b.key)) x) qs)
  tied_events e x [] is all = refl
  tied_events e x (q ∷ qs) is all =
      heads (tied_events e x qs is (All-tail (IsPlace records) q qs all)) ∙ by (ties (λ (a b : EventPlace). is_lt (key_cmp a.key b.key)) x q)
    where
      key : q.key ≡ key_of (event_of records q)
      key = (All-head (IsPlace records) q qs all).key

      same : ties is_before e (event_of records q) ≡ ties (λ (a b : EventPlace). is_lt (key_cmp a.key b.key)) x q
      same = λ i. not (is_lt (key_cmp (sym is i) (sym key i))) && not (is_lt (key_cmp (sym key i) (sym is i)))

      heads : filter (ties is_before e) (events_of records qs) ≡ map (event_of records) (filter (ties (λ (a b : EventPlace). is_lt (key_cmp a.key b.key)) x) qs) → filter (ties is_before e) (events_of records (q ∷ qs))
          ≡ cond (ties (λ (a b : EventPlace). is_lt (key_cmp a.key b.key)) x q) (event_of records q ∷ map (event_of records) (filter (ties (λ (a b : EventPlace). is_lt (key_cmp a.key b.key)) x) qs)) (map (event_of records) (filter (ties (λ (a b : EventPlace). is_lt (key_cmp a.key b.key)) x) qs))
      heads rest = λ i. cond (same i) (event_of records q ∷ rest i) (rest i)

      by : (b : Bool)
          → cond b (event_of records q ∷ map (event_of records) (filter (ties (λ (a b : EventPlace). is_lt (key_cmp a.key b.key)) x) qs)) (map (event_of records) (filter (ties (λ (a b : EventPlace). is_lt (key_cmp a.key b.key)) x) qs))
          ≡ map (event_of records) (cond b (q ∷ filter (ties (λ (a b : EventPlace). is_lt (key_cmp a.key b.key)) x) qs) (filter (ties (λ (a b : EventPlace). is_lt (key_cmp a.key b.key)) x) qs))
      by true = refl
      by false = refl

  pub sorted_events : (ps qs : List EventPlace) → All (IsPlace records) ps → All (IsPlace records) qs → events_of records ps ≡ all_events records
      → IsSortedByKey (λ (p : EventPlace). p.key) key_cmp qs → IsStableByKey (λ (p : EventPlace). p.key) key_cmp ps qs → events_of records qs ≡ merged records
  sorted_events ps qs all_ps all_qs list up same =
      in_order_is (events_of records qs) (all_events records)
      (ascend_events qs all_qs (ascends_from (λ (a b : EventPlace). is_lt (key_cmp a.key b.key)) qs (sorted_far (λ (a b : EventPlace). is_lt (key_cmp a.key b.key)) (places_rank (λ (p : EventPlace). p.key)) qs up)))
      (λ e. let x : EventPlace = record { key = key_of e; record_place = 0; at = 0 } in
      tied_events e x qs refl all_qs ∙ ap (map (event_of records)) (same x) ∙ sym (tied_events e x ps refl all_ps) ∙ ap (filter (ties is_before e)) list)
