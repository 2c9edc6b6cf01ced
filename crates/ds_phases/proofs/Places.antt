-- What arrives at all tasks, one after another.
use Rattle.std.proofs.Common.{◌≡◌, ℕ, ◌+◌, ◌<◌, ◌≤◌, ◌⊎◌, inl, inr, List, [], ◌∷◌, zero, suc, length, All, Option, Some, None, slice_get, slice_set, refl, sym, subst, ap, ◌∙◌, arith, get_or-set_same, get_or-set_other}
use Rattle.std.specs.Prelude.{slice_index_or}
use Rattle.std.proofs.lemmas.Bool.{cases_eq, cases_lt}
use Rattle.std.proofs.lemmas.List.{length-set}
use Rattle.std.proofs.lemmas.List.Elements.{All-set}
use Rattle.std.proofs.lemmas.List.Sums.{sum_by-set}
use Rattle.std.proofs.lemmas.Option.{get_or_from_slice_get, slice_get-get_or, slice_get_within}
use Rattle.ds_turn.specs.declared.node.Node.{Node}
use Rattle.ds_turn.specs.LaneRecords.{LaneRecord}
use Rattle.ds_worker.specs.declared.task.Task.{Task}
use Rattle.ds_worker.specs.Tasks.{MayWork}
use Rattle.ds_phases.specs.Arrivals.{AllArrived, ArrivedOne, HasArrived, IsFedOrNot, IsGiven, SomeArrived, arrived_at, bytes_left, events_in, events_of, lane_in, lane_in_task, last_stamp, source_at, source_in}
use Rattle.ds_phases.proofs.Giving.{given_none, lane_stays, may_after, whole_after}

-- below the next place: below this one, or here
pub below_next : (P : ℕ → Type 0) (n : ℕ) → ((i : ℕ) → i < n → P i) → P n → (i : ℕ) → i < n + 1 → P i
below_next P n below here i less = by_place (cases_eq i n)
  where
    by_place : (i ≡ n) ⊎ (i ≡ n → ⊥) → P i
    by_place (inl e) = subst P (sym e) here
    by_place (inr ne) = below i (by_order (cases_lt i n))
      where
        by_order : (i < n) ⊎ (n ≤ i) → i < n
        by_order (inl lt) = lt
        by_order (inr ge) = absurd (ne (omega arith))

-- what is read at a place, by any default
pub by_none : {X : Type 0} (xs : List (Option X)) (i : ℕ) (d : Option X) → i < length xs → slice_index_or xs i None ≡ slice_index_or xs i d
by_none xs i d within = get_or_from_slice_get xs i (slice_index_or xs i d) None (slice_get-get_or xs i d within)

module _ {K : Type 0} where
  lanes_set : (xs : List (Task K)) (i : ℕ) (was t : Task K) (j : ℕ) → slice_get xs i ≡ Some was → lane_in t.actor ≡ lane_in was.actor → lane_in_task (slice_get (slice_set xs i t) j) ≡ lane_in_task (slice_get xs j)
  lanes_set [] i was t j at same = refl
  lanes_set (x ∷ xs) zero was t zero at same = same ∙ ap lane_in_task (sym at)
  lanes_set (x ∷ xs) zero was t (suc j) at same = refl
  lanes_set (x ∷ xs) (suc i) was t zero at same = refl
  lanes_set (x ∷ xs) (suc i) was t (suc j) at same = lanes_set xs i was t j at same

  -- the first so many were tried, with so many arrivals
  pub record ArrivedTo (feeds : List (Option ℕ)) (place made : ℕ) (old now : List (Task K)) : Type 0 where
    pub count : length now ≡ length old
    pub few : made ≤ place
    pub done : (i : ℕ) (d : Task K) → i < place → HasArrived (source_at feeds old i) (slice_index_or old i d) (slice_index_or now i d)
    pub rest : (i : ℕ) (d : Task K) → place ≤ i → slice_index_or now i d ≡ slice_index_or old i d
    pub lanes : (f : Option ℕ) → source_in now f ≡ source_in old f
    pub events : events_in now ≡ events_in old + made
    pub still : made ≡ 0 → (i : ℕ) (d : Task K) → i < place → IsGiven [] 0 (slice_index_or old i d) (slice_index_or now i d)
    pub may : (nodes : List Node) → All (MayWork nodes) old → All (MayWork nodes) now

  pub arrived_none : (feeds : List (Option ℕ)) (tasks : List (Task K)) → ArrivedTo feeds 0 0 tasks tasks
  arrived_none feeds tasks = record {
    count = refl;
    few = omega arith;
    done = λ i d less. absurd (omega arith);
    rest = λ i d from. refl;
    lanes = λ f. refl;
    events = omega arith;
    still = λ none i d less. absurd (omega arith);
    may = λ nodes may. may;
  }

  lanes_at : (now : List (Task K)) (place : ℕ) (was t : Task K) (f : Option ℕ) → slice_get now place ≡ Some was → lane_in t.actor ≡ lane_in was.actor → source_in (slice_set now place t) f ≡ source_in now f
  lanes_at now place was t None at same = refl
  lanes_at now place was t (Some j) at same = lanes_set now place was t j at same

  events_set : (now : List (Task K)) (place : ℕ) (was t : Task K) (n : ℕ) → slice_get now place ≡ Some was → events_of t ≡ events_of was + n → events_in (slice_set now place t) ≡ events_in now + n
  events_set now place was t n at more =
      let within : place < length now = slice_get_within now place was at in
      let here : slice_index_or now place was ≡ was = get_or_from_slice_get now place was was at in
      let same : events_of (slice_index_or now place was) ≡ events_of was = ap events_of here in
      omega (arith, sum_by-set events_of now place t was within, same, more)

  -- what a turn needs stays
  pub may_one : (nodes : List Node) (place : ℕ) (source : Option LaneRecord) (made : ℕ) (now new : List (Task K)) → ArrivedOne place source made now new → All (MayWork nodes) now → All (MayWork nodes) new
  may_one nodes place source made now new one may = subst (All (MayWork nodes)) (sym one.becomes) (All-set (MayWork nodes) now place one.task
      (may_after nodes (bytes_left source (arrived_at one.was.actor)) (last_stamp source) one.was one.task one.fed
      (subst (MayWork nodes) (get_or_from_slice_get now place one.was one.was one.there) (may place one.was (slice_get_within now place one.was one.there)))) may)

  pub arrived_more : (feeds : List (Option ℕ)) (place made n next : ℕ) (feed : Option ℕ) (old now : List (Task K)) (new : List (Task K)) → ArrivedTo feeds place made old now → slice_index_or feeds place None ≡ feed
      → ArrivedOne place (source_in now feed) n now new → next ≡ made + n → ArrivedTo feeds (place + 1) next old new
  arrived_more feeds place made n next feed old now new before which one sum =
      let at : slice_get now place ≡ Some one.was = one.there in
      let inside : place < length now = slice_get_within now place one.was at in
      let source : source_in now feed ≡ source_at feeds old place = before.lanes feed ∙ ap (source_in old) (sym which) in
      let new_at : (d : Task K) → slice_index_or new place d ≡ one.task = λ d. ap (λ (xs : List (Task K)). slice_index_or xs place d) one.becomes ∙ get_or-set_same now place one.task d inside in
      let other : (i : ℕ) (d : Task K) → (i ≡ place → ⊥) → slice_index_or new i d ≡ slice_index_or now i d = λ i d ne. ap (λ (xs : List (Task K)). slice_index_or xs i d) one.becomes ∙ get_or-set_other now place i one.task d ne in
      let was_at : (d : Task K) → one.was ≡ slice_index_or old place d = λ d. sym (get_or_from_slice_get now place one.was d at) ∙ before.rest place d (omega arith) in
      let fed : HasArrived (source_at feeds old place) one.was one.task = subst (λ (s : Option LaneRecord). HasArrived s one.was one.task) source one.fed in
      record {
        count = ap length one.becomes ∙ (length-set now place one.task ∙ before.count);
        few = omega (arith, before.few, one.one, sum);
        done = λ i d less. below_next (λ (k : ℕ). HasArrived (source_at feeds old k) (slice_index_or old k d) (slice_index_or new k d)) place
            (λ k lt. subst (λ (t : Task K). HasArrived (source_at feeds old k) (slice_index_or old k d) t) (sym (other k d (λ e. omega arith))) (before.done k d lt))
            (subst (λ (t : Task K). HasArrived (source_at feeds old place) (slice_index_or old place d) t) (sym (new_at d))
            (subst (λ (x : Task K). HasArrived (source_at feeds old place) x one.task) (was_at d) fed)) i less;
        rest = λ i d from. other i d (λ e. omega arith) ∙ before.rest i d (omega arith);
        lanes = λ f. ap (λ (xs : List (Task K)). source_in xs f) one.becomes
            ∙ (lanes_at now place one.was one.task f at (lane_stays (bytes_left (source_in now feed) (arrived_at one.was.actor)) (last_stamp (source_in now feed)) one.was one.task one.fed) ∙ before.lanes f);
        events = ap events_in one.becomes ∙ omega (arith, events_set now place one.was one.task n at one.events, before.events, sum);
        still = λ none i d less. below_next (λ (k : ℕ). IsGiven [] 0 (slice_index_or old k d) (slice_index_or new k d)) place
            (λ k lt. subst (λ (t : Task K). IsGiven [] 0 (slice_index_or old k d) t) (sym (other k d (λ e. omega arith))) (before.still (omega arith) k d lt))
            (subst (λ (t : Task K). IsGiven [] 0 (slice_index_or old place d) t) (sym (new_at d)) (subst (λ (x : Task K). IsGiven [] 0 x one.task) (was_at d) (one.still (omega arith)))) i less;
        may = λ nodes may. may_one nodes place (source_in now feed) n now new one (before.may nodes may);
      }

  -- all were tried
  pub arrived_all : (feeds : List (Option ℕ)) (place made : ℕ) (old now : List (Task K)) → ArrivedTo feeds place made old now → length old ≤ place → place ≤ length old → AllArrived feeds made old now
  arrived_all feeds place made old now before all most = record {
    few = omega (arith, before.few);
    each = λ i d less. before.done i d (omega arith);
    whole = λ i d less. subst (λ (s : Option LaneRecord). bytes_left s (arrived_at (slice_index_or now i d).actor) ≡ []) (sym (before.lanes (slice_index_or feeds i None)))
        (whole_after (source_at feeds old i) (slice_index_or old i d) (slice_index_or now i d) (before.done i d (omega arith)));
    events = before.events;
    still = λ none i d less. before.still none i d (omega arith);
  }

  -- memory ran out at that place
  pub arrived_some : (feeds : List (Option ℕ)) (place made : ℕ) (old now new : List (Task K)) → ArrivedTo feeds place made old now → ArrivedOne place None 0 now new → SomeArrived feeds old new
  arrived_some feeds place made old now new before one i d less = by_place (cases_eq i place)
    where
      inside : place < length now
      inside = slice_get_within now place one.was one.there

      kept : IsGiven [] 0 (slice_index_or old place d) (slice_index_or new place d)
      kept =
          let new_at : slice_index_or new place d ≡ one.task = ap (λ (xs : List (Task K)). slice_index_or xs place d) one.becomes ∙ get_or-set_same now place one.task d inside in
          let was_at : one.was ≡ slice_index_or old place d = sym (get_or_from_slice_get now place one.was d one.there) ∙ before.rest place d (omega arith) in
          subst (λ (t : Task K). IsGiven [] 0 (slice_index_or old place d) t) (sym new_at) (subst (λ (x : Task K). IsGiven [] 0 x one.task) was_at one.fed)

      other : (i ≡ place → ⊥) → slice_index_or new i d ≡ slice_index_or now i d
      other ne = ap (λ (xs : List (Task K)). slice_index_or xs i d) one.becomes ∙ get_or-set_other now place i one.task d ne

      by_order : (i ≡ place → ⊥) → (i < place) ⊎ (place ≤ i) → IsFedOrNot (source_at feeds old i) (slice_index_or old i d) (slice_index_or new i d)
      by_order ne (inl lt) = record {
        from = source_at feeds old i;
        is = inl refl;
        fed = subst (λ (t : Task K). HasArrived (source_at feeds old i) (slice_index_or old i d) t) (sym (other ne)) (before.done i d lt);
      }
      by_order ne (inr ge) = record {
        from = None;
        is = inr refl;
        fed = subst (λ (t : Task K). HasArrived None (slice_index_or old i d) t) (sym (other ne ∙ before.rest i d ge)) (given_none (slice_index_or old i d));
      }

      by_place : (i ≡ place) ⊎ (i ≡ place → ⊥) → IsFedOrNot (source_at feeds old i) (slice_index_or old i d) (slice_index_or new i d)
      by_place (inl e) = record {
        from = None;
        is = inr refl;
        fed = subst (λ (k : ℕ). IsGiven [] 0 (slice_index_or old k d) (slice_index_or new k d)) (sym e) kept;
      }
      by_place (inr ne) = by_order ne (cases_lt i place)
