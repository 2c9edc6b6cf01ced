-- The walk after one event more, where it stops, and what that says.
use Rattle.std.proofs.Common.{◌≡◌, ◌⊎◌, inl, inr, ℕ, zero, suc, ◌<◌, ◌≤◌, ◌+◌, List, [], ◌∷◌, ◌++◌, length, take, Option, Some, None, Bool, true, false, cond, refl, sym, ap, ◌∙◌, subst, arith, slice_index_or, filter}
use Rattle.std.specs.Prelude.{unwrap_or}
use Rattle.std.proofs.Math.ListN.{length-take}
use Rattle.std.proofs.lemmas.List.{take_more}
use Rattle.ds_merge.specs.declared.kept.ObjectName.{ObjectName}
use Rattle.ds_merge.specs.declared.kept.Kept.{Kept}
use Rattle.ds_merge.specs.declared.recorded.Recorded.{Recorded}
use Rattle.ds_merge.specs.declared.records.History.{History}
use Rattle.ds_merge.specs.declared.records.ActorRecord.{ActorRecord}
use Rattle.ds_merge.specs.declared.order.EventPlace.{EventPlace}
use Rattle.ds_merge.specs.declared.merging.MergeFault.{MergeFault}
use Rattle.ds_merge.specs.declared.merging.MergeFault.TheVariants.{Strange, NoMemory}
use Rattle.ds_merge.specs.Standing.{Standing, standing, on_object, touched_it}
use Rattle.ds_merge.specs.Walk.{no_event, no_entry, event, waiting, first_left, run, Passes, PassesAt, GoesPast, Matches, StopsAt, Faults, IsPair}
use Rattle.ds_merge.specs.Tables.{one_more, event_of, events_of}
use Rattle.ds_merge.proofs.Standings.{stands_after}

-- the event at a place of a mapped list
pub event_is : (records : List ActorRecord) (places : List EventPlace) (k : ℕ) (d : EventPlace) → k < length places → event (events_of records places) k ≡ event_of records (slice_index_or places k d)
event_is records [] k d below = absurd (omega (arith, below))
event_is records (p ∷ ps) zero d below = refl
event_is records (p ∷ ps) (suc k) d below = event_is records ps k d (omega (arith, below))

pub count_is : (records : List ActorRecord) (places : List EventPlace) → length (events_of records places) ≡ length places
count_is records [] = refl
count_is records (p ∷ ps) = ap suc (count_is records ps)

length_filtered : {X : Type 0} (p : X → Bool) (xs : List X) → length (filter p xs) ≤ length xs
length_filtered p [] = omega arith
length_filtered p (x ∷ xs) = by (p x) (length_filtered p xs)
  where
    by : (b : Bool) → length (filter p xs) ≤ length xs → length (cond b (x ∷ filter p xs) (filter p xs)) ≤ length (x ∷ xs)
    by true h = omega (arith, h)
    by false h = omega (arith, h)

-- no more entries are taken than there are events before
pub taken_small : (es : List Recorded) (k : ℕ) (s : Standing) (name : ObjectName) → s ≡ standing (take k es) → s.taken name ≤ k
taken_small es k s name is =
    let most : length (take k es) ≤ k = omega (arith, length-take k es) in
    let few : length (on_object name (take k es)) ≤ length (take k es) = length_filtered (λ e. touched_it name e.touched) (take k es) in
    let same : s.taken name ≡ length (on_object name (take k es)) = ap (λ x. x.taken name) is in
    omega (arith, most, few, same)

module _ {M : Type 0} (after : M → Recorded → M) (shifts : M → Recorded → Bool) (enters : M → Recorded → Option Kept) (gives : M → Recorded → List ℕ) where
  run-push : (w : M) (es : List Recorded) (e : Recorded) → run after shifts enters gives w (es ++ e ∷ []) ≡ after (run after shifts enters gives w es) e
  run-push w [] e = refl
  run-push w (x ∷ es) e = run-push (after w x) es e

  pub goes_none : (w : M) (hs : List History) (es : List Recorded) → GoesPast after shifts enters gives w hs es 0
  goes_none w hs es = record { each = λ k below. absurd (omega (arith, below)) }

  -- one event more
  pub run_more : (w u v : M) (es : List Recorded) (k : ℕ) (e : Recorded) → k < length es → event es k ≡ e → u ≡ run after shifts enters gives w (take k es) → v ≡ after u e
      → v ≡ run after shifts enters gives w (take (k + 1) es)
  run_more w u v es k e below is at comes =
      comes ∙ (λ i. after (at i) (sym is i)) ∙ sym (run-push w (take k es) (event es k)) ∙ ap (run after shifts enters gives w) (sym (take_more es k no_event below))

  pub stands_more : (es : List Recorded) (k : ℕ) (e : Recorded) (s t : Standing) → k < length es → event es k ≡ e → s ≡ standing (take k es) → t ≡ one_more e s → t ≡ standing (take (k + 1) es)
  stands_more es k e s t below is at comes =
      comes ∙ (λ i. one_more (sym is i) (at i)) ∙ sym (stands_after (take k es) (event es k)) ∙ ap standing (sym (take_more es k no_event below))

  passes_at : (w u : M) (hs : List History) (es : List Recorded) (k : ℕ) (e : Recorded) (s : Standing) → event es k ≡ e → u ≡ run after shifts enters gives w (take k es) → s ≡ standing (take k es)
      → Passes after shifts enters gives u hs s e ≡ PassesAt after shifts enters gives w hs es k
  passes_at w u hs es k e s is at stands = λ i. Passes after shifts enters gives (at i) hs (stands i) (sym is i)

  pub goes_more : (w u : M) (hs : List History) (es : List Recorded) (k : ℕ) (e : Recorded) (s : Standing) → event es k ≡ e → u ≡ run after shifts enters gives w (take k es) → s ≡ standing (take k es)
      → GoesPast after shifts enters gives w hs es k → Passes after shifts enters gives u hs s e → GoesPast after shifts enters gives w hs es (k + 1)
  goes_more w u hs es k e s is at stands goes passes = record { each = λ j below. by j (cases j below) }
    where
      cases : (j : ℕ) → j < k + 1 → (j < k) ⊎ (j ≡ k)
      cases j below = grind (arith, below)

      here : PassesAt after shifts enters gives w hs es k
      here = subst (λ T. T) (passes_at w u hs es k e s is at stands) passes

      by : (j : ℕ) → (j < k) ⊎ (j ≡ k) → PassesAt after shifts enters gives w hs es j
      by j (inl below) = goes.each j below
      by j (inr same) = subst (λ n. PassesAt after shifts enters gives w hs es n) (sym same) here

  pub stops : (w u : M) (hs : List History) (es : List Recorded) (k : ℕ) (e : Recorded) (s : Standing) → k < length es → event es k ≡ e → u ≡ run after shifts enters gives w (take k es) → s ≡ standing (take k es)
      → GoesPast after shifts enters gives w hs es k → ¬ Passes after shifts enters gives u hs s e → StopsAt after shifts enters gives w hs es k
  stops w u hs es k e s below is at stands goes stuck =
      record { inside = below; goes = goes; stuck = λ passes. stuck (subst (λ T. T) (sym (passes_at w u hs es k e s is at stands)) passes) }

  -- ---- the pairs

  pub strange_here : (w : M) (hs : List History) (es : List Recorded) (k : ℕ) (s : Standing) (e : Recorded) (f : MergeFault) → StopsAt after shifts enters gives w hs es k → s ≡ standing (take k es) → event es k ≡ e
      → IsPair (unwrap_or (waiting hs s e) no_entry) e f → Faults after shifts enters gives w hs es f
  strange_here w hs es k s e (Strange y x) stop stands is pair =
      inl (k, record { stops = stop; kept = pair.0 ∙ (λ i. unwrap_or (waiting hs (stands i) (sym is i)) no_entry); recorded = pair.1 ∙ sym is })
  strange_here w hs es k s e NoMemory stop stands is pair = tt

  pub strange_past : (w : M) (hs : List History) (es : List Recorded) (s : Standing) (x : Kept) (f : MergeFault) → GoesPast after shifts enters gives w hs es (length es) → s ≡ standing es → first_left hs s ≡ Some x
      → IsPair x no_event f → Faults after shifts enters gives w hs es f
  strange_past w hs es s x (Strange y e) goes stands left pair =
      inr (record { goes = goes; kept = ap (first_left hs) (sym stands) ∙ left ∙ ap Some (sym pair.0); recorded = pair.1 })
  strange_past w hs es s x NoMemory goes stands left pair = tt

  pub matches_when : (w : M) (hs : List History) (es : List Recorded) (s : Standing) → GoesPast after shifts enters gives w hs es (length es) → s ≡ standing es → first_left hs s ≡ None → Matches after shifts enters gives w hs es
  matches_when w hs es s goes stands left = record { goes = goes; none_left = ap (first_left hs) (sym stands) ∙ left }

  some_is_not_none : {X : Type 0} (o : Option X) (x : X) → o ≡ None → o ≡ Some x → ⊥
  some_is_not_none o x p q = cc

  -- a walk that stops doesn't match
  pub no_match : (w : M) (hs : List History) (es : List Recorded) (f : MergeFault) → Faults after shifts enters gives w hs es f → Matches after shifts enters gives w hs es → f ≡ NoMemory
  no_match w hs es (Strange y e) (inl (k, strange)) match = absurd (strange.stops.stuck (match.goes.each k strange.stops.inside))
  no_match w hs es (Strange y e) (inr strange) match = absurd (some_is_not_none (first_left hs (standing es)) y match.none_left strange.kept)
  no_match w hs es NoMemory fault match = refl
