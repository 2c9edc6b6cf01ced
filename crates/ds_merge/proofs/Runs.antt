-- A list of events whose parts are runs is a run.
use Rattle.std.proofs.Common.{◌≡◌, ℕ, zero, suc, ◌<◌, ◌≤◌, ◌+◌, List, [], ◌∷◌, ◌++◌, append-nil, length, take, Bool, true, false, cond, Option, Some, None, refl, sym, ap, ◌∙◌, arith}
use Rattle.std.specs.Prelude.{slice_get, find, MatchOption}
use Rattle.std.specs.Option.{option_or}
use Rattle.std.proofs.lemmas.List.{take_all, take_more, append_assoc}
use Rattle.std.proofs.lemmas.Option.{get_or_from_slice_get, slice_get_within}
use Rattle.ds_script.specs.Replay.{onward, replay}
use Rattle.ds_script.proofs.Replays.{replay-append}
use Rattle.ds_merge.specs.declared.kept.ObjectName.{ObjectName}
use Rattle.ds_merge.specs.declared.kept.Kept.{Kept}
use Rattle.ds_merge.specs.declared.recorded.Recorded.{Recorded}
use Rattle.ds_merge.specs.declared.records.History.{History}
use Rattle.ds_merge.specs.Standing.{Standing, standing, same_name, touched_it, next_in, next_of}
use Rattle.ds_merge.specs.Walk.{no_event, event, first_left, run, Meets, Matches, GoesPast}
use Rattle.ds_merge.specs.Parts.{entry_of, entries_of, AllAgree}
use Rattle.ds_merge.proofs.Derived.{same_name_is}
use Rattle.ds_merge.proofs.Standings.{stands_after}

entries-push : (name : ObjectName) (es : List Recorded) (e : Recorded) → entries_of name (es ++ e ∷ []) ≡ entries_of name es ++ entry_of name e.touched
entries-push name [] e = append-nil (entry_of name e.touched)
entries-push name (x ∷ es) e = ap (λ xs. entry_of name x.touched ++ xs) (entries-push name es e) ∙ sym (append_assoc (entry_of name x.touched) (entries_of name es) (entry_of name e.touched))

next_is : (hs : List History) (s : Standing) (name : ObjectName) (h : History) → find (λ x. same_name x.object name) hs ≡ Some h → next_of hs s name ≡ next_in s h
next_is hs s name h found = ap (λ o. onward o (next_in s)) found

one_taken : (items : List Kept) (n : ℕ) (x : Kept) → slice_get items n ≡ Some x → take n items ++ x ∷ [] ≡ take (n + 1) items
one_taken items n x is =
    sym (take_more items n x (slice_get_within items n x is) ∙ ap (λ k. take n items ++ k ∷ []) (get_or_from_slice_get items n x x is))

step : (hs : List History) (h : History) (s : Standing) (e : Recorded) (t : Option Kept) → find (λ x. same_name x.object h.object) hs ≡ Some h → MatchOption t (Unit {0}) (Meets hs s e)
    → take (s.taken h.object) h.entries.items ++ entry_of h.object t ≡ take (cond (touched_it h.object t) (s.taken h.object + 1) (s.taken h.object)) h.entries.items
step hs h s e None found meets = append-nil (take (s.taken h.object) h.entries.items)
step hs h s e (Some x) found meets = by (same_name x.object h.object) refl
  where
    by : (b : Bool) → same_name x.object h.object ≡ b
        → take (s.taken h.object) h.entries.items ++ cond b (x ∷ []) [] ≡ take (cond b (s.taken h.object + 1) (s.taken h.object)) h.entries.items
    by false same = append-nil (take (s.taken h.object) h.entries.items)
    by true same =
        let name : x.object ≡ h.object = same_name_is x.object h.object same in
        let next : next_in s h ≡ Some x = sym (next_is hs s h.object h found) ∙ ap (next_of hs s) (sym name) ∙ meets.next in
        one_taken h.entries.items (s.taken h.object) x next

both_none : (o p : Option Kept) → option_or o p ≡ None → (o ≡ None) × (p ≡ None)
both_none None p e = (refl, e)
both_none (Some x) p e = cc

left_none : (hs : List History) (s : Standing) (name : ObjectName) (h : History) → find (λ x. same_name x.object name) hs ≡ Some h → first_left hs s ≡ None → next_in s h ≡ None
left_none [] s name h found none = cc
left_none (x ∷ hs) s name h found none = by (same_name x.object name) found (left_none hs s name h)
  where
    both : (next_in s x ≡ None) × (first_left hs s ≡ None)
    both = both_none (next_in s x) (first_left hs s) none

    here : Some x ≡ Some h → next_in s h ≡ None
    here e = sym (ap (λ o. onward o (next_in s)) e) ∙ both.0

    by : (b : Bool) → cond b (Some x) (find (λ y. same_name y.object name) hs) ≡ Some h
        → (find (λ y. same_name y.object name) hs ≡ Some h → first_left hs s ≡ None → next_in s h ≡ None) → next_in s h ≡ None
    by true e rec = here e
    by false e rec = rec e both.1

whole : (items : List Kept) (n : ℕ) → slice_get items n ≡ None → take n items ≡ items
whole [] zero none = refl
whole [] (suc n) none = refl
whole (x ∷ items) zero none = cc
whole (x ∷ items) (suc n) none = ap (λ xs. x ∷ xs) (whole items n none)

module _ {M : Type 0} (after : M → Recorded → M) (shifts : M → Recorded → Bool) (enters : M → Recorded → Option Kept) (gives : M → Recorded → List ℕ) where
  -- the entries that the first events recorded of an object are the first ones of its history
  so_far : (w : M) (hs : List History) (es : List Recorded) (h : History) → GoesPast after shifts enters gives w hs es (length es) → find (λ x. same_name x.object h.object) hs ≡ Some h
      → (k : ℕ) → k ≤ length es → entries_of h.object (take k es) ≡ take ((standing (take k es)).taken h.object) h.entries.items
  so_far w hs es h goes found zero most = refl
  so_far w hs es h goes found (suc k) most =
      let under : k < length es = omega (arith, most) in
      let one : suc k ≡ k + 1 = omega arith in
      let more : take (suc k) es ≡ take k es ++ event es k ∷ [] = ap (λ n. take n es) one ∙ take_more es k no_event under in
      ap (entries_of h.object) more
      ∙ entries-push h.object (take k es) (event es k)
      ∙ ap (λ xs. xs ++ entry_of h.object (event es k).touched) (so_far w hs es h goes found k (omega (arith, most)))
      ∙ step hs h (standing (take k es)) (event es k) (event es k).touched found ((goes.each k under).fits.meets)
      ∙ ap (λ (s : Standing). take (s.taken h.object) h.entries.items) (sym (ap standing more ∙ stands_after (take k es) (event es k)))

  pub history_is : (w : M) (hs : List History) (es : List Recorded) (h : History) → Matches after shifts enters gives w hs es → find (λ x. same_name x.object h.object) hs ≡ Some h
      → entries_of h.object es ≡ h.entries.items
  history_is w hs es h match found =
      let all : take (length es) es ≡ es = take_all (length es) es (omega arith) in
      sym (ap (entries_of h.object) all) ∙ so_far w hs es h match.goes found (length es) (omega arith)
      ∙ ap (λ xs. take ((standing xs).taken h.object) h.entries.items) all
      ∙ whole h.entries.items ((standing es).taken h.object) (left_none hs (standing es) h.object h found match.none_left)

  module _ {S : Type 0} (of : ObjectName → M → S) (act : S → Kept → Option S) where
    pub entries_replay : (w : M) (es : List Recorded) (name : ObjectName) → AllAgree after of act w es
        → replay act (of name w) (entries_of name es) ≡ Some (of name (run after shifts enters gives w es))
    entries_replay w [] name agree = refl
    entries_replay w (e ∷ es) name agree =
        replay-append act (of name w) (entry_of name e.touched) (entries_of name es)
        ∙ ap (λ o. onward o (λ t. replay act t (entries_of name es))) (agree.0.parts name)
        ∙ entries_replay (after w e) es name agree.1

    pub histories_replay : (w : M) (hs : List History) (es : List Recorded) (h : History) → Matches after shifts enters gives w hs es → find (λ x. same_name x.object h.object) hs ≡ Some h
        → AllAgree after of act w es → replay act (of h.object w) h.entries.items ≡ Some (of h.object (run after shifts enters gives w es))
    histories_replay w hs es h match found agree =
        ap (replay act (of h.object w)) (sym (history_is w hs es h match found)) ∙ entries_replay w es h.object agree
