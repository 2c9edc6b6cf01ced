-- What a cache of answers has after each call.
use Rattle.std.proofs.Common.{◌≡◌, ℕ, ◌⊎◌, Bool, true, false, List, Contains, refl, sym, subst, inl, inr, eqb-true}
use Rattle.std.specs.Prelude.{Option, Some, Result, Ok, Err, OnOk, OnErr, bytes_eq}
use mathlib.Core.Bool.{beq}
use Rattle.std.specs.Cmp.{first_so, second_so}
use Rattle.std.specs.Map.{lookup}
use Rattle.std.proofs.lemmas.Bool.{false≢true}
use Rattle.std.proofs.lemmas.Slice.Eq.{bytes_eq-Decides}
use Rattle.lru.specs.LruCache.{LruCache, lru_cache, put_entries}
use Rattle.lru.proofs.CallerLemmas.{Contains-lookup, Contains-put_entries}
use Rattle.ds_chain.specs.declared.question.Question.{Question}
use Rattle.ds_chain.specs.contracts.question.QuestionPartialEq.TheImpl as equal

same_bool : (a b : Bool) → beq a b ≡ true → a ≡ b
same_bool true true e = refl
same_bool true false e = absurd (false≢true e)
same_bool false true e = absurd (false≢true e)
same_bool false false e = refl

-- only equal questions are told to be
pub exact : (x y : Question) → (equal.ghosts).eq x y ≡ true → x ≡ y
exact x y e =
    let creator : x.creator ≡ y.creator = (bytes_eq-Decides x.creator y.creator).0 (first_so _ _ e) in
    let rest = second_so (bytes_eq x.creator y.creator) _ e in
    let secret : x.secret ≡ y.secret = same_bool x.secret y.secret (first_so _ _ rest) in
    let rest2 = second_so (beq x.secret y.secret) _ rest in
    let number : x.number ≡ y.number = eqb-true x.number y.number (first_so _ _ rest2) in
    let key : x.key ≡ y.key = (bytes_eq-Decides x.key y.key).0 (second_so _ _ rest2) in
    λ i. record { creator = creator i; secret = secret i; number = number i; key = key i }

abbrev Entries : Type 0
Entries = List (Question × Option (List ℕ))

-- what was put, or nothing where the call failed
pub put_more : {E : Type 0} (old new : LruCache Question (Option (List ℕ))) (q : Question) (a : Option (List ℕ)) (result : Result (Option (Option (List ℕ))) E)
    → OnOk result (new ≡ lru_cache (put_entries (equal.ghosts).eq old q a) old.cap) → OnErr result (new ≡ old)
    → (entry : Question × Option (List ℕ)) → Contains new.entries entry → Contains old.entries entry ⊎ (entry ≡ (q, a))
put_more old new q a (Err e) ok err entry there = inl (subst (λ (c : LruCache Question (Option (List ℕ))). Contains c.entries entry) err there)
put_more old new q a (Ok before) ok err entry there =
    go (Contains-put_entries (equal.ghosts).eq old q a entry (subst (λ (c : LruCache Question (Option (List ℕ))). Contains c.entries entry) ok there))
  where
    same : (k : Question) (v : Option (List ℕ)) → v ≡ a → k ≡ q → ◌≡◌ {A = Question × Option (List ℕ)} (k, v) (q, a)
    same k v f g = λ i. (g i, f i)

    go : Contains old.entries entry ⊎ ((entry.1 ≡ a) × ((entry.0 ≡ q) ⊎ ((w : Option (List ℕ)) × Contains old.entries (entry.0, w) × ((equal.ghosts).eq q entry.0 ≡ true))))
        → Contains old.entries entry ⊎ (entry ≡ (q, a))
    go (inl before) = inl before
    go (inr (f, inl g)) = inr (same entry.0 entry.1 f g)
    go (inr (f, inr (w, was, g))) = inr (same entry.0 entry.1 f (sym (exact q entry.0 g)))

-- what a look-up finds is an entry
pub found_entry : (es : List (Question × Option (List ℕ))) (q : Question) (a : Option (List ℕ)) → lookup ((equal.ghosts).eq q) es ≡ Some a → Contains es (q, a)
found_entry es q a e =
    let (k, there, same) = Contains-lookup ((equal.ghosts).eq q) es a e in
    subst (λ (x : Question). Contains es (x, a)) (sym (exact q k same)) there
