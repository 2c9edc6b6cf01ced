-- Why no leaf is released twice: the released ones are below the mark, and below the next leaf of a signer that is alive.
use Rattle.std.proofs.Common.{◌≡◌, ◌≢◌, ◌⊎◌, inl, inr, ℕ, ◌+◌, ◌<◌, ◌≤◌, max, List, ◌∷◌, Option, IfSome, All, arith}
use Rattle.std.proofs.lemmas.List.Elements.{All-cons, All-nil}
use Rattle.std.proofs.lemmas.List.Kept.{AllPairs-cons}
use Rattle.lms_sig.specs.Keys.{Key}
use Rattle.lms_state.specs.Signers.{leaves_of}
use Rattle.lms_state.specs.Once.{Trace, begins, resumes, signs, fails, stops, others, Once}

pub record Spends (key : Key) (marks : List ℕ → ℕ) (signer : Option ℕ) (released : List ℕ) : Type 0 where
  pub once : Once released
  pub marked : All (λ leaf. leaf < marks key.id) released
  pub stands : All (λ leaf. leaf < leaves_of key) released
  pub behind : IfSome signer (λ next. All (λ leaf. leaf < next) released)

-- leaves below a number are below a greater one
below_more : (a b : ℕ) (released : List ℕ) → a ≤ b → All (λ leaf. leaf < a) released → All (λ leaf. leaf < b) released
below_more a b released le below = λ k d lt. omega (arith, le, below k d lt)

-- a leaf that is above all earlier ones is none of them
above_all : (leaf : ℕ) (released : List ℕ) → All (λ other. other < leaf) released → All (λ other. leaf ≢ other) released
above_all leaf released below = λ k d lt same. omega (arith, same, below k d lt)

-- a raise that failed lowers no mark
may_grow : (old new to : ℕ) → (new ≡ old) ⊎ (new ≡ max old to) → old ≤ new
may_grow old new to (inl same) = omega (arith, same)
may_grow old new to (inr more) = omega (arith, more)

pub spends : {key : Key} {marks : List ℕ → ℕ} {signer : Option ℕ} {released : List ℕ} → Trace key marks signer released → Spends key marks signer released
spends {key} (begins marks) = record {
  once = λ i j d less end. absurd (omega (arith, end));
  marked = All-nil (λ leaf. leaf < marks key.id);
  stands = All-nil (λ leaf. leaf < leaves_of key);
  behind = tt;
}
spends (resumes leaf before is) = let s = spends before in record {
  once = s.once;
  marked = s.marked;
  stands = s.stands;
  behind = λ k d lt. omega (arith, is, s.marked k d lt, s.stands k d lt);
}
spends {key} {released = leaf ∷ released} (signs {marks} after before stands raised) = let s = spends before in record {
  once = AllPairs-cons (λ leaf earlier. leaf ≢ earlier) leaf released (above_all leaf released s.behind) s.once;
  marked = All-cons (λ leaf. leaf < after key.id) leaf released (omega (arith, raised.0)) (below_more (marks key.id) (after key.id) released (omega (arith, raised.0)) s.marked);
  stands = All-cons (λ leaf. leaf < leaves_of key) leaf released stands s.stands;
  behind = All-cons (λ other. other < leaf + 1) leaf released (omega arith) (below_more leaf (leaf + 1) released (omega arith) s.behind);
}
spends {key} {released} (fails {marks} {leaf} after before raised) = let s = spends before in record {
  once = s.once;
  marked = below_more (marks key.id) (after key.id) released (may_grow (marks key.id) (after key.id) (leaf + 1) raised.0) s.marked;
  stands = s.stands;
  behind = s.behind;
}
spends {key} {released} (stops {marks} {leaf} after before raised) = let s = spends before in record {
  once = s.once;
  marked = below_more (marks key.id) (after key.id) released (may_grow (marks key.id) (after key.id) (leaf + 1) raised.0) s.marked;
  stands = s.stands;
  behind = tt;
}
spends {key} {released} (others {marks} after before grows) = let s = spends before in record {
  once = s.once;
  marked = below_more (marks key.id) (after key.id) released (grows key.id) s.marked;
  stands = s.stands;
  behind = s.behind;
}
