-- How often a thing is counted in lists together, whatever their order.
use Rattle.std.proofs.Common.{◌≡◌, ◌∙◌, refl, sym, ap, ap₂, arith, length-append}
use Rattle.std.specs.Prelude.{ℕ, ◌+◌, List, [], ◌∷◌, ◌++◌, length, filter, flat_map, nat_lt, Bool, true, false, if◌then◌else◌}
use Rattle.std.proofs.lemmas.List.Elements.{filter-append}
use Rattle.ds_exporter.specs.Merging.{Stamped, woven, merged}
use Rattle.ds_summary.specs.declared.counted.Counted.{Counted}
use Rattle.ds_summary.specs.Counts.{count, same}
use Rattle.ds_summary.specs.Parts.{SameCounts}

pub count_both : (xs ys : List Counted) (one : Counted) → count (xs ++ ys) one ≡ count xs one + count ys one
count_both xs ys one = ap length (filter-append (λ x. same x one) xs ys) ∙ length-append (filter (λ x. same x one) xs) (filter (λ x. same x one) ys)

pub same_equal : (xs ys : List Counted) → xs ≡ ys → SameCounts xs ys
same_equal xs ys e one = ap (λ zs. count zs one) e

pub same_then : (xs ys zs : List Counted) → SameCounts xs ys → SameCounts ys zs → SameCounts xs zs
same_then xs ys zs first second one = first one ∙ second one

pub same_both : (xs ys us vs : List Counted) → SameCounts xs us → SameCounts ys vs → SameCounts (xs ++ ys) (us ++ vs)
same_both xs ys us vs first second one = count_both xs ys one ∙ ap₂ (λ a b. a + b) (first one) (second one) ∙ sym (count_both us vs one)

pub same_flat : {X : Type 0} (f g : X → List Counted) → ((x : X) → SameCounts (f x) (g x)) → (xs : List X) → SameCounts (flat_map f xs) (flat_map g xs)
same_flat f g is [] = λ one. refl
same_flat f g is (x ∷ xs) = same_both (f x) (flat_map f xs) (g x) (flat_map g xs) (is x) (same_flat f g is xs)

pub equal_flat : {X : Type 0} (f g : X → List Counted) → ((x : X) → f x ≡ g x) → (xs : List X) → flat_map f xs ≡ flat_map g xs
equal_flat f g is [] = refl
equal_flat f g is (x ∷ xs) = ap₂ (λ a b. a ++ b) (is x) (equal_flat f g is xs)

-- two lists that are merged by stamps: a sum over them is the sum over both
module _ (all : List Stamped → ℕ) (each : Stamped → ℕ) (none : all [] ≡ 0) (more : (x : Stamped) (xs : List Stamped) → all (x ∷ xs) ≡ each x + all xs) where
  by_test : (b : Bool) (xs ys : List Stamped) (n : ℕ) → all xs ≡ n → all ys ≡ n → all (if b then xs else ys) ≡ n
  by_test true xs ys n first second = first
  by_test false xs ys n first second = second

  woven_adds : (x : Stamped) (rest : List Stamped → List Stamped) (n : ℕ) → ((zs : List Stamped) → all (rest zs) ≡ n + all zs) → (ys : List Stamped)
      → all (woven x rest ys) ≡ each x + (n + all ys)
  woven_adds x rest n is [] = more x (rest []) ∙ ap (λ k. each x + k) (is [])
  woven_adds x rest n is (y ∷ ys) =
      let first : all (y ∷ woven x rest ys) ≡ each y + all (woven x rest ys) = more y (woven x rest ys) in
      let before : all (woven x rest ys) ≡ each x + (n + all ys) = woven_adds x rest n is ys in
      let second : all (x ∷ rest (y ∷ ys)) ≡ each x + all (rest (y ∷ ys)) = more x (rest (y ∷ ys)) in
      let later : all (rest (y ∷ ys)) ≡ n + all (y ∷ ys) = is (y ∷ ys) in
      let whole : all (y ∷ ys) ≡ each y + all ys = more y ys in
      by_test (nat_lt y.stamp x.stamp) (y ∷ woven x rest ys) (x ∷ rest (y ∷ ys)) (each x + (n + all (y ∷ ys)))
      (omega (arith, first, before, whole)) (omega (arith, second, later))

  pub merged_adds : (xs ys : List Stamped) → all (merged xs ys) ≡ all xs + all ys
  merged_adds [] ys = omega (arith, none)
  merged_adds (x ∷ xs) ys =
      let front : all (woven x (merged xs) ys) ≡ each x + (all xs + all ys) = woven_adds x (merged xs) (all xs) (merged_adds xs) ys in
      let whole : all (x ∷ xs) ≡ each x + all xs = more x xs in
      omega (arith, front, whole)
