-- What was made for each thing of a list, in threads.
use Rattle.std.proofs.Common.{◌≡◌, ℕ, suc, ◌<◌, List, [], ◌∷◌, length, map, Ok, true, refl, sym, ◌∙◌, ap, subst, arith}
use Rattle.std.specs.Prelude.{IfOk, Result, slice_index_or}
use Rattle.std.proofs.lemmas.List.{length-map}
use Rattle.ds_plan.specs.declared.host.HostSpec.{HostSpec}
use Rattle.ds_plan.specs.declared.host.LaneSpec.{LaneSpec}
use Rattle.ds_plan.specs.Documents.{is_silent}
use Rattle.ds_setup.specs.Lists.{each}
use Rattle.ds_boot.specs.AllKeys.{HasFewLanes, lane_tree, lane_trees}

module _ {X V Y E : Type 0} where
  -- for each place what is seen of the made thing
  seen_each : (view : V → Y) (f : ℕ → X → Y) (xs : List X) (all : List V) → length all ≡ length xs
      → ((i : ℕ) (d : Result V E) (x : X) → i < length xs → IfOk (slice_index_or (map Ok all) i d) (λ v. view v ≡ f i (slice_index_or xs i x)))
      → map view all ≡ each f xs
  seen_each view f [] [] same is = refl
  seen_each view f [] (v ∷ all) same is = absurd (omega (arith, same))
  seen_each view f (x ∷ xs) [] same is = absurd (omega (arith, same))
  seen_each view f (x ∷ xs) (v ∷ all) same is =
      let first : view v ≡ f 0 x = is 0 (Ok v) x (omega arith) in
      ap (λ (y : Y). y ∷ map view all) first
      ∙ ap (λ (ys : List Y). f 0 x ∷ ys) (seen_each view (λ i. f (suc i)) xs all (omega (arith, same)) (λ i d y lt. is (suc i) d y (omega (arith, lt))))

  pub made_each : (view : V → Y) (f : ℕ → X → Y) (xs : List X) (all : List V) (made : List (Result V E)) → map Ok all ≡ made → length made ≡ length xs
      → ((i : ℕ) (d : Result V E) (x : X) → i < length xs → IfOk (slice_index_or made i d) (λ v. view v ≡ f i (slice_index_or xs i x)))
      → map view all ≡ each f xs
  made_each view f xs all made gone count is =
      let size : length (map Ok all) ≡ length xs = ap (λ (ms : List (Result V E)). length ms) gone ∙ count in
      seen_each view f xs all (sym (length-map {B = Result V E} all Ok) ∙ size)
      (λ i d x lt. subst (λ (ms : List (Result V E)). IfOk (slice_index_or ms i d) (λ v. view v ≡ f i (slice_index_or xs i x))) (sym gone) (is i d x lt))

-- made whatever the place
pub each_is_map : {X Y : Type 0} (f : X → Y) (xs : List X) → each (λ i. f) xs ≡ map f xs
each_is_map f [] = refl
each_is_map {X} {Y} f (x ∷ xs) = ap (λ (ys : List Y). f x ∷ ys) (each_is_map f xs)

pub as_it_is : {X : Type 0} (xs : List X) → map (λ x. x) xs ≡ xs
as_it_is [] = refl
as_it_is {X} (x ∷ xs) = ap (λ (ys : List X). x ∷ ys) (as_it_is xs)

-- a silent host's lanes have no keys
pub lanes_silent : (h : HostSpec) → HasFewLanes h → is_silent h.secret ≡ true → lane_trees h ≡ []
lanes_silent h fits silent = ap (λ (ls : List LaneSpec). each (lane_tree h) ls) (fits.silent silent)
