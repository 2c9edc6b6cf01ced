-- Spellings one after another: one more behind the first ones.
use Rattle.std.proofs.Common.{◌≡◌, ◌<◌, length, map, get_or, option_map, ℕ, zero, suc, ◌+◌, arith, List, [], ◌∷◌, ◌++◌, Some, None, refl, sym, ap, subst, ◌∙◌, take, flat_map, slice_get, append_assoc}
use Rattle.std.proofs.lemmas.List.{append-nil}
use Rattle.std.specs.List.{All}
use Rattle.std.proofs.lemmas.Option.{none-some, same_Some, slice_get-map}
use Rattle.ds_exporter.proofs.Places.{all_get}

more_taken : {X : Type 0} (f : X → List ℕ) (xs : List X) (n : ℕ) (x : X) → slice_get xs n ≡ Some x → flat_map f (take (suc n) xs) ≡ flat_map f (take n xs) ++ f x
more_taken f [] n x e = absurd (none-some x e)
more_taken f (y ∷ xs) zero x e = ap (λ z. f z ++ []) (same_Some y x e) ∙ append-nil (f x)
more_taken f (y ∷ xs) (suc n) x e = ap (λ more. f y ++ more) (more_taken f xs n x e) ∙ sym (append_assoc (f y) (flat_map f (take n xs)) (f x))

-- the output with one more
pub spelled_more : {X : Type 0} (f : X → List ℕ) (xs : List X) (n : ℕ) (x : X) (initial out new : List ℕ) → slice_get xs n ≡ Some x
    → out ≡ initial ++ flat_map f (take n xs) → new ≡ out ++ f x → new ≡ initial ++ flat_map f (take (n + 1) xs)
spelled_more f xs n x initial out new e o p =
    let next : suc n ≡ n + 1 = omega arith in
    p ∙ ap (λ front. front ++ f x) o ∙ append_assoc initial (flat_map f (take n xs)) (f x)
    ∙ ap (λ more. initial ++ more) (sym (more_taken f xs n x e)) ∙ ap (λ (k : ℕ). initial ++ flat_map f (take k xs)) next

-- an item of a list, by its place
found : {X : Type 0} (xs : List X) (i : ℕ) (x : X) → x ≡ get_or xs i x → i < length xs → slice_get xs i ≡ Some x
found [] i x e lt = absurd (omega arith)
found (y ∷ ys) zero x e lt = ap Some (sym e)
found (y ∷ ys) (suc i) x e lt = found ys i x e (omega arith)

-- what holds of each, as it is seen, holds of the item
pub item_has : {X Y : Type 0} (P : Y → Type 0) (f : X → Y) (xs : List X) (i : ℕ) (x : X) → All P (map f xs) → x ≡ get_or xs i x → i < length xs → P (f x)
item_has P f xs i x all e lt = all_get P (map f xs) i (f x) all (slice_get-map f xs i ∙ ap (option_map f) (found xs i x e lt))

-- three words, each with a number
pub three : (o0 o1 o2 o3 a b c d e f : List ℕ) → o1 ≡ o0 ++ (a ++ b) → o2 ≡ o1 ++ (c ++ d) → o3 ≡ o2 ++ (e ++ f) → o3 ≡ o0 ++ (a ++ (b ++ (c ++ (d ++ (e ++ f)))))
three o0 o1 o2 o3 a b c d e f p q r = rw (r, q, p) (simp append_assoc)
