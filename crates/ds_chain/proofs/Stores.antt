-- Lists that a type keeps, with one more item.
use Rattle.std.proofs.Common.{◌≡◌, ◌≢◌, ℕ, ◌<◌, Bool, true, false, List, [], ◌∷◌, ◌++◌, length, get_or, sym, ◌∙◌, arith, length-append}
use Rattle.std.specs.Prelude.{map}
use Rattle.std.specs.List.{list_any}
use Rattle.std.proofs.lemmas.Bool.{false≢true}
use Rattle.std.proofs.lemmas.List.{map-append}
use Rattle.std.proofs.lemmas.List.Elements.{All-push}
use Rattle.std.proofs.lemmas.List.Folds.{list_any_at}
use Rattle.std.proofs.lemmas.List.Quantifiers.{all_pairs_push}
use Rattle.ds_chain.specs.Stored.{IsStore}

-- one more item that isn't there
pub IsStore-push : {A : Type 0} (same : A → A → Bool) (itself : (a : A) → same a a ≡ true) (limit : ℕ) (Range : A → Type 0) (items : List A) (new : A)
    → IsStore limit Range items → length items < limit → list_any (same new) items ≡ false → Range new → IsStore limit Range (items ++ new ∷ [])
IsStore-push same itself limit Range items new store few absent range = record {
  few = omega (arith, length-append items (new ∷ []));
  ranges = All-push Range items new store.ranges range;
  once = all_pairs_push (λ a b. a ≢ b) items new store.once (λ k d below e.
      let found : same new (get_or items k d) ≡ true = rw e (itself new) in
      false≢true (sym absent ∙ list_any_at (same new) items k d below found));
}

-- what is known of each item, of one more too
pub known_push : {A : Type 0} (test : A → Bool) (items : List A) (new : A) (known : List Bool) (last : Bool) → known ≡ map test items → last ≡ test new
    → known ++ last ∷ [] ≡ map test (items ++ new ∷ [])
known_push test items new known last e f = rw (e, f) (sym (map-append test items (new ∷ [])))
