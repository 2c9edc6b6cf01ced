-- Lists that are spelled item by item.
use Rattle.std.proofs.Common.{◌≡◌, ℕ, ◌+◌, List, [], ◌∷◌, ◌++◌, Some, take, ap, ◌∙◌}
use Rattle.std.specs.Prelude.{slice_get}
use Rattle.std.specs.List.{flat_map}
use Rattle.std.proofs.lemmas.List.{append-nil}
use Rattle.std.proofs.lemmas.Grind.{flat_map-append}
use Rattle.ds_queue.proofs.Copies.{one_copied}

pub one_spelled : {X : Type 0} (spelling : X → List ℕ) (xs : List X) (i : ℕ) (x : X) → slice_get xs i ≡ Some x → flat_map spelling (take (i + 1) xs) ≡ flat_map spelling (take i xs) ++ spelling x
one_spelled spelling xs i x e =
    ap (flat_map spelling) (one_copied xs i x e) ∙ (flat_map-append spelling (take i xs) (x ∷ []) ∙ ap (λ (ys : List ℕ). flat_map spelling (take i xs) ++ ys) (append-nil (spelling x)))
