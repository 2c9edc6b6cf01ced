-- The items of a list, seen as the code sees them.
use Rattle.std.proofs.Common.{◌≡◌, List, [], ◌∷◌, map, length, refl, ap, suc}
use Rattle.serde_json.specs.declared.value.Value.{Value}
use Rattle.serde_json.specs.View.{view, items_view}
use Rattle.ds_doc.specs.Shapes.{listed}

pub listed_view : (vs : List Value) → listed (items_view vs) ≡ map view vs
listed_view [] = refl
listed_view (v ∷ vs) = ap (λ ds. view v ∷ ds) (listed_view vs)

pub listed_length : (vs : List Value) → length (listed (items_view vs)) ≡ length vs
listed_length [] = refl
listed_length (v ∷ vs) = ap suc (listed_length vs)
