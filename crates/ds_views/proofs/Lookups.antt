-- What stands at a place of a list that is seen through two functions.
use Rattle.std.proofs.Common.{◌≡◌, ℕ, List, Option, map, slice_get, option_map, ap, ◌∙◌}
use Rattle.std.proofs.lemmas.Option.{slice_get-map}

pub seen_at : {X Y Z : Type 0} (f : X → Y) (g : Y → Z) (xs : List X) (i : ℕ) (o : Option X) → slice_get xs i ≡ o → slice_get (map g (map f xs)) i ≡ option_map g (option_map f o)
seen_at f g xs i o e = slice_get-map g (map f xs) i ∙ ap (option_map g) (slice_get-map f xs i ∙ ap (option_map f) e)
