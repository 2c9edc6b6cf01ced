-- The first item of a list, looked at.
use Rattle.std.proofs.Common.{◌≡◌, List, [], ◌∷◌, Option, Some, None, Bor, refl, sym}
use Rattle.std.specs.Prelude.{slice_get, option_copied, MatchOption}

pub front_seen : {X : Type 0} (o : Option (Bor X)) (xs : List X) → option_copied o ≡ slice_get xs 0 → MatchOption o (xs ≡ []) (λ x. slice_get xs 0 ≡ Some x.now)
front_seen None [] e = refl
front_seen None (x ∷ xs) e = absurd cc
front_seen (Some y) xs e = sym e
