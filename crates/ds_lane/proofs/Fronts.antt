-- A list in two parts.
use Rattle.std.proofs.Common.{◌≡◌, ℕ, List, [], ◌∷◌, ◌++◌, length, take, drop, sym, ◌∙◌}
use Rattle.std.proofs.Math.Seq.{take-append_seam, drop-append_seam}
use Rattle.std.proofs.lemmas.List.{append_assoc}

pub front_moved : {X : Type 0} (n : ℕ) (front rest whole : List X) → front ++ rest ≡ whole → length front ≡ n → front ≡ take n whole
front_moved n front rest whole is size = rw (← is, ← size) (sym (take-append_seam front rest))

pub rest_left : {X : Type 0} (n : ℕ) (front rest whole : List X) → front ++ rest ≡ whole → length front ≡ n → rest ≡ drop n whole
rest_left n front rest whole is size = rw (← is, ← size) (sym (drop-append_seam front rest))

pub one_moved : {X : Type 0} (x : X) (front rest left whole : List X) → front ++ left ≡ whole → left ≡ x ∷ rest → (front ++ x ∷ []) ++ rest ≡ whole
one_moved x front rest left whole is next = append_assoc front (x ∷ []) rest ∙ rw (← next) is
