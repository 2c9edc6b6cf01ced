-- Numbers digit by digit.
use Rattle.std.proofs.Common.{◌≡◌, ℕ, ◌+◌, ◌*◌, ◌-◌, ◌<◌, List, [], ◌∷◌, None, nat_le, arith}
use Rattle.std.proofs.lemmas.Bool.Decides.{nat_tests}
use Rattle.ds_doc.specs.Texts.{value_from, only_if}

-- a number that is too great stays so, whatever digits follow
pub stays_beyond : (digits : List ℕ) (value most : ℕ) → most < value → most < value_from value digits
stays_beyond [] value most h = h
stays_beyond (d ∷ ds) value most h = stays_beyond ds (value * 10 + (d - 48)) most (omega (arith, h))

none_beyond : (value most : ℕ) → most < value → None ≡ only_if (nat_le value most) value
none_beyond value most h = grind (arith, nat_tests)

pub beyond : (digits : List ℕ) (value most : ℕ) → most < value → None ≡ only_if (nat_le (value_from value digits) most) (value_from value digits)
beyond digits value most h = none_beyond (value_from value digits) most (stays_beyond digits value most h)
