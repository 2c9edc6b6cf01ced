-- What the digits of a number are, as a text that is read.
use Rattle.std.proofs.Common.{◌≡◌, ◌<◌, ◌^◌, ℕ, List, decimal, sym, subst}
use Rattle.std.specs.Str.{IsUtf8}
use Rattle.std.proofs.lemmas.Str.{IsUtf8-from_ascii}
use Rattle.std.proofs.lemmas.Fmt.{IsAscii-decimal}

-- they are UTF-8
pub digits_are_utf8 : (text : List ℕ) (number : ℕ) → number < 2 ^ 64 → text ≡ decimal number → IsUtf8 text
digits_are_utf8 text number small is = subst IsUtf8 (sym is) (IsUtf8-from_ascii (decimal number) (IsAscii-decimal number small))
