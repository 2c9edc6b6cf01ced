-- When two keys are the same.
use Rattle.std.specs.Prelude.{◌≡◌, Bool, bytes_eq}
use Rattle.std.specs.Bool.{Decides}
use Rattle.ds_label.specs.declared.category.PubKey.{PubKey}

-- the test says of two keys whether they are the same
abbrev pub IsSameness : {K : Type 0} → (K → K → Bool) → Type 0
IsSameness {K} same = (a b : K) → Decides (same a b) (a ≡ b)

-- two public keys have the same bytes
abbrev pub same_key : PubKey → PubKey → Bool
same_key a b = bytes_eq a.0 b.0
