-- Bytes, and for how many more there is room.
use Rattle.std.specs.Prelude.{ℕ, List}

pub record Filled : Type 0 where
  pub bytes : List ℕ
  pub spare : ℕ
