-- The objects over readers and writers, as contracts see them.
use Rattle.std.specs.Prelude.{ℕ}

-- a source: the reader, the count of faults and the count of ends
pub record Reading (R : Type 0) : Type 0 where
  pub reader : R
  pub faults : ℕ
  pub ends : ℕ

-- a sink: the writer, and the count of faults
pub record Writing (W : Type 0) : Type 0 where
  pub writer : W
  pub faults : ℕ

-- a keeper: the count of faults
pub record Folder : Type 0 where
  pub faults : ℕ
