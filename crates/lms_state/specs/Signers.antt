-- A signing key and the leaf that it signs at next.
use Rattle.std.specs.Prelude.{◌≡◌, ℕ, ◌+◌, ◌≤◌, min, List, Option, Some, None}
use Rattle.lms_sig.specs.Keys.{Key}
use Rattle.lms_sig.specs.Merkle.{signature}
use Rattle.lms_sig.specs.Parameters.{leaf_count}

pub record Signing : Type 0 where
  pub key : Key
  pub next : ℕ

-- how many leaves the key has
abbrev pub leaves_of : Key → ℕ
leaves_of key = leaf_count key.params.lms

-- the key's leaf by its mark, where the keeper tells the marks
abbrev pub IsLeafOf : Option (List ℕ → ℕ) → Key → ℕ → Type 0
IsLeafOf None key leaf = leaf ≤ leaves_of key
IsLeafOf (Some marks) key leaf = leaf ≡ min (marks key.id) (leaves_of key)

-- the signature of a message at the signer's next leaf
abbrev pub next_signature : Signing → List ℕ → List ℕ
next_signature s message = signature s.key.params s.key.seed s.key.id s.next message

-- past that leaf
abbrev pub one_leaf_on : Signing → Signing
one_leaf_on s = record s { next = s.next + 1 }
