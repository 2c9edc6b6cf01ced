-- Which leaves a key has released, over one keeper and any stops.
use Rattle.std.specs.Prelude.{◌≢◌, ℕ, ◌+◌, ◌<◌, ◌≤◌, List, [], ◌∷◌, Option, Some, None, AllPairs}
use Rattle.lms_sig.specs.Keys.{Key}
use Rattle.ds_base.specs.Marks.{Raised, MayBeRaised}
use Rattle.lms_state.specs.Signers.{leaves_of, IsLeafOf}

-- What may have happened to a key: the marks that the keeper tells now, the next leaf of the key's signer, if one is alive, and
-- the leaves whose signatures were released, the last one first. Nobody lowers a mark, and one signer is alive at a time.
pub data Trace (key : Key) : (List ℕ → ℕ) → Option ℕ → List ℕ → Type 0 where
  -- no signer was ever resumed
  begins : (marks : List ℕ → ℕ) → Trace key marks None []
  -- a signer is resumed in the place of the one before it, if one is alive
  resumes : {marks : List ℕ → ℕ} {signer : Option ℕ} {released : List ℕ} (leaf : ℕ) → Trace key marks signer released → IsLeafOf (Some marks) key leaf → Trace key marks (Some leaf) released
  -- the mark is raised past the leaf, and then its signature is released
  signs : {marks : List ℕ → ℕ} {leaf : ℕ} {released : List ℕ} (after : List ℕ → ℕ) → Trace key marks (Some leaf) released → leaf < leaves_of key → Raised (Some marks) key.id (leaf + 1) (Some after) → Trace key after (Some (leaf + 1)) (leaf ∷ released)
  -- the raise fails, and the mark is the old one or the new one; nothing is released
  fails : {marks : List ℕ → ℕ} {leaf : ℕ} {released : List ℕ} (after : List ℕ → ℕ) → Trace key marks (Some leaf) released → MayBeRaised (Some marks) key.id (leaf + 1) (Some after) → Trace key after (Some leaf) released
  -- the signer stops, before the raise, within it or after it
  stops : {marks : List ℕ → ℕ} {leaf : ℕ} {released : List ℕ} (after : List ℕ → ℕ) → Trace key marks (Some leaf) released → MayBeRaised (Some marks) key.id (leaf + 1) (Some after) → Trace key after None released
  -- another raise, of any name
  others : {marks : List ℕ → ℕ} {signer : Option ℕ} {released : List ℕ} (after : List ℕ → ℕ) → Trace key marks signer released → ((name : List ℕ) → marks name ≤ after name) → Trace key after signer released

-- no leaf stands in two released signatures
abbrev pub Once : List ℕ → Type 0
Once released = AllPairs (λ leaf earlier. leaf ≢ earlier) released

-- the same as a trace, where the keeper tells its marks
abbrev pub Traced : Option (List ℕ → ℕ) → Key → Option ℕ → List ℕ → Type 0
Traced None key signer released = Unit {0}
Traced (Some marks) key signer released = Trace key marks signer released
