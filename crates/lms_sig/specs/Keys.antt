-- What a signing key is made of, and how a host's secret gives it. THIS PROJECT'S OWN.
use Rattle.std.specs.Prelude.{ℕ, List, ◌++◌, take, codes}
use Rattle.sha2.specs.Sha256.{sha256}
use Rattle.lms_sig.specs.Strings.{u32str}
use Rattle.lms_sig.specs.declared.params.Params.{Params}

-- a key of a tree: its types, its secret seed and its identifier
pub record Key : Type 0 where
  pub params : Params
  pub seed : List ℕ
  pub id : List ℕ

-- SEED and I of the key with this index, from a host's 32 secret bytes
unfoldable pub derived_seed : List ℕ → ℕ → List ℕ
derived_seed secret index = sha256 (codes "dstar seed" ++ secret ++ u32str index)

unfoldable pub derived_id : List ℕ → ℕ → List ℕ
derived_id secret index = take 16 (sha256 (codes "dstar name" ++ secret ++ u32str index))
