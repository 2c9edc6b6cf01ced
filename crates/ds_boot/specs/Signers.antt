-- Keys that sign, with the leaves at which they sign next.
use Rattle.std.specs.Prelude.{ℕ, [], Option, Some, None}
use Rattle.lms_sig.specs.Keys.{Key}
use Rattle.lms_sig.specs.declared.params.LmsType.TheVariants.{H5}
use Rattle.lms_sig.specs.declared.params.OtsType.TheVariants.{W4}
use Rattle.lms_state.specs.Signers.{Signing}
use Rattle.ds_plan.specs.declared.host.HostSpec.{HostSpec}
use Rattle.ds_plan.specs.Keys.{identity_key}
use Rattle.ds_setup.specs.Keys.{lane_tree_of}

-- no key
abbrev pub no_tree : Key
no_tree = record { params = record { lms = H5; ots = W4 }; seed = []; id = [] }

abbrev pub tree_or_none : Option Key → Key
tree_or_none None = no_tree
tree_or_none (Some key) = key

-- a key that signs next at that leaf
abbrev pub signing_at : (leaf : ℕ) → Key → Signing
signing_at leaf key = record { key = key; next = leaf }

abbrev pub signer_at : (leaf : ℕ) → Option Key → Option Signing
signer_at leaf None = None
signer_at leaf (Some key) = Some (signing_at leaf key)

-- the identity key of a host that runs
abbrev pub identity_tree : HostSpec → Key
identity_tree h = tree_or_none (identity_key h)

-- the key of a running host's lane with that number, before its first frame
abbrev pub lane_signing : HostSpec → (number : ℕ) → Signing
lane_signing h number = signing_at 0 (tree_or_none (lane_tree_of h.lanekey h.secret number))
