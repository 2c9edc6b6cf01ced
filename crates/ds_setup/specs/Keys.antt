-- The keys of a document's hosts and lanes, as the model has them.
use Rattle.std.specs.Prelude.{ℕ, List, get_or, Option, Some, None}
use Rattle.lms_sig.specs.declared.params.Params.{Params}
use Rattle.lms_sig.specs.Keys.{Key as TreeKey, derived_seed, derived_id}
use Rattle.lms_sig.specs.Merkle.{public_key}
use Rattle.ds_label.specs.declared.category.PubKey.{PubKey}
use Rattle.ds_model.specs.Keys.{no_key}
use Rattle.ds_model.specs.Scheme.{SigningKey, LaneKey}
use Rattle.ds_model.specs.Plan.{no_signing}
use Rattle.ds_desk.specs.Signing.{signing_of}
use Rattle.ds_plan.specs.declared.host.HostSpec.{HostSpec}
use Rattle.ds_plan.specs.declared.host.Secret.{Secret}
use Rattle.ds_plan.specs.declared.host.Secret.TheVariants.{Seed, Key}
use Rattle.ds_plan.specs.Keys.{identity_key, host_keys}

-- the key of the host at a place
abbrev pub key_at : List HostSpec → ℕ → PubKey
key_at hosts place = get_or (host_keys hosts) place no_key

-- the key that signs; a silent host has none
abbrev pub signing_or_none : Option TreeKey → SigningKey
signing_or_none None = no_signing
signing_or_none (Some key) = signing_of key

-- a host's identity key, which is made of its secret with index 0
abbrev pub signing_key : HostSpec → SigningKey
signing_key h = signing_or_none (identity_key h)

-- the key of a running host's lane with this number, which is made of its secret with that index
abbrev pub lane_tree_of : Params → Secret → (number : ℕ) → Option TreeKey
lane_tree_of lanekey (Seed secret) number =
    Some (record { params = lanekey; seed = derived_seed secret number; id = derived_id secret number })
lane_tree_of lanekey (Key key) number = None

abbrev pub public_or_none : Option TreeKey → PubKey
public_or_none None = no_key
public_or_none (Some key) = record { 0 = public_key key.params key.seed key.id }

abbrev pub lane_key : HostSpec → (number : ℕ) → LaneKey
lane_key h number = signing_or_none (lane_tree_of h.lanekey h.secret number)

abbrev pub lane_public_key : HostSpec → (number : ℕ) → PubKey
lane_public_key h number = public_or_none (lane_tree_of h.lanekey h.secret number)
