-- What is signed at a signer's next leaf.
use Rattle.std.specs.Prelude.{ℕ, ◌-◌, ◌^◌, ◌<◌, List, [], Option, Some, None}
use Rattle.lms_state.specs.Signers.{Signing, leaves_of, next_signature}
use Rattle.ds_label.specs.declared.category.PubKey.{PubKey}
use Rattle.ds_label.specs.declared.category.Category.{Category}
use Rattle.ds_cert.specs.declared.address.Address.{Address}
use Rattle.ds_cert.specs.declared.delegation.Delegation.{Delegation}
use Rattle.ds_cert.specs.declared.lane.LaneCert.{LaneCert}
use Rattle.ds_cert.specs.Spelling.{signed_part_of_address, signed_part_of_lane_cert}
use Rattle.ds_model.specs.Keys.{key_of}
use Rattle.ds_desk.specs.Signing.{signed_at}
use Rattle.ds_plan.specs.declared.host.HostSpec.{HostSpec}
use Rattle.ds_plan.specs.declared.cert.CertSpec.{CertSpec}
use Rattle.ds_plan.specs.Keys.{identity_key}
use Rattle.ds_setup.specs.Signed.{leaf_behind}
use Rattle.ds_boot.specs.Signers.{no_tree, signing_at, signer_at}

-- a leaf is left
abbrev pub HasLeaf : Signing → Type 0
HasLeaf s = s.next < leaves_of s.key

-- an exporter's address certificate, valid at each moment but the last
abbrev pub blank_address : PubKey → List ℕ → Address
blank_address key address = record { exporter = key; address = address; from = 0; until = 2 ^ 64 - 1; signature = [] }

abbrev pub address_by : Signing → PubKey → List ℕ → Address
address_by s key address =
    record (blank_address key address) { signature = next_signature s (signed_part_of_address (blank_address key address)) }

-- a lane's certificate with the signature
abbrev pub lane_by : Signing → LaneCert → LaneCert
lane_by s blank = record blank { signature = next_signature s (signed_part_of_lane_cert blank) }

-- the delegation by a host to another
abbrev pub delegation_of : List PubKey → Signing → (by : ℕ) → Category → (to from until : ℕ) → Delegation
delegation_of keys s by category to from until =
    signed_at s.key s.next (key_of keys by) category (key_of keys to) from until

-- ALL HOSTS

-- a host's signer behind these certificates of the document; a silent host has none
abbrev pub signer_behind : (before : List CertSpec) → (place : ℕ) → HostSpec → Option Signing
signer_behind before place h = signer_at (leaf_behind h place before) (identity_key h)

-- there is a signer, and a leaf is left
abbrev pub CanSign : Option Signing → Type 0
CanSign None = ⊥
CanSign (Some s) = HasLeaf s

abbrev pub signer_or_none : Option Signing → Signing
signer_or_none None = signing_at 0 no_tree
signer_or_none (Some s) = s
