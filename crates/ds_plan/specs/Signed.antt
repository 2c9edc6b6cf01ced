-- What setup signs with a host's identity key.
use Rattle.std.specs.Prelude.{ℕ, ◌-◌, ◌^◌, List, []}
use Rattle.lms_sig.specs.declared.params.Params.{Params}
use Rattle.lms_sig.specs.Keys.{derived_seed, derived_id}
use Rattle.lms_sig.specs.Merkle.{signature}
use Rattle.ds_cert.specs.declared.address.Address.{Address}
use Rattle.ds_cert.specs.Spelling.{signed_part_of_address}
use Rattle.ds_plan.specs.declared.host.Secret.{Secret}
use Rattle.ds_plan.specs.declared.host.Secret.TheVariants.{Seed, Key}
use Rattle.ds_plan.specs.Keys.{key_of}

-- a signature by a host's identity key, at a leaf; a silent host signs nothing
abbrev pub signature_by : Params → Secret → ℕ → List ℕ → List ℕ
signature_by identity (Seed secret) leaf message = signature identity (derived_seed secret 0) (derived_id secret 0) leaf message
signature_by identity (Key key) leaf message = []

abbrev pub unsigned_address : Params → Secret → List ℕ → Address
unsigned_address identity secret address = record { exporter = key_of identity secret; address = address; from = 0; until = 2 ^ 64 - 1; signature = [] }

-- a host's own address certificate: signed at leaf 0, valid at each moment but the last
abbrev pub signed_address : Params → Secret → List ℕ → Address
signed_address identity secret address =
    let part : Address = unsigned_address identity secret address in
    record part { signature = signature_by identity secret 0 (signed_part_of_address part) }
