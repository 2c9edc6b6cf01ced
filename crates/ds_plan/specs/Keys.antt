-- The public keys of a document's hosts.
use Rattle.std.specs.Prelude.{List, map, Bool, bytes_eq, Option, Some, None}
use Rattle.lms_sig.specs.declared.params.Params.{Params}
use Rattle.lms_sig.specs.Keys.{Key as SigningKey, derived_seed, derived_id}
use Rattle.lms_sig.specs.Merkle.{public_key}
use Rattle.ds_label.specs.declared.category.PubKey.{PubKey}
use Rattle.ds_plan.specs.declared.host.HostSpec.{HostSpec}
use Rattle.ds_plan.specs.declared.host.Secret.{Secret}
use Rattle.ds_plan.specs.declared.host.Secret.TheVariants.{Seed, Key}

-- a running host's identity key; a silent host has none of its own
abbrev pub identity_of : Params → Secret → Option SigningKey
identity_of identity (Seed secret) = Some (record { params = identity; seed = derived_seed secret 0; id = derived_id secret 0 })
identity_of identity (Key key) = None

abbrev pub identity_key : HostSpec → Option SigningKey
identity_key h = identity_of h.identity h.secret

-- a running host's key is made of its secret, with index 0; a silent host's is given
abbrev pub key_of : Params → Secret → PubKey
key_of identity (Seed secret) = record { 0 = public_key identity (derived_seed secret 0) (derived_id secret 0) }
key_of identity (Key key) = key

abbrev pub host_key : HostSpec → PubKey
host_key h = key_of h.identity h.secret

abbrev pub same_key : PubKey → PubKey → Bool
same_key a b = bytes_eq a.0 b.0

abbrev pub host_keys : List HostSpec → List PubKey
host_keys hosts = map host_key hosts
