-- What the desk needs of a scheme, and of a host's plan: the certificates' signatures, their spelling, and the identity key.
use Rattle.std.specs.Prelude.{ℕ, List, [], Option, Some, None, Result, Ok, Err, nat_lt, unwrap_or}
use Rattle.lms_sig.specs.Keys.{Key}
use Rattle.lms_sig.specs.Merkle.{signature}
use Rattle.lms_sig.specs.Parameters.{lms_code, ots_code, lms_type, ots_type, both_types}
use Rattle.lms_sig.specs.declared.params.Params.{Params}
use Rattle.lms_sig.specs.declared.params.LmsType.TheVariants.{H5}
use Rattle.lms_sig.specs.declared.params.OtsType.TheVariants.{W4}
use Rattle.lms_state.specs.Signers.{leaves_of}
use Rattle.ds_label.specs.declared.category.PubKey.{PubKey}
use Rattle.ds_label.specs.declared.category.Category.{Category}
use Rattle.ds_cert.specs.declared.delegation.Delegation.{Delegation}
use Rattle.ds_cert.specs.Good.{is_good_delegation, is_good_address}
use Rattle.ds_cert.specs.Reading.{read_cert}
use Rattle.ds_cert.specs.Spelling.{signed_part_of_delegation, spelling_of_delegation}
use Rattle.ds_model.specs.Scheme.{Scheme, SigningKey}
use Rattle.ds_model.specs.Plan.{HostPlan}

-- a key with the numbers of its types
abbrev pub signing_of : Key → SigningKey
signing_of key = record { tree = lms_code key.params.lms; chains = ots_code key.params.ots; seed = key.seed; identifier = key.id }

-- the types that the numbers name; where they name none, those of the least key
abbrev pub types_of : SigningKey → Params
types_of s = unwrap_or (both_types (lms_type s.tree) (ots_type s.chains)) (record { lms = H5; ots = W4 })

-- the key with its types
abbrev pub key_of : SigningKey → Key
key_of s = record { params = types_of s; seed = s.seed; id = s.identifier }

-- a delegation that isn't signed
abbrev pub unsigned : PubKey → Category → (to : PubKey) → (from until : ℕ) → Delegation
unsigned by c to from until = record { category = c; to = to; from = from; until = until; by = by; signature = [] }

-- the same with this signature
abbrev pub with_signature : Delegation → List ℕ → Delegation
with_signature d made = record d { signature = made }

-- the delegation with the key's signature at that leaf
abbrev pub signed_at : Key → (leaf : ℕ) → PubKey → Category → (to : PubKey) → (from until : ℕ) → Delegation
signed_at key leaf by c to from until =
    with_signature (unsigned by c to from until) (signature key.params key.seed key.id leaf (signed_part_of_delegation (unsigned by c to from until)))

-- the value that was read, if one was
abbrev pub if_read : {A : Type 0} → Result A ℕ → Option A
if_read (Ok x) = Some x
if_read (Err place) = None

-- any scheme, with what the desk needs of it
abbrev pub desk_scheme : Scheme → Scheme
desk_scheme s = record s {
  good = is_good_delegation;
  good_address = is_good_address;
  delegation_signature = λ k leaf by c to from until. (signed_at (key_of k) leaf by c to from until).signature;
  spelling = spelling_of_delegation;
  read_cert = λ bytes. if_read (read_cert bytes);
  has_leaf = λ k leaf. nat_lt leaf (leaves_of (key_of k));
}

-- any host's plan, with this host's key and the identity key that signs for it
abbrev pub desk_plan : HostPlan → PubKey → Key → HostPlan
desk_plan plan here key = record plan { key = here; signing = signing_of key }
