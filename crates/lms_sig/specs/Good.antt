-- When a signature is good, and what is the first thing wrong with it (RFC 8554, section 5.4.2).
use Rattle.std.specs.Prelude.{◌≡◌, ℕ, ◌+◌, ◌<◌, ◌==◌, Bool, ◌&&◌, nat_lt, List, length, drop, Option, Some, None, if◌then◌else◌}
use Rattle.std.specs.Str.{bytes_eq}
use Rattle.lms_sig.specs.Strings.{u32_at, part}
use Rattle.lms_sig.specs.Parameters.{lms_code, ots_code, lms_type, ots_type, both_types, leaf_count, ots_length, signature_length}
use Rattle.lms_sig.specs.Merkle.{recomputed_root}
use Rattle.lms_sig.specs.declared.params.Params.{Params}
use Rattle.lms_sig.specs.declared.verifying.Bad.{Bad}
use Rattle.lms_sig.specs.declared.verifying.Bad.TheVariants.{OtherKey, Length, OtherParameters, LeafRange, Root}

-- the types that a public key names, if it names known ones
unfoldable pub key_types : List ℕ → Option Params
key_types key = both_types (lms_type (u32_at key 0)) (ots_type (u32_at key 4))

-- I and T[1] of a public key
abbrev pub key_id : List ℕ → List ℕ
key_id key = part key 8 16

abbrev pub key_root : List ℕ → List ℕ
key_root key = drop 24 key

-- the five facts that make a signature good
pub record IsGood (key message signature : List ℕ) : Type 0 where
  pub params : Params
  pub types : key_types key ≡ Some params
  pub length : length signature ≡ signature_length params
  pub ots_code : u32_at signature 4 ≡ ots_code params.ots
  pub lms_code : u32_at signature (4 + ots_length params.ots) ≡ lms_code params.lms
  pub leaf : u32_at signature 0 < leaf_count params.lms
  pub root : recomputed_root params (key_id key) message signature ≡ key_root key

-- this thing is wrong unless the test passes, and then the next
abbrev pub unless : Bool → Bad → Option Bad → Option Bad
unless passes wrong next = if passes then next else Some wrong

-- the first of the five facts that fails
abbrev pub first_bad_under : Option Params → List ℕ → List ℕ → List ℕ → Option Bad
first_bad_under None key message signature = Some OtherKey
first_bad_under (Some params) key message signature =
    unless (length signature == signature_length params) Length
    (unless ((u32_at signature 4 == ots_code params.ots)
    && (u32_at signature (4 + ots_length params.ots) == lms_code params.lms)) OtherParameters
    (unless (nat_lt (u32_at signature 0) (leaf_count params.lms)) LeafRange
    (unless (bytes_eq (recomputed_root params (key_id key) message signature) (key_root key)) Root
    None)))

unfoldable pub first_bad : List ℕ → List ℕ → List ℕ → Option Bad
first_bad key message signature = first_bad_under (key_types key) key message signature
