-- The three hosts have three keys: their identifiers, of one block each, differ.
use Rattle.std.proofs.Common.{◌≡◌, refl, ap, ◌∙◌}
use Rattle.std.specs.Prelude.{ℕ, ◌*◌, List, [], ◌++◌, take, drop, replicate, codes, bytes_eq, Bool, true, false}
use Rattle.std.proofs.lemmas.Slice.Eq.{bytes_eq-Decides}
use Rattle.sha2.specs.Sha256.{sha256, padded_message, hash_after, initial_hash_256, first_words, digest_bytes}
use Rattle.lms_sig.specs.Strings.{u32str}
use Rattle.lms_sig.specs.Keys.{derived_seed, derived_id}
use Rattle.lms_sig.specs.Merkle.{T, public_key}
use Rattle.ds_plan.specs.Keys.{same_key}
use Rattle.ds_gen.specs.Generated.{key_by, types}
use Rattle.ds_gen.proofs.Hashing.{one_pass, in_one_pass}

-- the block of which an identifier is made, and the identifier
abbrev pub block : ℕ → List ℕ
block byte = take 64 (drop (0 * 64) (padded_message (codes "dstar name" ++ replicate 32 byte ++ u32str 0)))

abbrev pub id : ℕ → List ℕ
id byte = take 16 (digest_bytes (one_pass initial_hash_256 (block byte)) 8)

id_is : (byte : ℕ) → derived_id (replicate 32 byte) 0 ≡ id byte
unfolding derived_id sha256 hash_after u32str
id_is byte = ap (λ h. take 16 (digest_bytes h 8)) (in_one_pass initial_hash_256 (block byte))

-- what stands before the tree's root, and the root
abbrev front : List ℕ → List ℕ → List ℕ
front name root = u32str 6 ++ u32str 3 ++ name ++ root

abbrev root : ℕ → List ℕ
root byte = T types (derived_seed (replicate 32 byte) 0) (derived_id (replicate 32 byte) 0) 10 1

key_is : (byte : ℕ) → (key_by byte).0 ≡ front (id byte) (root byte)
unfolding key_by public_key
key_is byte = ap (λ name. front name (root byte)) (id_is byte)

by_ids : (a b : ℕ) → bytes_eq (front (id a) (root a)) (front (id b) (root b)) ≡ false → same_key (key_by a) (key_by b) ≡ false
by_ids a b differ = (λ i. bytes_eq (key_is a i) (key_is b i)) ∙ differ

pub a_not_b : same_key (key_by 1) (key_by 2) ≡ false
unfolding u32str digest_bytes first_words
a_not_b = by_ids 1 2 refl

pub a_not_c : same_key (key_by 1) (key_by 3) ≡ false
unfolding u32str digest_bytes first_words
a_not_c = by_ids 1 3 refl

pub b_not_c : same_key (key_by 2) (key_by 3) ≡ false
unfolding u32str digest_bytes first_words
b_not_c = by_ids 2 3 refl

pub same_as_itself : (byte : ℕ) → same_key (key_by byte) (key_by byte) ≡ true
same_as_itself byte = (bytes_eq-Decides (key_by byte).0 (key_by byte).0).1 refl
