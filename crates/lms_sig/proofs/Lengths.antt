-- How long the definitions' byte strings are.
use Rattle.std.proofs.Common.{◌≡◌, ℕ, zero, suc, ◌+◌, ◌*◌, ◌/◌, List, ◌++◌, length, refl, arith, length-append}
use Rattle.sha2.specs.Sha256.{digest_bytes, sha256}
use Rattle.lms_sig.specs.Merkle.{T, inner, leaf, path, sibling, signature}
use Rattle.lms_sig.specs.OneTime.{C, Q, ots_signature, step, steps, x, y}
use Rattle.lms_sig.specs.Parameters.{digit_count, height, lms_code, ots_code, leaf_count, ots_length, signature_length}
use Rattle.lms_sig.specs.Strings.{joined, u16str, u32str}
use Rattle.lms_sig.specs.declared.params.OtsType.{OtsType}
use Rattle.lms_sig.specs.declared.params.Params.{Params}

pub length-u16str : (n : ℕ) → length (u16str n) ≡ 2
unfolding u16str
length-u16str n = refl

pub length-u32str : (n : ℕ) → length (u32str n) ≡ 4
unfolding u32str
length-u32str n = refl

pub length-sha256 : (m : List ℕ) → length (sha256 m) ≡ 32
unfolding digest_bytes sha256
length-sha256 m = refl

pub length-x : (SEED I : List ℕ) (q i : ℕ) → length (x SEED I q i) ≡ 32
unfolding x
length-x SEED I q i = length-sha256 _

pub length-C : (SEED I : List ℕ) (q : ℕ) → length (C SEED I q) ≡ 32
unfolding C
length-C SEED I q = length-sha256 _

pub length-steps : (I : List ℕ) (q i j count : ℕ) (tmp : List ℕ) → length tmp ≡ 32 → length (steps I q i j count tmp) ≡ 32
unfolding step steps
length-steps I q i j zero tmp known = known
length-steps I q i j (suc count) tmp known = length-sha256 _

pub length-y : (t : OtsType) (SEED I : List ℕ) (q : ℕ) (Q : List ℕ) (i : ℕ) → length (y t SEED I q Q i) ≡ 32
unfolding y
length-y t SEED I q Q i = length-steps I q i 0 _ (x SEED I q i) (length-x SEED I q i)

pub length-joined : (f : ℕ → List ℕ) (n : ℕ) → ((i : ℕ) → length (f i) ≡ 32) → length (joined f n) ≡ 32 * n
unfolding joined
length-joined f zero known = refl
length-joined f (suc n) known =
    omega (arith, length-append (joined f n) (f n), length-joined f n known, known n)

pub length-ots_signature : (t : OtsType) (SEED I : List ℕ) (q : ℕ) (message : List ℕ) →
    length (ots_signature t SEED I q message) ≡ ots_length t
unfolding ots_signature
length-ots_signature t SEED I q message =
    let hash = Q I q (C SEED I q) message in
    omega (
      arith,
      length-append (u32str (ots_code t) ++ C SEED I q) (joined (y t SEED I q hash) (digit_count t)),
      length-append (u32str (ots_code t)) (C SEED I q),
      length-u32str (ots_code t),
      length-C SEED I q,
      length-joined (y t SEED I q hash) (digit_count t) (length-y t SEED I q hash),
    )

pub length-T : (params : Params) (SEED I : List ℕ) (k r : ℕ) → length (T params SEED I k r) ≡ 32
unfolding T inner leaf
length-T params SEED I zero r = length-sha256 _
length-T params SEED I (suc k) r = length-sha256 _

pub length-path : (params : Params) (SEED I : List ℕ) (k r n : ℕ) → length (path params SEED I k r n) ≡ 32 * n
unfolding path
length-path params SEED I k r zero = refl
length-path params SEED I k r (suc n) =
    omega (
      arith,
      length-append (T params SEED I k (sibling r)) (path params SEED I (suc k) (r / 2) n),
      length-T params SEED I k (sibling r),
      length-path params SEED I (suc k) (r / 2) n,
    )

pub length-signature : (params : Params) (SEED I : List ℕ) (q : ℕ) (message : List ℕ) →
    length (signature params SEED I q message) ≡ signature_length params
unfolding signature
length-signature params SEED I q message =
    let ots = ots_signature params.ots SEED I q message in
    let way = path params SEED I 0 (leaf_count params.lms + q) (height params.lms) in
    omega (
      arith,
      length-append (u32str q ++ ots ++ u32str (lms_code params.lms)) way,
      length-append (u32str q ++ ots) (u32str (lms_code params.lms)),
      length-append (u32str q) ots,
      length-u32str q,
      length-u32str (lms_code params.lms),
      length-ots_signature params.ots SEED I q message,
      length-path params SEED I 0 (leaf_count params.lms + q) (height params.lms),
    )
