-- A signature is good exactly where nothing is wrong with it, and a signer's signature is good.
use Rattle.std.specs.Result.{result_err}
use Rattle.std.proofs.lemmas.List.{drop_at}
use Rattle.std.proofs.Common.{Result, Ok, Err, IsOk, ◌↔◌, sym, ◌≡◌, ℕ, ◌+◌, ◌^◌, ◌<◌, ◌≤◌, ◌++◌, append_assoc, length-append, arith, Bool, true, false, List, length, Option, Some, None, refl, ◌&&◌}
use Rattle.std.proofs.lemmas.Bool.{eq-eqb, eqb-true, lt-ltb, ltb-true}
use Rattle.std.proofs.lemmas.Slice.Eq.{bytes_eq-Decides}
use Rattle.lms_sig.specs.Good.{IsGood, first_bad, first_bad_under, key_id, key_root, key_types, unless}
use Rattle.lms_sig.specs.Merkle.{T, path, public_key, signature}
use Rattle.lms_sig.specs.OneTime.{C, Q, ots_signature, y}
use Rattle.lms_sig.specs.Parameters.{both_types, digit_count, height, leaf_count, lms_code, lms_type, ots_code, ots_length, ots_type}
use Rattle.lms_sig.specs.Strings.{joined, u32_at, u32str}
use Rattle.lms_sig.specs.declared.params.LmsType.{LmsType}
use Rattle.lms_sig.specs.declared.params.LmsType.TheVariants.{H5, H10}
use Rattle.lms_sig.specs.declared.params.OtsType.{OtsType}
use Rattle.lms_sig.specs.declared.params.OtsType.TheVariants.{W4, W8}
use Rattle.lms_sig.proofs.Lengths.{length-ots_signature, length-signature, length-u32str}
use Rattle.lms_sig.proofs.Roots.{recomputed_root-is}
use Rattle.lms_sig.proofs.Words.{four_parts, part_at, u32_at-append, u32_at-u32str}
use Rattle.lms_sig.specs.declared.params.Params.{Params}
use Rattle.lms_sig.specs.declared.verifying.Bad.{Bad}

-- nothing is wrong where the test passes and nothing is wrong next
pub unless-none : (passes : Bool) (wrong : Bad) (next : Option Bad) → unless passes wrong next ≡ None → (passes ≡ true) × (next ≡ None)
unless-none true wrong next none = (refl, none)
unless-none false wrong next none = cc

pub and-true : (a b : Bool) → (a && b) ≡ true → (a ≡ true) × (b ≡ true)
and-true true b both = (refl, both)
and-true false b both = cc

-- a good signature has nothing wrong
pub good-none : (key message signature : List ℕ) → IsGood key message signature → first_bad key message signature ≡ None
unfolding first_bad
good-none key message signature good =
    let size = eq-eqb _ _ good.length in
    let ots = eq-eqb _ _ good.ots_code in
    let lms = eq-eqb _ _ good.lms_code in
    let leaf = lt-ltb _ _ good.leaf in
    let root = (bytes_eq-Decides _ _).1 good.root in
    rw (good.types, size, ots, lms, leaf, root) refl

-- a signature with nothing wrong is good
pub none-good : (key message signature : List ℕ) (types : Option Params) → key_types key ≡ types →
    first_bad_under types key message signature ≡ None → IsGood key message signature
none-good key message signature None known none = cc
none-good key message signature (Some params) known none =
    let size = unless-none _ _ _ none in
    let types = unless-none _ _ _ size.1 in
    let leaf = unless-none _ _ _ types.1 in
    let root = unless-none _ _ _ leaf.1 in
    let both = and-true _ _ types.0 in
    record {
      params = params;
      types = known;
      length = eqb-true _ _ size.0;
      ots_code = eqb-true _ _ both.0;
      lms_code = eqb-true _ _ both.1;
      leaf = ltb-true _ _ leaf.0;
      root = (bytes_eq-Decides _ _).0 root.0;
    }

pub first_bad-good : (key message signature : List ℕ) → first_bad key message signature ≡ None → IsGood key message signature
unfolding first_bad
first_bad-good key message signature none = none-good key message signature (key_types key) refl none

-- a result whose error is the first thing wrong is Ok exactly for a good signature
pub ok-good : (r : Result (Unit {0}) Bad) (key message signature : List ℕ) → result_err r ≡ first_bad key message signature →
    IsOk r ↔ IsGood key message signature
ok-good (Ok done) key message signature known =
    (λ _. first_bad-good key message signature (sym known), λ _. refl)
ok-good (Err wrong) key message signature known =
    (λ ok. cc, λ good. let none = good-none key message signature good in cc)

-- the words of the known types are read back
pub types-known : (lms : LmsType) (ots : OtsType) →
    both_types (lms_type (lms_code lms)) (ots_type (ots_code ots)) ≡ Some (record { lms = lms; ots = ots })
types-known H5 W4 = refl
types-known H5 W8 = refl
types-known H10 W4 = refl
types-known H10 W8 = refl

pub lms_code-fits : (lms : LmsType) → lms_code lms < 2 ^ 32
lms_code-fits H5 = omega arith
lms_code-fits H10 = omega arith

pub ots_code-fits : (ots : OtsType) → ots_code ots < 2 ^ 32
ots_code-fits W4 = omega arith
ots_code-fits W8 = omega arith

pub leaf_count-fits : (lms : LmsType) → leaf_count lms ≤ 2 ^ 10
leaf_count-fits H5 = omega arith
leaf_count-fits H10 = omega arith

pub key_types-is : (params : Params) (SEED I : List ℕ) → key_types (public_key params SEED I) ≡ Some params
unfolding key_types public_key
key_types-is params SEED I =
    let lms = u32str (lms_code params.lms) in
    let ots = u32str (ots_code params.ots) in
    let root = T params SEED I (height params.lms) 1 in
    let first : u32_at (lms ++ ots ++ I ++ root) 0 ≡ lms_code params.lms =
    rw (four_parts lms ots I root) (u32_at-u32str (lms_code params.lms) (ots ++ (I ++ root)) (lms_code-fits params.lms)) in
    let second : u32_at (lms ++ ots ++ I ++ root) 4 ≡ ots_code params.ots =
    rw (four_parts lms ots I root, u32_at-append lms (ots ++ (I ++ root)) 4 (length-u32str (lms_code params.lms)))
    (u32_at-u32str (ots_code params.ots) (I ++ root) (ots_code-fits params.ots)) in
    rw (first, second) (types-known params.lms params.ots)

pub key_id-is : (params : Params) (SEED I : List ℕ) → length I ≡ 16 → key_id (public_key params SEED I) ≡ I
unfolding public_key
key_id-is params SEED I size =
    let lms = u32str (lms_code params.lms) in
    let ots = u32str (ots_code params.ots) in
    let front : length (lms ++ ots) ≡ 8 =
    omega (arith, length-append lms ots, length-u32str (lms_code params.lms), length-u32str (ots_code params.ots)) in
    part_at (lms ++ ots) I (T params SEED I (height params.lms) 1) 8 16 front size

pub key_root-is : (params : Params) (SEED I : List ℕ) → length I ≡ 16 →
    key_root (public_key params SEED I) ≡ T params SEED I (height params.lms) 1
unfolding public_key
key_root-is params SEED I size =
    let lms = u32str (lms_code params.lms) in
    let ots = u32str (ots_code params.ots) in
    let front : length (lms ++ ots ++ I) ≡ 24 =
    omega (arith, length-append (lms ++ ots) I, length-append lms ots, length-u32str (lms_code params.lms), length-u32str (ots_code params.ots)) in
    drop_at (lms ++ ots ++ I) (T params SEED I (height params.lms) 1) 24 front

-- the words of a signature
pub leaf_number-is : (params : Params) (SEED I : List ℕ) (q : ℕ) (message : List ℕ) → q < 2 ^ 32 →
    u32_at (signature params SEED I q message) 0 ≡ q
unfolding signature
leaf_number-is params SEED I q message fits =
    let number = u32str q in
    let ots = ots_signature params.ots SEED I q message in
    let code = u32str (lms_code params.lms) in
    let way = path params SEED I 0 (leaf_count params.lms + q) (height params.lms) in
    rw (four_parts number ots code way) (u32_at-u32str q (ots ++ (code ++ way)) fits)

pub ots_code-is : (params : Params) (SEED I : List ℕ) (q : ℕ) (message : List ℕ) →
    u32_at (signature params SEED I q message) 4 ≡ ots_code params.ots
unfolding ots_signature signature
ots_code-is params SEED I q message =
    let number = u32str q in
    let front = u32str (ots_code params.ots) in
    let rest = joined (y params.ots SEED I q (Q I q (C SEED I q) message)) (digit_count params.ots) in
    let code = u32str (lms_code params.lms) in
    let way = path params SEED I 0 (leaf_count params.lms + q) (height params.lms) in
    rw (
      four_parts number (front ++ C SEED I q ++ rest) code way,
      u32_at-append number ((front ++ C SEED I q ++ rest) ++ (code ++ way)) 4 (length-u32str q),
      four_parts front (C SEED I q) rest (code ++ way),
    )
    (u32_at-u32str (ots_code params.ots) (C SEED I q ++ (rest ++ (code ++ way))) (ots_code-fits params.ots))

pub lms_code-is : (params : Params) (SEED I : List ℕ) (q : ℕ) (message : List ℕ) →
    u32_at (signature params SEED I q message) (4 + ots_length params.ots) ≡ lms_code params.lms
unfolding signature
lms_code-is params SEED I q message =
    let number = u32str q in
    let ots = ots_signature params.ots SEED I q message in
    let code = u32str (lms_code params.lms) in
    let way = path params SEED I 0 (leaf_count params.lms + q) (height params.lms) in
    let front : length (number ++ ots) ≡ 4 + ots_length params.ots =
    omega (arith, length-append number ots, length-u32str q, length-ots_signature params.ots SEED I q message) in
    rw (append_assoc (number ++ ots) code way, u32_at-append (number ++ ots) (code ++ way) (4 + ots_length params.ots) front)
    (u32_at-u32str (lms_code params.lms) way (lms_code-fits params.lms))

-- a signer's signature is good under the signer's key
pub signature-good : (params : Params) (SEED I message : List ℕ) (q : ℕ) → length I ≡ 16 → q < leaf_count params.lms →
    IsGood (public_key params SEED I) message (signature params SEED I q message)
signature-good params SEED I message q size below =
    let fits : q < 2 ^ 32 = omega (arith, leaf_count-fits params.lms) in
    record {
      params = params;
      types = key_types-is params SEED I;
      length = length-signature params SEED I q message;
      ots_code = ots_code-is params SEED I q message;
      lms_code = lms_code-is params SEED I q message;
      leaf = rw (leaf_number-is params SEED I q message fits) below;
      root = rw (key_id-is params SEED I size, key_root-is params SEED I size) (recomputed_root-is params SEED I q message below fits);
    }
