-- The tree of one-time keys (RFC 8554, section 5), each node computed anew from the seed.
use Rattle.std.specs.Prelude.{ℕ, zero, suc, ◌+◌, ◌-◌, ◌*◌, ◌/◌, ◌%◌, ◌==◌, List, [], ◌++◌, take, drop, if◌then◌else◌}
use Rattle.sha2.specs.Sha256.{sha256}
use Rattle.lms_sig.specs.Strings.{u16str, u32str, u32_at, part}
use Rattle.lms_sig.specs.Parameters.{lms_code, ots_code, height, leaf_count, ots_length}
use Rattle.lms_sig.specs.OneTime.{K, Kc, ots_signature}
use Rattle.lms_sig.specs.declared.params.Params.{Params}

-- D_LEAF and D_INTR (5.3)
abbrev pub d_leaf : ℕ
d_leaf = 0x8282

abbrev pub d_intr : ℕ
d_intr = 0x8383

-- the value of leaf r, over its one-time public key, and of inner node r, over its children (5.3)
unfoldable pub leaf : List ℕ → ℕ → List ℕ → List ℕ
leaf I r K = sha256 (I ++ u32str r ++ u16str d_leaf ++ K)

unfoldable pub inner : List ℕ → ℕ → List ℕ → List ℕ → List ℕ
inner I r left right = sha256 (I ++ u32str r ++ u16str d_intr ++ left ++ right)

-- T[r], for a node r that stands k levels above the leaves (5.3): the leaves are the nodes from 2^h
-- on, the children of r are 2r and 2r + 1, and the root is 1
unfoldable pub T : Params → List ℕ → List ℕ → ℕ → ℕ → List ℕ
T params SEED I zero r = leaf I r (K params.ots SEED I (r - leaf_count params.lms))
T params SEED I (suc k) r = inner I r (T params SEED I k (2 * r)) (T params SEED I k (2 * r + 1))

-- the public key, 56 bytes: u32str(type) || u32str(otstype) || I || T[1] (5.3)
unfoldable pub public_key : Params → List ℕ → List ℕ → List ℕ
public_key params SEED I = u32str (lms_code params.lms) ++ u32str (ots_code params.ots) ++ I
    ++ T params SEED I (height params.lms) 1

-- the other child of r's parent
abbrev pub sibling : ℕ → ℕ
sibling r = if r % 2 == 0 then r + 1 else r - 1

-- path[0] || .. : the siblings of node r, k levels above the leaves, and of the nodes above it (5.4)
unfoldable pub path : Params → List ℕ → List ℕ → ℕ → ℕ → ℕ → List ℕ
path params SEED I k r zero = []
path params SEED I k r (suc count) =
    T params SEED I k (sibling r) ++ path params SEED I (suc k) (r / 2) count

-- the signature of a message at leaf q: u32str(q) || ots_signature || u32str(type) || path[0] || ..
-- || path[h - 1] (5.4.1)
unfoldable pub signature : Params → List ℕ → List ℕ → ℕ → List ℕ → List ℕ
signature params SEED I q message = u32str q ++ ots_signature params.ots SEED I q message
    ++ u32str (lms_code params.lms)
    ++ path params SEED I 0 (leaf_count params.lms + q) (height params.lms)

-- the parent's value, from the value tmp of node r and its sibling's (5.4.2, algorithm 6a)
abbrev pub parent : List ℕ → ℕ → List ℕ → List ℕ → List ℕ
parent I r tmp other =
    if r % 2 == 0 then inner I (r / 2) tmp other else inner I (r / 2) other tmp

-- the value so many levels above node r, from its value tmp and the path (5.4.2, algorithm 6a)
unfoldable pub climb : List ℕ → ℕ → List ℕ → List ℕ → ℕ → List ℕ
climb I r tmp siblings zero = tmp
climb I r tmp siblings (suc count) =
    climb I (r / 2) (parent I r tmp (take 32 siblings)) (drop 32 siblings) count

-- Tc, the candidate for the root that follows from a message and its signature, under the
-- identifier I (5.4.2, algorithm 6a)
unfoldable pub recomputed_root : Params → List ℕ → List ℕ → List ℕ → List ℕ
recomputed_root params I message signature =
    let q = u32_at signature 0 in
    let Kc = Kc params.ots I q message (part signature 4 (ots_length params.ots)) in
    climb I (leaf_count params.lms + q) (leaf I (leaf_count params.lms + q) Kc)
    (drop (8 + ots_length params.ots) signature) (height params.lms)
