-- LM-OTS one-time signatures (RFC 8554, section 4). I is the tree's identifier of 16 bytes, q the
-- number of the leaf, t the type.
use Rattle.std.specs.Prelude.{ℕ, zero, suc, ◌+◌, ◌-◌, ◌*◌, ◌/◌, ◌^◌, List, ◌++◌, drop}
use Rattle.sha2.specs.Sha256.{sha256}
use Rattle.lms_sig.specs.Strings.{u8str, u16str, u32str, coef, joined, part}
use Rattle.lms_sig.specs.Parameters.{ots_code, width, digit_count, left_shift, chain_length}
use Rattle.lms_sig.specs.declared.params.OtsType.{OtsType}

-- D_PBLC and D_MESG (4.3, 4.5)
abbrev pub d_pblc : ℕ
d_pblc = 0x8080

abbrev pub d_mesg : ℕ
d_mesg = 0x8181

-- the place of the randomiser, beside those of the x: this project's own
abbrev pub d_rand : ℕ
d_rand = 0xfffd

-- x[i], the secret start of chain i (appendix A)
unfoldable pub x : List ℕ → List ℕ → ℕ → ℕ → List ℕ
x SEED I q i = sha256 (I ++ u32str q ++ u16str i ++ u8str 0xff ++ SEED)

-- C, the randomiser. THIS PROJECT'S OWN: the RFC draws it at random (4.5), here it follows from the
-- seed and the leaf, in the manner of the x
unfoldable pub C : List ℕ → List ℕ → ℕ → List ℕ
C SEED I q = sha256 (I ++ u32str q ++ u16str d_rand ++ u8str 0xff ++ SEED)

-- step j of chain i: tmp = H(I || u32str(q) || u16str(i) || u8str(j) || tmp) (4.3, 4.5, 4.6)
unfoldable pub step : List ℕ → ℕ → ℕ → ℕ → List ℕ → List ℕ
step I q i j tmp = sha256 (I ++ u32str q ++ u16str i ++ u8str j ++ tmp)

-- so many steps of chain i, from step j on
unfoldable pub steps : List ℕ → ℕ → ℕ → ℕ → ℕ → List ℕ → List ℕ
steps I q i j zero tmp = tmp
steps I q i j (suc count) tmp = step I q i (j + count) (steps I q i j count tmp)

-- the end of chain i, after all its steps: y[i] of algorithm 1 (4.3)
unfoldable pub chain_end : OtsType → List ℕ → List ℕ → ℕ → ℕ → List ℕ
chain_end t SEED I q i = steps I q i 0 (chain_length t) (x SEED I q i)

-- K, the one-time public key: H(I || u32str(q) || u16str(D_PBLC) || y[0] || .. || y[p - 1]) (4.3)
unfoldable pub K : OtsType → List ℕ → List ℕ → ℕ → List ℕ
K t SEED I q =
    sha256 (I ++ u32str q ++ u16str d_pblc ++ joined (chain_end t SEED I q) (digit_count t))

-- the sum that Cksm takes over the first digits of S: of each, how far it is below the largest
unfoldable pub missing : OtsType → List ℕ → ℕ → ℕ
missing t S zero = 0
missing t S (suc count) = missing t S count + (chain_length t - coef S count (width t))

-- Cksm(S), the checksum of the 256 / w digits of S (4.4, algorithm 2)
unfoldable pub Cksm : OtsType → List ℕ → ℕ
Cksm t S = missing t S (256 / width t) * 2 ^ left_shift t

-- Q, the hash of the message (4.5)
unfoldable pub Q : List ℕ → ℕ → List ℕ → List ℕ → List ℕ
Q I q C message = sha256 (I ++ u32str q ++ u16str d_mesg ++ C ++ message)

-- a = coef(Q || Cksm(Q), i, w), how many steps of chain i a signature has taken (4.5)
unfoldable pub digit : OtsType → List ℕ → ℕ → ℕ
digit t Q i = coef (Q ++ u16str (Cksm t Q)) i (width t)

-- y[i] of a message whose hash is Q: chain i after so many steps (4.5, algorithm 3)
unfoldable pub y : OtsType → List ℕ → List ℕ → ℕ → List ℕ → ℕ → List ℕ
y t SEED I q Q i = steps I q i 0 (digit t Q i) (x SEED I q i)

-- the LM-OTS signature of a message: u32str(type) || C || y[0] || .. || y[p - 1] (4.5, algorithm 3)
unfoldable pub ots_signature : OtsType → List ℕ → List ℕ → ℕ → List ℕ → List ℕ
ots_signature t SEED I q message = u32str (ots_code t) ++ C SEED I q
    ++ joined (y t SEED I q (Q I q (C SEED I q) message)) (digit_count t)

-- z[i], the end of the chain that goes on from y[i] of a signature, where ys = y[0] || .. || y[p - 1]
-- (4.6, algorithm 4b)
unfoldable pub z : OtsType → List ℕ → ℕ → List ℕ → List ℕ → ℕ → List ℕ
z t I q Q ys i =
    steps I q i (digit t Q i) (chain_length t - digit t Q i) (part ys (32 * i) 32)

-- Kc, the candidate for K that follows from a message and its LM-OTS signature, type || C || ys
-- (4.6, algorithm 4b)
unfoldable pub Kc : OtsType → List ℕ → ℕ → List ℕ → List ℕ → List ℕ
Kc t I q message signature = sha256 (I ++ u32str q ++ u16str d_pblc
    ++ joined (z t I q (Q I q (part signature 4 32) message) (drop 36 signature)) (digit_count t))
