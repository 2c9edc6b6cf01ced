-- The parameter sets (RFC 8554, sections 4.1 and 5.1). The hash is SHA-256, so n = m = 32.
use Rattle.std.specs.Prelude.{ℕ, ◌+◌, ◌-◌, ◌*◌, ◌^◌, ◌==◌, Option, Some, None, if◌then◌else◌}
use Rattle.lms_sig.specs.declared.params.LmsType.{LmsType}
use Rattle.lms_sig.specs.declared.params.LmsType.TheVariants.{H5, H10}
use Rattle.lms_sig.specs.declared.params.OtsType.{OtsType}
use Rattle.lms_sig.specs.declared.params.OtsType.TheVariants.{W4, W8}
use Rattle.lms_sig.specs.declared.params.Params.{Params}

-- the typecodes of LMS_SHA256_M32_H5 and LMS_SHA256_M32_H10, and the heights h of their trees (5.1)
abbrev pub lms_code : LmsType → ℕ
lms_code H5 = 5
lms_code H10 = 6

abbrev pub height : LmsType → ℕ
height H5 = 5
height H10 = 10

-- the typecodes of LMOTS_SHA256_N32_W4 and LMOTS_SHA256_N32_W8, and their w, p and ls (4.1)
abbrev pub ots_code : OtsType → ℕ
ots_code W4 = 3
ots_code W8 = 4

abbrev pub width : OtsType → ℕ
width W4 = 4
width W8 = 8

abbrev pub digit_count : OtsType → ℕ
digit_count W4 = 67
digit_count W8 = 34

abbrev pub left_shift : OtsType → ℕ
left_shift W4 = 4
left_shift W8 = 0

-- how many steps a whole chain has: 2^w - 1
abbrev pub chain_length : OtsType → ℕ
chain_length t = 2 ^ width t - 1

-- how many leaves a tree has: 2^h
abbrev pub leaf_count : LmsType → ℕ
leaf_count lms = 2 ^ height lms

-- the bytes of an LM-OTS signature: typecode, C, and the y (4.5)
abbrev pub ots_length : OtsType → ℕ
ots_length t = 36 + 32 * digit_count t

-- the bytes of an LMS signature: q, an LM-OTS signature, typecode, and the path (5.4)
abbrev pub signature_length : Params → ℕ
signature_length params = 8 + ots_length params.ots + 32 * height params.lms

-- the types that a typecode names; every other typecode is unknown here
abbrev pub lms_type : ℕ → Option LmsType
lms_type code = if code == 5 then Some H5 else if code == 6 then Some H10 else None

abbrev pub ots_type : ℕ → Option OtsType
ots_type code = if code == 3 then Some W4 else if code == 4 then Some W8 else None

abbrev pub both_types : Option LmsType → Option OtsType → Option Params
both_types (Some lms) (Some ots) = Some (record { lms = lms; ots = ots })
both_types (Some lms) None = None
both_types None ots = None
