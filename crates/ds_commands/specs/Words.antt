-- The words of the commands that answer from one key, one signature, or one list of certificates.
use Rattle.std.specs.Prelude.{ℕ, ◌^◌, ◌-◌, List, [], ◌∷◌, codes, Bool, false, ◌&&◌, nat_le, nat_lt, nat_eq, if◌then◌else◌, Option, Some, None}
use Rattle.std.specs.Cmp.Lexicographic.{pointwise}
use Rattle.std.specs.List.{list_all}
use Rattle.std.specs.Str.Parse.{digits_value}
use Rattle.lms_sig.specs.declared.params.LmsType.TheVariants.{H5, H10}
use Rattle.lms_sig.specs.declared.params.OtsType.TheVariants.{W4, W8}
use Rattle.lms_sig.specs.declared.params.Params.{Params}
use Rattle.ds_commands.specs.declared.command.Command.{Command}
use Rattle.ds_commands.specs.declared.command.Command.TheVariants.{Keygen, Sign, Verify, Chain}

infixl 10 ◌>>=◌
abbrev pub ◌>>=◌ : {A B : Type 0} → Option A → (A → Option B) → Option B
(Some x) >>= f = f x
None >>= f = None

abbrev pub same_text : List ℕ → List ℕ → Bool
same_text first second = pointwise nat_eq first second

abbrev pub is_digit : ℕ → Bool
is_digit byte = nat_le 48 byte && nat_le byte 57

-- decimal digits, at least one, and no zero before others
abbrev pub is_decimal : List ℕ → Bool
is_decimal [] = false
is_decimal (digit ∷ []) = is_digit digit
is_decimal (first ∷ second ∷ others) = is_digit first && nat_lt 48 first && list_all is_digit (second ∷ others)

-- the number that a text writes, at most so great
abbrev pub number_in : ℕ → List ℕ → Option ℕ
number_in most text = if is_decimal text && nat_le (digits_value 10 text) most then Some (digits_value 10 text) else None

-- the two types of a key, LMS before LM-OTS
abbrev pub params_in : List ℕ → Option Params
params_in text =
    if same_text text (codes "5.3") then Some (record { lms = H5; ots = W4 })
    else if same_text text (codes "5.4") then Some (record { lms = H5; ots = W8 })
    else if same_text text (codes "6.3") then Some (record { lms = H10; ots = W4 })
    else if same_text text (codes "6.4") then Some (record { lms = H10; ots = W8 })
    else None

-- `keygen` or `sign`
abbrev pub keyed : List ℕ → Params → ℕ → Option Command
keyed word params index =
    if same_text word (codes "keygen") then Some (Keygen params index)
    else if same_text word (codes "sign") then Some (Sign params index)
    else None

-- `verify`, or `chain` at the present moment
abbrev pub alone : List ℕ → Option Command
alone word =
    if same_text word (codes "verify") then Some Verify
    else if same_text word (codes "chain") then Some (Chain None)
    else None

-- `chain` at a moment
abbrev pub timed : List ℕ → ℕ → Option Command
timed word moment = if same_text word (codes "chain") then Some (Chain (Some moment)) else None

-- the command that these words are
abbrev pub command_in : List (List ℕ) → Option Command
command_in [] = None
command_in (word ∷ []) = alone word
command_in (word ∷ moment ∷ []) = number_in (2 ^ 64 - 1) moment >>= timed word
command_in (word ∷ types ∷ index ∷ []) = params_in types >>= λ params. number_in 32 index >>= keyed word params
command_in (word ∷ types ∷ index ∷ other ∷ others) = None
