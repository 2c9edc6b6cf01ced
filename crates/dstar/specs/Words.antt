-- The forms of the program's words.
use Rattle.std.specs.Prelude.{ℕ, List, [], ◌∷◌, map, codes, Bool, false, ◌&&◌, String, string_bytes, nat_eq, nat_le, if◌then◌else◌, Option, Some, None}
use Rattle.std.specs.declared.alloc.Global.{Global}
use Rattle.std.specs.Cmp.Lexicographic.{pointwise}
use Rattle.ds_commands.specs.Words.{command_in, number_in}
use Rattle.ds_commands.specs.declared.command.Command.{Command}
use Rattle.dstar.specs.declared.call.Call.{Call}
use Rattle.dstar.specs.declared.call.Call.TheVariants.{Sim, Small}

abbrev pub same_text : List ℕ → List ℕ → Bool
same_text first second = pointwise nat_eq first second

-- the words as texts
abbrev pub texts : List (String Global) → List (List ℕ)
texts words = map string_bytes words

-- `sim` alone
abbrev pub is_sim : List (List ℕ) → Bool
is_sim [] = false
is_sim (word ∷ []) = same_text word (codes "sim")
is_sim (word ∷ other ∷ others) = false

-- one of the small commands
abbrev pub small : Option Command → Option Call
small None = None
small (Some command) = Some (Small command)

-- the call that these words ask for: `sim`, or a small command
abbrev pub call_in : List (List ℕ) → Option Call
call_in words = if is_sim words then Some Sim else small (command_in words)

-- ---- words for which nothing is read

-- a number from 1 to 1,000
abbrev pub from_one : Option ℕ → Option ℕ
from_one None = None
from_one (Some number) = if nat_le 1 number && nat_le number 1000 then Some number else None

-- the number of `gen N`
abbrev pub gen_in : List (List ℕ) → Option ℕ
gen_in [] = None
gen_in (word ∷ []) = None
gen_in (word ∷ number ∷ []) = if same_text word (codes "gen") then from_one (number_in 1000 number) else None
gen_in (word ∷ number ∷ other ∷ others) = None
