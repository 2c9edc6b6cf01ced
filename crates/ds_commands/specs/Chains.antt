-- Chains of certificates from lines: the category, the key, and then delegations, in hex.
use Rattle.std.specs.Prelude.{ℕ, suc, ◌==◌, List, [], ◌∷◌, ◌++◌, codes, decimal, length, nat_lt, if◌then◌else◌, Option, Some, None}
use Rattle.std.specs.List.{flat_map}
use Rattle.std.specs.Result.{result_ok}
use Rattle.ds_label.specs.declared.category.PubKey.{PubKey}
use Rattle.ds_label.specs.declared.category.Category.{Category}
use Rattle.ds_cert.specs.declared.delegation.Delegation.{Delegation}
use Rattle.ds_cert.specs.Categories.{category_in}
use Rattle.ds_cert.specs.NoDoubles.{is_kept}
use Rattle.ds_cert.specs.Reading.{read_delegation}
use Rattle.ds_chain.specs.Delegated.{chain_to}
use Rattle.ds_commands.specs.declared.reply.Reply.{Reply}
use Rattle.ds_commands.specs.declared.reply.Reply.TheVariants.{Prints, Denies, Breaks}
use Rattle.ds_commands.specs.Lines.{bytes_in, some_bytes_in}
use Rattle.ds_commands.specs.Words.{◌>>=◌}

-- the lines, each without its line feed; none follows the last line feed
abbrev pub before_line : ℕ → List (List ℕ) → List (List ℕ)
before_line byte [] = (byte ∷ []) ∷ []
before_line byte (line ∷ lines) = (byte ∷ line) ∷ lines

unfoldable pub lines_of : List ℕ → List (List ℕ)
lines_of [] = []
lines_of (byte ∷ rest) = if byte == 10 then [] ∷ lines_of rest else before_line byte (lines_of rest)

-- WHAT A LINE HOLDS

-- the category that bytes spell, with nothing after it
abbrev pub category_alone : Option (Category × List ℕ) → Option Category
category_alone (Some (category, [])) = Some category
category_alone (Some (category, byte ∷ rest)) = None
category_alone None = None

abbrev pub category_line : List ℕ → Option Category
category_line line = bytes_in 65 line >>= λ bytes. category_alone (category_in bytes)

abbrev pub key_in : List ℕ → Option PubKey
key_in bytes = Some (record { 0 = bytes })

abbrev pub key_line : List ℕ → Option PubKey
key_line line = bytes_in 56 line >>= key_in

abbrev pub delegation_line : List ℕ → Option Delegation
delegation_line line = some_bytes_in line >>= λ bytes. result_ok (read_delegation bytes)

-- THE DELEGATIONS, each once, in the order of their first lines

-- what the lines gave: the delegations and the first faulty line, or the line of the 257th different delegation
pub data Scan : Type 0 where
  Kept : List Delegation → (faulty : Option ℕ) → Scan
  Over : (line : ℕ) → Scan

-- the first faulty line
abbrev pub or_first : Option ℕ → ℕ → Option ℕ
or_first None line = Some line
or_first (Some first) line = Some first

-- what was found after a line
abbrev pub joined : (line : ℕ) → Option Delegation → List Delegation → Option ℕ → Scan
joined line None kept faulty = Kept kept (or_first faulty line)
joined line (Some new) kept faulty =
    if is_kept new kept then Kept kept faulty
    else if nat_lt (length kept) 256 then Kept (kept ++ new ∷ []) faulty
    else Over line

-- what further lines do, from this line on; after the 257th delegation, nothing
abbrev pub next_line : (line : ℕ) → List ℕ → Scan → Scan
next_line line text (Kept kept faulty) = joined line (delegation_line text) kept faulty
next_line line text (Over place) = Over place

abbrev pub scan : (line : ℕ) → Scan → List (List ℕ) → Scan
scan line found [] = found
scan line found (text ∷ texts) = scan (suc line) (next_line line text found) texts

-- THE ANSWER

-- the places, a space before each but the first
abbrev pub after_space : ℕ → List ℕ
after_space place = codes " " ++ decimal place

abbrev pub spaced : List ℕ → List ℕ
spaced [] = []
spaced (place ∷ places) = decimal place ++ flat_map after_space places

abbrev pub found_text : List ℕ → List ℕ
found_text chain = codes "holds " ++ decimal (length chain) ++ codes "\n" ++ spaced chain ++ codes "\n"

abbrev pub found : Option (List ℕ) → Reply
found None = Denies (codes "none\n")
found (Some chain) = Prints (found_text chain)

-- the 257th different delegation comes before any faulty line
abbrev pub searched : (moment : ℕ) → Option Category → Option PubKey → Scan → Reply
searched moment category key (Over line) = Breaks 5 line
searched moment None key (Kept kept faulty) = Breaks 12 0
searched moment (Some category) None (Kept kept faulty) = Breaks 12 1
searched moment (Some category) (Some key) (Kept kept (Some line)) = Breaks 12 line
searched moment (Some category) (Some key) (Kept kept None) = found (chain_to kept moment category key)

-- a category alone lacks its key
abbrev pub key_missing : Option Category → Reply
key_missing None = Breaks 12 0
key_missing (Some category) = Breaks 12 1

abbrev pub judge_lines : (moment : ℕ) → List (List ℕ) → Reply
judge_lines moment [] = Breaks 12 0
judge_lines moment (category ∷ []) = key_missing (category_line category)
judge_lines moment (category ∷ key ∷ texts) = searched moment (category_line category) (key_line key) (scan 2 (Kept [] None) texts)

abbrev pub chain_reply : (moment : ℕ) → List ℕ → Reply
chain_reply moment input = judge_lines moment (lines_of input)

-- what the code has of a scan
abbrev pub scan_of : List Delegation → (faulty over : Option ℕ) → Scan
scan_of kept faulty (Some line) = Over line
scan_of kept faulty None = Kept kept faulty
