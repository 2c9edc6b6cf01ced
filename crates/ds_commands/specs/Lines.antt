-- The lines of an input.
use Rattle.std.specs.Prelude.{◌≡◌, ℕ, ◌+◌, ◌==◌, List, [], ◌∷◌, take, drop, position, Option, Some, None, Result, Ok, Err}
use Rattle.std.specs.Result.{result_ok}
use Rattle.hex.specs.Hex.{decode_of, decode_sized}
use Rattle.ds_commands.specs.declared.lines.LineFault.{LineFault}
use Rattle.ds_commands.specs.declared.lines.LineFault.TheVariants.{Line, NoMemory}

infixl 10 ◌>>=◌
abbrev pub ◌>>=◌ : {A B : Type 0} → Result A ℕ → (A → Result B ℕ) → Result B ℕ
(Ok x) >>= f = f x
(Err line) >>= f = Err line

-- the place of the first line feed
abbrev pub feed : List ℕ → Option ℕ
feed input = position (λ byte. byte == 10) input

-- the first line, and what follows its line feed, if it has one
abbrev pub cut_at : Option ℕ → List ℕ → List ℕ × Option (List ℕ)
cut_at None input = (input, None)
cut_at (Some place) input = (take place input, Some (drop (place + 1) input))

abbrev pub cut : List ℕ → List ℕ × Option (List ℕ)
cut input = cut_at (feed input) input

-- so many bytes in hex
abbrev pub bytes_in : ℕ → List ℕ → Option (List ℕ)
bytes_in count line = result_ok (decode_sized line count)

-- any number of bytes in hex
abbrev pub some_bytes_in : List ℕ → Option (List ℕ)
some_bytes_in line = result_ok (decode_of line)

-- what a line holds, or the number of the line
abbrev pub or_line : {A : Type 0} → ℕ → Option A → Result A ℕ
or_line number (Some x) = Ok x
or_line number None = Err number

-- a line that is last, with or without a line feed: what follows it is a faulty line
abbrev pub last_line : {A : Type 0} → ℕ → A → Option (List ℕ) → Result A ℕ
last_line number x None = Ok x
last_line number x (Some []) = Ok x
last_line number x (Some (byte ∷ rest)) = Err (number + 1)

-- a line that a line feed ends; one without is missing
abbrev pub ended_line : List ℕ × Option (List ℕ) → Option (List ℕ × List ℕ)
ended_line (line, None) = None
ended_line (line, Some rest) = Some (line, rest)

-- THE LINES OF EACH COMMAND: what they hold, or the number of the first faulty line

-- a secret
abbrev pub secret_alone : List ℕ → Result (List ℕ) ℕ
secret_alone input = or_line 0 (bytes_in 32 (cut input).0) >>= λ secret. last_line 0 secret (cut input).1

-- a line of so many bytes that a line feed ends, and what follows
abbrev pub hex_line : (number : ℕ) → (List ℕ → Option (List ℕ)) → List ℕ → Result (List ℕ × List ℕ) ℕ
hex_line number read input =
    or_line number (ended_line (cut input)) >>= λ line.
    or_line number (read line.0) >>= λ bytes.
    Ok (bytes, line.1)

-- a secret, and the message
abbrev pub secret_and_message : List ℕ → Result (List ℕ × List ℕ) ℕ
secret_and_message input = hex_line 0 (bytes_in 32) input

-- a key, a signature, and the message
abbrev pub signed_message : List ℕ → Result (List ℕ × List ℕ × List ℕ) ℕ
signed_message input =
    hex_line 0 (bytes_in 56) input >>= λ key.
    hex_line 1 some_bytes_in key.1 >>= λ signature.
    Ok (key.0, signature.0, signature.1)

-- What a function of the code answered, seen by view, is what the lines give, unless memory ran out.
abbrev pub Fails : {Y : Type 0} → LineFault → Result Y ℕ → Type 0
Fails NoMemory read = Unit {0}
Fails (Line number) read = read ≡ Err number

abbrev pub Gives : {X Y : Type 0} → (X → Y) → Result X LineFault → Result Y ℕ → Type 0
Gives view (Ok x) read = read ≡ Ok (view x)
Gives view (Err e) read = Fails e read
