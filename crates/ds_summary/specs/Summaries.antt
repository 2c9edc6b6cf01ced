-- The summary of a run, a line each: the number for which the document was made, how many events there were, how many messages were
-- queued, framed (by frames), put and taken, for each rule that refused anything how often, by the rules' numbers, and the digest
-- of the run's text.
use Rattle.std.specs.Prelude.{ℕ, suc, List, [], ◌∷◌, ◌++◌, ◌==◌, flat_map, codes, decimal, if◌then◌else◌}
use Rattle.sha2.specs.Sha256.{sha256}
use Rattle.ds_model.specs.Print.{hex_byte}
use Rattle.ds_summary.specs.declared.counted.Counted.{Counted}
use Rattle.ds_summary.specs.declared.counted.Counted.TheVariants.{Queued, Framed, Put, Took, Refused}

-- the rules' names, from that of number 1 on
abbrev pub rule_names : List (List ℕ)
rule_names =
    codes "NotFlow" ∷ codes "GrantNotOwned" ∷ codes "ClearNotHeld" ∷ codes "NoLane" ∷ codes "NoAddress" ∷ codes "PeerNotTrusted"
    ∷ codes "LaneFull" ∷ codes "LaneLapsed" ∷ codes "WrongHost" ∷ codes "WrongLabel" ∷ codes "SenderNotTrusted" ∷ codes "NotKnown"
    ∷ codes "NoBox" ∷ codes "NotFlowToBox" ∷ codes "BoxFull" ∷ codes "NotFlowToTaker" ∷ codes "LabelRefused" ∷ codes "NotPublic"
    ∷ codes "NotHeld" ∷ codes "KeySpent" ∷ codes "BadCert" ∷ codes "StoreFull" ∷ codes "TableFull" ∷ codes "TooLong"
    ∷ codes "TooMany" ∷ codes "Stale" ∷ []

-- a word and a number
abbrev pub number_line : (word : List ℕ) → ℕ → List ℕ
number_line word number = word ++ (decimal number ++ 10 ∷ [])

-- nothing of a rule that refused nothing
abbrev pub rule_line : (name : List ℕ) → (times : ℕ) → List ℕ
rule_line name times = if times == 0 then [] else codes "rule " ++ (name ++ 32 ∷ (decimal times ++ 10 ∷ []))

abbrev pub rule_lines : (Counted → ℕ) → (number : ℕ) → (names : List (List ℕ)) → List ℕ
rule_lines times number [] = []
rule_lines times number (name ∷ names) = rule_line name (times (Refused number)) ++ rule_lines times (suc number) names

abbrev pub head_lines : (number events : ℕ) → List ℕ
head_lines number events = number_line (codes "gen ") number ++ number_line (codes "events ") events

abbrev pub count_lines : (Counted → ℕ) → List ℕ
count_lines times =
    number_line (codes "queued ") (times Queued) ++ (number_line (codes "frames ") (times Framed)
    ++ (number_line (codes "put ") (times Put) ++ number_line (codes "took ") (times Took)))

-- in lower-case hex
abbrev pub digest_line : (text : List ℕ) → List ℕ
digest_line text = codes "sha256 " ++ (flat_map hex_byte (sha256 text) ++ 10 ∷ [])

-- the whole
abbrev pub summary : (number events : ℕ) → (Counted → ℕ) → (text : List ℕ) → List ℕ
summary number events times text =
    head_lines number events ++ (count_lines times ++ (rule_lines times 1 rule_names ++ digest_line text))
