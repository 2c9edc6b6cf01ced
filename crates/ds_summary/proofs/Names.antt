-- The rules' names by their numbers.
use Rattle.std.proofs.Common.{◌≡◌, ◌∙◌, refl, sym, ap, ℕ, zero, suc, ◌+◌, ◌-◌, ◌<◌, ◌≤◌, List, [], ◌∷◌, ◌++◌, drop, get_or, length, arith, append_assoc}
use Rattle.ds_label.specs.declared.rule.Rule.{Rule}
use Rattle.ds_label.specs.declared.rule.Rule.TheVariants.{NotFlow, GrantNotOwned, ClearNotHeld, NoLane, NoAddress, PeerNotTrusted, LaneFull, LaneLapsed, WrongHost, WrongLabel, SenderNotTrusted, NotKnown, NoBox, NotFlowToBox, BoxFull, NotFlowToTaker, LabelRefused, NotPublic, NotHeld, KeySpent, BadCert, StoreFull, TableFull, TooLong, TooMany, Stale}
use Rattle.ds_label.specs.Rules.{rule_name, rule_number}
use Rattle.ds_summary.specs.declared.counted.Counted.{Counted}
use Rattle.ds_summary.specs.declared.counted.Counted.TheVariants.{Refused}
use Rattle.ds_summary.specs.Summaries.{rule_line, rule_lines, rule_names}

pub named : (rule : Rule) → get_or rule_names (rule_number rule - 1) [] ≡ rule_name rule
named NotFlow = refl
named GrantNotOwned = refl
named ClearNotHeld = refl
named NoLane = refl
named NoAddress = refl
named (PeerNotTrusted c) = refl
named LaneFull = refl
named LaneLapsed = refl
named WrongHost = refl
named WrongLabel = refl
named (SenderNotTrusted c) = refl
named (NotKnown c) = refl
named NoBox = refl
named NotFlowToBox = refl
named BoxFull = refl
named NotFlowToTaker = refl
named LabelRefused = refl
named NotPublic = refl
named NotHeld = refl
named KeySpent = refl
named BadCert = refl
named StoreFull = refl
named TableFull = refl
named TooLong = refl
named TooMany = refl
named Stale = refl

past_end : (names : List (List ℕ)) (n : ℕ) → length names ≤ n → get_or names n [] ≡ []
past_end [] n le = refl
past_end (name ∷ names) zero le = absurd (omega (arith, le))
past_end (name ∷ names) (suc n) le = past_end names n (omega (arith, le))

-- there is no rule behind the last
pub no_name : (number : ℕ) → 27 ≤ number → get_or rule_names (number - 1) [] ≡ []
no_name number high = past_end rule_names (number - 1) (omega (arith, high))

-- the lines from a rule on are its own and those of the later ones
lines_from : (times : Counted → ℕ) (number place : ℕ) (names : List (List ℕ)) → place < length names
    → rule_lines times number (drop place names) ≡ rule_line (get_or names place []) (times (Refused number)) ++ rule_lines times (suc number) (drop (suc place) names)
lines_from times number place [] lt = absurd (omega (arith, lt))
lines_from times number zero (name ∷ names) lt = refl
lines_from times number (suc place) (name ∷ names) lt = lines_from times number place names (omega (arith, lt))

pub one_rule : (times : Counted → ℕ) (number : ℕ) (start before after : List ℕ) → 1 ≤ number → number < 27
    → start ≡ before ++ rule_lines times number (drop (number - 1) rule_names)
    → after ≡ before ++ rule_line (get_or rule_names (number - 1) []) (times (Refused number))
    → start ≡ after ++ rule_lines times (number + 1) (drop (number + 1 - 1) rule_names)
one_rule times number start before after low high all now =
    let next : suc (number - 1) ≡ number + 1 - 1 = omega (arith, low) in
    let more : suc number ≡ number + 1 = omega arith in
    all
    ∙ ap (λ text. before ++ text) (lines_from times number (number - 1) rule_names (omega (arith, low, high)))
    ∙ sym (append_assoc before (rule_line (get_or rule_names (number - 1) []) (times (Refused number))) (rule_lines times (suc number) (drop (suc (number - 1)) rule_names)))
    ∙ (λ i. sym now i ++ rule_lines times (more i) (drop (next i) rule_names))
