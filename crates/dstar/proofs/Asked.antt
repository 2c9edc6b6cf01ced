-- No words ask both for a call that reads its input and for `gen`.
use Rattle.std.proofs.Common.{◌≡◌, ◌∙◌, ℕ, List, [], ◌∷◌, Bool, true, false, Option, Some, None, refl, sym, ap, subst}
use Rattle.std.specs.Prelude.{codes, ◌^◌, ◌-◌, if◌then◌else◌}
use Rattle.std.proofs.lemmas.Slice.Eq.{bytes_eq-Decides}
use Rattle.ds_commands.specs.declared.command.Command.TheVariants.{Chain}
use Rattle.ds_commands.specs.Words.{timed, number_in, ◌>>=◌}
use Rattle.dstar.specs.declared.call.Call.{Call}
use Rattle.dstar.specs.Words.{same_text, small, from_one, call_in, gen_in}

-- a word that is `gen` isn't `chain`
not_chain : (word : List ℕ) → same_text word (codes "gen") ≡ true → same_text word (codes "chain") ≡ false
not_chain word is = subst (λ w. same_text w (codes "chain") ≡ false) (sym ((bytes_eq-Decides word (codes "gen")).0 is)) refl

nothing : (word : List ℕ) (moment : Option ℕ) → same_text word (codes "chain") ≡ false → (moment >>= timed word) ≡ None
nothing word None is = refl
nothing word (Some m) is = ap (λ b. if b then Some (Chain (Some m)) else None) is

by_word : (word number : List ℕ) (b : Bool) → same_text word (codes "gen") ≡ b → (n : ℕ) (call : Call)
    → (if b then from_one (number_in 1000 number) else None) ≡ Some n → call_in (word ∷ number ∷ []) ≡ Some call → ⊥
by_word word number false is n call asked e = let clash : None ≡ Some n = asked in absurd cc
by_word word number true is n call asked e =
    let none : call_in (word ∷ number ∷ []) ≡ None = ap small (nothing word (number_in (2 ^ 64 - 1) number) (not_chain word is)) in
    let clash : None ≡ Some call = sym none ∙ e in absurd cc

pub not_both : (words : List (List ℕ)) (n : ℕ) (call : Call) → gen_in words ≡ Some n → call_in words ≡ Some call → ⊥
not_both [] n call asked e = let clash : None ≡ Some n = asked in absurd cc
not_both (word ∷ []) n call asked e = let clash : None ≡ Some n = asked in absurd cc
not_both (word ∷ number ∷ []) n call asked e = by_word word number (same_text word (codes "gen")) refl n call asked e
not_both (word ∷ number ∷ other ∷ others) n call asked e = let clash : None ≡ Some n = asked in absurd cc
