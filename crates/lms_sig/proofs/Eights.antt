-- Chains by the lanes' words, and by the definition's.
use Rattle.std.proofs.lemmas.Bool.{cases_eq}
use Rattle.std.proofs.lemmas.List.{get_or-set_other, get_or-set_same}
use Rattle.std.proofs.Common.{◌≡◌, ℕ, zero, suc, ◌+◌, ◌-◌, ◌<◌, ◌≤◌, ◌⊎◌, ⊎_elim, inl, inr, get_or, slice_index, replicate, set, subst, List, [], ◌∷◌, ◌++◌, ◌∙◌, length, refl, sym, ap, append_assoc, arith}
use Rattle.sha2.specs.Sha256.{sha256}
use Rattle.sha_lanes.specs.Lanes.{chained}
use Rattle.lms_sig.specs.OneTime.{chain_end, step, steps, x}
use Rattle.lms_sig.specs.Strings.{u16str, u32str, u8str}
use Rattle.lms_sig.specs.Parameters.{chain_length, digit_count}
use Rattle.lms_sig.specs.declared.params.OtsType.{OtsType}
use Rattle.lms_sig.specs.declared.params.OtsType.TheVariants.{W4, W8}

-- a chain by the lanes' words is the definition's
pub chained_is : (I : List ℕ) (q i j n : ℕ) (tmp : List ℕ) → chained (I ++ u32str q ++ u16str i) j n tmp ≡ steps I q i j n tmp
unfolding chained step steps u8str
chained_is I q i j zero tmp = refl
chained_is I q i j (suc n) tmp =
    let p = I ++ u32str q ++ u16str i in
    ap (λ d. sha256 (p ++ (j + n) ∷ d)) (chained_is I q i j n tmp) ∙ ap sha256 (sym (append_assoc p ((j + n) ∷ []) (steps I q i j n tmp)))

-- a chain from its secret start to its end, by the lanes' words
pub end_is : (t : OtsType) (SEED I : List ℕ) (q i : ℕ) (start end : List ℕ) → start ≡ sha256 (I ++ u32str q ++ u16str i ++ 0xff ∷ SEED) →
    end ≡ chained (I ++ u32str q ++ u16str i) 0 (chain_length t - 0) start → end ≡ chain_end t SEED I q i
unfolding chain_end u8str x
end_is t SEED I q i start end es ee =
    let p = I ++ u32str q ++ u16str i in
    let first : start ≡ x SEED I q i = es ∙ ap sha256 (sym (append_assoc p (0xff ∷ []) SEED)) in
    let none : chain_length t - 0 ≡ chain_length t = omega arith in
    rw (none, first) at ee ∙ chained_is I q i 0 (chain_length t) (x SEED I q i)

-- one place more of a list that is filled from the front
pub filled : {X : Type 0} (P : ℕ → X → Type 0) (xs : List X) (l n : ℕ) (x d : X) → length xs ≡ n → l < n →
    ((j : ℕ) → j < l → P j (get_or xs j d)) → P l x → (j : ℕ) → j < l + 1 → P j (get_or (set xs l x) j d)
filled P xs l n x d len room before here j below =
    elim (cases_eq j l) [
      | inl e ↦ subst (λ k. P k (get_or (set xs l x) k d)) (sym e) (subst (P l) (sym (get_or-set_same xs l x d (omega arith))) here)
      | inr other ↦ subst (P j) (sym (get_or-set_other xs l j x d other)) (before j (omega arith))
    ]

-- a value put at i, which is right there
pub put_right : (E : ℕ → List ℕ) (xs : List (List ℕ)) (i n : ℕ) (v : List ℕ) → i < length xs → v ≡ E i →
    (get_or xs n [] ≡ E n) ⊎ (n ≡ i) → get_or (set xs i v) n [] ≡ E n
put_right E xs i n v room right known =
    elim (cases_eq n i) [
      | inl e ↦ subst (λ k. get_or (set xs i v) k [] ≡ E k) (sym e) (get_or-set_same xs i v [] room ∙ right)
      | inr other ↦ get_or-set_other xs i n v [] other ∙ ⊎_elim (λ e. e) (λ e. absurd (other e)) known
    ]

-- zeros are zeros, also past the end
pub zero_at : (n j : ℕ) → slice_index (replicate n 0) j ≡ 0
zero_at zero j = refl
zero_at (suc n) zero = refl
zero_at (suc n) (suc j) = zero_at n j

-- all chains have room
pub digit_count-le : (t : OtsType) → digit_count t ≤ 72
digit_count-le W4 = omega arith
digit_count-le W8 = omega arith
