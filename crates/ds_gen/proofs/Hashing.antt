-- SHA-256 of one block in one pass, so that it computes: each step takes the words and variables before it as they are.
use Rattle.std.proofs.Common.{◌≡◌, refl, ap, ◌∙◌, arith}
use Rattle.std.specs.Prelude.{ℕ, zero, suc, ◌+◌, List, [], ◌∷◌, ◌++◌, slice_index}
use Rattle.sha2.specs.Sha256.{schedule, first_words, next_word, rounds, round, round_constants, compress, add_state}

abbrev pub words_from : (steps k : ℕ) → List ℕ → List ℕ
words_from zero k w = w
words_from (suc n) k w = words_from n (suc k) (w ++ next_word w (k + 16) ∷ [])

abbrev pub rounds_from : (steps t : ℕ) → (words variables : List ℕ) → List ℕ
rounds_from zero t w v = v
rounds_from (suc n) t w v = rounds_from n (suc t) w (round v (slice_index round_constants t) (slice_index w t))

words_are : (b : List ℕ) (n k : ℕ) → schedule b (n + k) ≡ words_from n k (schedule b k)
unfolding schedule
words_are b zero k = let same : zero + k ≡ k = omega arith in ap (schedule b) same
words_are b (suc n) k = let same : suc n + k ≡ n + suc k = omega arith in ap (schedule b) same ∙ words_are b n (suc k)

rounds_are : (v w : List ℕ) (n t : ℕ) → rounds v w (n + t) ≡ rounds_from n t w (rounds v w t)
unfolding rounds
rounds_are v w zero t = let same : zero + t ≡ t = omega arith in ap (rounds v w) same
rounds_are v w (suc n) t = let same : suc n + t ≡ n + suc t = omega arith in ap (rounds v w) same ∙ rounds_are v w n (suc t)

abbrev pub one_pass : List ℕ → List ℕ → List ℕ
one_pass h b = add_state h (rounds_from 64 0 (words_from 48 0 (first_words b 16)) h)

pub in_one_pass : (h b : List ℕ) → compress h b ≡ one_pass h b
unfolding compress rounds schedule
in_one_pass h b = ap (add_state h) (rounds_are h (schedule b 48) 64 0 ∙ ap (λ w. rounds_from 64 0 w h) (words_are b 48 0))
