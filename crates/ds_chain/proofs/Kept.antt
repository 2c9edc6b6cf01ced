-- Answers that are kept, and the list, through each change.
use Rattle.std.proofs.Common.{◌≡◌, ℕ, ◌⊎◌, Bool, true, false, List, [], Contains, refl, sym, subst, inl, inr}
use Rattle.std.specs.Prelude.{Option, Some, None, Result, Ok, Err, IfOk, IfSome, if◌then◌else◌}
use Rattle.std.specs.declared.alloc.AllocError.{AllocError}
use Rattle.lru.proofs.Splits.{Contains-nil}
use Rattle.ds_cert.specs.declared.delegation.Delegation.{Delegation}
use Rattle.ds_chain.specs.declared.question.Question.{Question}
use Rattle.ds_chain.specs.Answers.{AreAnswers, category_of, key_of}
use Rattle.ds_chain.specs.Delegated.{chain_to}

pub no_answers : (certs : List Delegation) (moment : ℕ) (entries : List (Question × Option (List ℕ))) → entries ≡ [] → AreAnswers certs moment entries
no_answers certs moment entries e entry there = absurd (Contains-nil entry (subst (λ es. Contains es entry) e there))

-- fewer answers
pub fewer_answers : (certs : List Delegation) (moment : ℕ) (old new : List (Question × Option (List ℕ)))
    → ((entry : Question × Option (List ℕ)) → Contains new entry → Contains old entry) → AreAnswers certs moment old → AreAnswers certs moment new
fewer_answers certs moment old new fewer are entry there = are entry (fewer entry there)

-- the same at another moment, where those that stay are of this one
pub answers_turned : (certs : List Delegation) (before now : ℕ) (stay : Bool) (old new : List (Question × Option (List ℕ)))
    → new ≡ (if stay then old else []) → (stay ≡ true → before ≡ now) → AreAnswers certs before old → AreAnswers certs now new
answers_turned certs before now true old new e same are = subst (AreAnswers certs now) (sym e) (subst (λ m. AreAnswers certs m old) (same refl) are)
answers_turned certs before now false old new e same are = no_answers certs now new e

-- one answer more
pub one_answer_more : (certs : List Delegation) (moment : ℕ) (old new : List (Question × Option (List ℕ))) (q : Question) (a : Option (List ℕ))
    → a ≡ chain_to certs moment (category_of q) (key_of q)
    → ((entry : Question × Option (List ℕ)) → Contains new entry → Contains old entry ⊎ (entry ≡ (q, a))) → AreAnswers certs moment old → AreAnswers certs moment new
one_answer_more certs moment old new q a is more are entry there = go (more entry there)
  where
    go : Contains old entry ⊎ (entry ≡ (q, a)) → entry.1 ≡ chain_to certs moment (category_of entry.0) (key_of entry.0)
    go (inl before) = are entry before
    go (inr e) = subst (λ (x : Question × Option (List ℕ)). x.1 ≡ chain_to certs moment (category_of x.0) (key_of x.0)) (sym e) is

-- what was found is the definition's
pub found_answer : (certs : List Delegation) (moment now : ℕ) (entries : List (Question × Option (List ℕ))) (q : Question) → AreAnswers certs moment entries → moment ≡ now
    → (result : Result (Option (Option (List ℕ))) AllocError) → IfOk result (λ found. IfSome found (λ answer. Contains entries (q, answer)))
    → IfOk result (λ found. IfSome found (λ answer. answer ≡ chain_to certs now (category_of q) (key_of q)))
found_answer certs moment now entries q are same (Err e) p = tt
found_answer certs moment now entries q are same (Ok None) p = tt
found_answer certs moment now entries q are same (Ok (Some answer)) p =
    subst (λ m. answer ≡ chain_to certs m (category_of q) (key_of q)) same (are (q, answer) p)
