-- Answers that are kept: to each question the chain that the definition gives.
use Rattle.std.specs.Prelude.{◌≡◌, ℕ, List, Option, Contains, Bool, is_some, if◌then◌else◌}
use Rattle.ds_label.specs.declared.category.PubKey.{PubKey}
use Rattle.ds_label.specs.declared.category.Category.{Category}
use Rattle.ds_label.specs.declared.category.Kind.TheVariants.{Secrecy, Integrity}
use Rattle.ds_cert.specs.declared.delegation.Delegation.{Delegation}
use Rattle.ds_chain.specs.declared.question.Question.{Question}
use Rattle.ds_chain.specs.Delegated.{chain_to}

-- the category that the question asks of
abbrev pub category_of : Question → Category
category_of q = record { creator = record { 0 = q.creator }; kind = if q.secret then Secrecy else Integrity; number = q.number }

-- the key that it asks of
abbrev pub key_of : Question → PubKey
key_of q = record { 0 = q.key }

-- Each answer is the definition's for these delegations at that moment.
abbrev pub AreAnswers : List Delegation → ℕ → List (Question × Option (List ℕ)) → Type 0
AreAnswers certs moment entries = (entry : Question × Option (List ℕ)) → Contains entries entry → entry.1 ≡ chain_to certs moment (category_of entry.0) (key_of entry.0)

-- One of the answers is the question's, and it is a chain exactly where that is said.
pub record HasHeld (entries : List (Question × Option (List ℕ))) (q : Question) (held : Bool) : Type 0 where
  pub answer : Option (List ℕ)
  pub there : Contains entries (q, answer)
  pub told : held ≡ is_some answer
