-- A cached answer says who holds.
use Rattle.std.proofs.Common.{◌≡◌, ℕ, Bool, List, [], ◌++◌, sym, ap, ◌∙◌, append-nil}
use Rattle.std.specs.Prelude.{is_some}
use Rattle.ds_label.specs.declared.category.PubKey.{PubKey}
use Rattle.ds_label.specs.declared.category.Category.{Category}
use Rattle.ds_cert.specs.declared.delegation.Delegation.{Delegation}
use Rattle.ds_chain.specs.Delegated.{chain_to, hops_of_list, key_holds}
use Rattle.ds_chain.specs.Keys.{same_key}
use Rattle.ds_chain.proofs.Numbered.{same_key_is}
use Rattle.ds_chain.proofs.Shortest.{holds_given}

-- whether the cached answer to the question is a chain says whether the key holds by the list, behind which nothing stands
pub held_holds : (certs more : List Delegation) (moment : ℕ) (category asked : Category) (key other : PubKey) (held : Bool)
    → more ≡ [] → asked ≡ category → other ≡ key → held ≡ is_some (chain_to certs moment asked other) → held ≡ key_holds (certs ++ more) moment category key
held_holds certs more moment category asked key other held none e f told =
    told
    ∙ (λ i. is_some (chain_to certs moment (e i) (f i)))
    ∙ sym (holds_given same_key same_key_is (hops_of_list moment category certs) key category.creator)
    ∙ ap (λ (all : List Delegation). key_holds all moment category key) (sym (append-nil certs) ∙ ap (λ (ms : List Delegation). certs ++ ms) (sym none))
