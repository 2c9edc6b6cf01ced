-- What a running host signs of its own.
use Rattle.std.proofs.Common.{◌≡◌, ℕ, false, List, [], ◌∷◌, Some, None, refl, ◌∙◌, ap}
use Rattle.lms_sig.specs.declared.params.Params.{Params}
use Rattle.lms_sig.specs.Merkle.{public_key}
use Rattle.lms_state.specs.Signers.{Signing}
use Rattle.ds_plan.specs.declared.host.HostSpec.{HostSpec}
use Rattle.ds_plan.specs.declared.host.Secret.{Secret}
use Rattle.ds_plan.specs.declared.host.Secret.TheVariants.{Seed, Key as Public}
use Rattle.ds_plan.specs.Keys.{identity_of, host_key, key_of}
use Rattle.ds_plan.specs.Documents.{is_silent}
use Rattle.ds_setup.specs.Starts.{own_address}
use Rattle.ds_boot.specs.Signers.{identity_tree, signing_at, tree_or_none}
use Rattle.ds_boot.specs.Signing.{address_by}

-- the own address certificate is signed at leaf 0
pub own_address_is : (identity : Params) (s : Secret) (text : List ℕ) → is_silent s ≡ false →
    address_by (signing_at 0 (tree_or_none (identity_of identity s))) (record { 0 = public_key (tree_or_none (identity_of identity s)).params (tree_or_none (identity_of identity s)).seed (tree_or_none (identity_of identity s)).id }) text ∷ []
    ≡ own_address identity s (Some text)
own_address_is identity (Seed secret) text runs = refl
own_address_is identity (Public key) text runs = absurd cc

pub no_address_is : (identity : Params) (s : Secret) → own_address identity s None ≡ []
no_address_is identity (Seed secret) = refl
no_address_is identity (Public key) = refl

-- a running host's public key is its identity key's
pub running_key : (identity : Params) (s : Secret) → is_silent s ≡ false →
    record { 0 = public_key (tree_or_none (identity_of identity s)).params (tree_or_none (identity_of identity s)).seed (tree_or_none (identity_of identity s)).id } ≡ key_of identity s
running_key identity (Seed secret) runs = refl
running_key identity (Public key) runs = absurd cc

-- what a signer of that key shows
pub key_shown : (h : HostSpec) (leaf : ℕ) (signing : Signing) (shown : List ℕ) → is_silent h.secret ≡ false → signing ≡ signing_at leaf (identity_tree h) → shown ≡ public_key signing.key.params signing.key.seed signing.key.id → record { 0 = shown } ≡ host_key h
key_shown h leaf signing shown runs is e =
    ap (λ (bytes : List ℕ). record { 0 = bytes }) (e ∙ ap (λ (s : Signing). public_key s.key.params s.key.seed s.key.id) is) ∙ running_key h.identity h.secret runs
