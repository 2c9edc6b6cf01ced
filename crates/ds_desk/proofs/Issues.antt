-- A desk that made a delegation.
use Rattle.std.proofs.Common.{◌≡◌, ℕ, suc, ◌+◌, ◌<◌, List, [], ◌∷◌, ◌++◌, length, Bool, true, false, Option, Some, None, refl, sym, ap, subst, ◌∙◌, arith, add-one}
use Rattle.std.specs.Prelude.{nat_lt}
use Rattle.lms_sig.specs.Keys.{Key}
use Rattle.lms_state.specs.Signers.{leaves_of, one_leaf_on}
use Rattle.ds_label.specs.declared.category.PubKey.{PubKey}
use Rattle.ds_label.specs.declared.category.Category.{Category}
use Rattle.ds_label.specs.declared.rule.Rule.{Rule}
use Rattle.ds_label.specs.declared.rule.Rule.TheVariants.{StoreFull, KeySpent}
use Rattle.ds_script.specs.declared.actor.Actor.{Actor}
use Rattle.ds_cert.specs.declared.delegation.Delegation.{Delegation}
use Rattle.ds_cert.specs.NoDoubles.{with_delegation}
use Rattle.ds_model.specs.FirstRule.{unless, first_rule}
use Rattle.ds_model.specs.Scheme.{Scheme}
use Rattle.ds_model.specs.Plan.{HostPlan}
use Rattle.ds_model.specs.Desk.{Delegated, Delegating, store_limit, entry_unless, desk_needs, DeskEntry as Change}
use Rattle.ds_model.proofs.Needs.{act_may}
use Rattle.ds_desk.specs.declared.state.DeskState.{DeskState}
use Rattle.ds_desk.specs.Signing.{desk_scheme, desk_plan, key_of, signing_of, signed_at}
use Rattle.ds_desk.specs.Desks.{DeskView, MayStand, kept_of, entered, entry_of}
use Rattle.ds_desk.specs.Replies.{entry_for}
use Rattle.ds_desk.proofs.Grows.{key_again}

-- the rules of a delegation
abbrev pub delegate_rule : DeskView → Key → Option Rule
delegate_rule k key = first_rule (unless (nat_lt (length k.desk.store) store_limit) StoreFull ∷ unless (nat_lt k.desk.leaf (leaves_of key)) KeySpent ∷ [])

module _ (k : DeskView) (c : Category) (to : PubKey) (from until : ℕ) (none : delegate_rule k k.key ≡ None) where
  -- the entry, by a key
  abbrev entry_by : Key → Change
  entry_by key = entry_unless (delegate_rule k key) (Delegated (signed_at key k.desk.leaf k.here c to from until))

  pub made_entry : (s : Scheme) (plan : HostPlan) → entry_for s plan k (Delegating c to from until) ≡ Delegated (signed_at k.key k.desk.leaf k.here c to from until)
  made_entry s plan =
      let one : entry_by (key_of (signing_of k.key)) ≡ entry_by k.key = ap entry_by (key_again k.key) in
      let two : entry_by k.key ≡ Delegated (signed_at k.key k.desk.leaf k.here c to from until) = ap (λ (r : Option Rule). entry_unless r (Delegated (signed_at k.key k.desk.leaf k.here c to from until))) none in
      one ∙ two

  pub made_may : MayStand k (Delegated (signed_at k.key k.desk.leaf k.here c to from until))
  made_may s plan =
      subst (λ (change : Change). desk_needs (desk_scheme s) (desk_plan plan k.here k.key) change k.desk ≡ true) (made_entry s plan)
      (act_may (desk_scheme s) (desk_plan plan k.here k.key) k.desk (Delegating c to from until))

pub issued_kept : (old new : DeskState) (d : Delegation) (stamp : ℕ) (who : Actor) →
    new.here ≡ old.here → new.moment ≡ old.moment → new.store.items ≡ with_delegation d old.store.items → new.addresses ≡ old.addresses →
    new.issued.items ≡ old.issued.items ++ d ∷ [] → new.table ≡ old.table → new.signer ≡ one_leaf_on old.signer → new.opening ≡ old.opening →
    new.history.items ≡ old.history.items ++ entry_of stamp who (Delegated d) ∷ [] → kept_of new ≡ entered stamp who (Delegated d) (kept_of old)
issued_kept old new d stamp who here moment store addresses issued table signer opening history =
    rw (here, moment, store, addresses, issued, table, signer, opening, history, add-one) refl
