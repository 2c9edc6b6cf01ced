-- The certificates of a desk's history are in the ranges of their formats, since the desk keeps them.
use Rattle.std.proofs.Common.{◌≡◌, ℕ, suc, true, false, Bool, List, [], ◌∷◌, ◌++◌, Some, None, refl, sym, subst, arith}
use Rattle.std.specs.Prelude.{◌&&◌, ◌==◌, if◌then◌else◌, bytes_eq}
use Rattle.std.specs.List.{All, Any, list_any}
use Rattle.std.proofs.lemmas.List.Elements.{All-nil, All-cons, All-head}
use Rattle.std.proofs.lemmas.List.Folds.{Any-from_list_any}
use Rattle.std.proofs.lemmas.Slice.Eq.{bytes_eq-Decides}
use Rattle.ds_script.specs.Replay.{onward, replay}
use Rattle.ds_cert.specs.declared.delegation.Delegation.{Delegation}
use Rattle.ds_cert.specs.declared.address.Address.{Address}
use Rattle.ds_cert.specs.declared.cert.Cert.TheVariants as certs
use Rattle.ds_cert.specs.NoDoubles.{same_delegation, same_address}
use Rattle.ds_cert.specs.Ranges.{AddressRange, AddressTextFits, DelegationRange, SignatureFits}
use Rattle.ds_label.specs.Names.{same_category}
use Rattle.ds_map.proofs.Sets.{and_first, and_second}
use Rattle.ds_model.specs.Desk.{Desk, desk_needs, desk_after}
use Rattle.ds_model.specs.Scheme.{Scheme}
use Rattle.ds_model.specs.Plan.{HostPlan}
use Rattle.ds_desk.specs.declared.act.DeskChange.{DeskChange}
use Rattle.ds_desk.specs.declared.act.DeskChange.TheVariants as acts
use Rattle.ds_desk.specs.declared.act.DeskEntry.{DeskEntry}
use Rattle.ds_desk.specs.Desks.{DeskView, IsReplay, change_of, desk_then, history_step}
use Rattle.ds_desk.specs.Signing.{desk_plan, desk_scheme}
use Rattle.ds_share.specs.Entries.{ChangeRange}
use Rattle.ds_share.proofs.Judgements.{some_plan, some_scheme}

-- what a desk keeps is in range
record AreKept (d : Desk) : Type 0 where
  pub store : All DelegationRange d.store
  pub addresses : All AddressRange d.addresses

-- ---- a certificate equal to one in range

same_bytes : (xs ys : List ℕ) → bytes_eq xs ys ≡ true → xs ≡ ys
same_bytes xs ys e = (bytes_eq-Decides xs ys).0 e

-- the last of six and of four tests
sixth : (a b c d e f : Bool) → (a && (b && (c && (d && (e && f))))) ≡ true → f ≡ true
sixth a b c d e f all =
    and_second e f (and_second d (e && f) (and_second c (d && (e && f)) (and_second b (c && (d && (e && f))) (and_second a (b && (c && (d && (e && f)))) all))))

fourth : (a b c d : Bool) → (a && (b && (c && d))) ≡ true → d ≡ true
fourth a b c d all = and_second c d (and_second b (c && d) (and_second a (b && (c && d)) all))

delegation_range : (a b : Delegation) → same_delegation a b ≡ true → DelegationRange b → DelegationRange a
delegation_range a b same range =
    let signed =
    sixth (same_category a.category b.category) (bytes_eq a.to.0 b.to.0) (a.from == b.from) (a.until == b.until) (bytes_eq a.by.0 b.by.0)
    (bytes_eq a.signature b.signature) same in
    record { signature = subst SignatureFits (sym (same_bytes a.signature b.signature signed)) range.signature }

address_range : (a b : Address) → same_address a b ≡ true → AddressRange b → AddressRange a
address_range a b same range =
    let later = (a.from == b.from) && ((a.until == b.until) && bytes_eq a.signature b.signature) in
    let rest = and_second (bytes_eq a.exporter.0 b.exporter.0) (bytes_eq a.address b.address && later) same in
    let text = and_first (bytes_eq a.address b.address) later rest in
    let signed = fourth (bytes_eq a.address b.address) (a.from == b.from) (a.until == b.until) (bytes_eq a.signature b.signature) rest in
    record {
      address = subst AddressTextFits (sym (same_bytes a.address b.address text)) range.address;
      signature = subst SignatureFits (sym (same_bytes a.signature b.signature signed)) range.signature;
    }

-- ---- a list with one certificate more

module _ {X : Type 0} (Range : X → Type 0) (same : X → X → Bool) (moves : (a b : X) → same a b ≡ true → Range b → Range a) where
  found : (new : X) (kept : List X) → Any (λ x. same new x ≡ true) kept → All Range kept → Range new
  found new kept any all = moves new any.1 any.4 (subst Range any.3 (all any.0 any.1 any.2))

  front : (new : X) (kept : List X) → All Range (kept ++ new ∷ []) → All Range kept
  front new [] all = All-nil Range
  front new (x ∷ kept) all = All-cons Range x kept (All-head Range x (kept ++ new ∷ []) all) (front new kept (λ k d w. all (suc k) d (omega (arith, w))))

  last : (new : X) (kept : List X) → All Range (kept ++ new ∷ []) → Range new
  last new [] all = All-head Range new [] all
  last new (x ∷ kept) all = last new kept (λ k d w. all (suc k) d (omega (arith, w)))

  without : (new : X) (kept : List X) → All Range (if list_any (same new) kept then kept else kept ++ new ∷ []) → All Range kept × Range new
  without new kept all = go (list_any (same new) kept) refl all
    where
      go : (b : Bool) → list_any (same new) kept ≡ b → All Range (if b then kept else kept ++ new ∷ []) → All Range kept × Range new
      go true e all = (all, found new kept (Any-from_list_any (same new) kept e) all)
      go false e all = (front new kept all, last new kept all)

-- ---- one entry back

back : (plan : HostPlan) (change : DeskChange) (d : Desk) → AreKept (desk_after plan.key (change_of change) d) → AreKept d × ChangeRange change
back plan acts.Look d kept = (kept, tt)
back plan (acts.Tick to) d kept = (record { store = kept.store; addresses = kept.addresses }, tt)
back plan (acts.Delegated new) d kept =
    let both = without DelegationRange same_delegation delegation_range new d.store kept.store in
    (record { store = both.0; addresses = kept.addresses }, both.1)
back plan (acts.Imported (certs.Delegation new)) d kept =
    let both = without DelegationRange same_delegation delegation_range new d.store kept.store in
    (record { store = both.0; addresses = kept.addresses }, both.1)
back plan (acts.Imported (certs.Address new)) d kept =
    let both = without AddressRange same_address address_range new d.addresses kept.addresses in
    (record { store = kept.store; addresses = both.0 }, both.1)
back plan (acts.Mapped c) d kept = (record { store = kept.store; addresses = kept.addresses }, tt)
back plan (acts.Refused rule) d kept = (kept, tt)

-- ---- all of them

each_back : (s : Scheme) (plan : HostPlan) (d last : Desk) (es : List DeskEntry) → replay (history_step s plan) d es ≡ Some last → AreKept last
    → AreKept d × All (λ entry. ChangeRange entry.act) es
each_back s plan d last [] is kept = (subst AreKept (some_same is) kept, All-nil (λ (entry : DeskEntry). ChangeRange entry.act))
  where
    some_same : Some d ≡ Some last → last ≡ d
    some_same e = cc
each_back s plan d last (e ∷ es) is kept =
    go (desk_needs s plan (change_of e.act) d) is (λ f. each_back s plan (desk_after plan.key (change_of e.act) d) last es f kept)
  where
    step : AreKept (desk_after plan.key (change_of e.act) d) × All (λ entry. ChangeRange entry.act) es → AreKept d × All (λ entry. ChangeRange entry.act) (e ∷ es)
    step later =
        let one = back plan e.act d later.0 in
        (one.0, All-cons (λ (entry : DeskEntry). ChangeRange entry.act) e es one.1 later.1)

    go : (b : Bool) → onward (if b then Some (desk_after plan.key (change_of e.act) d) else None) (λ t. replay (history_step s plan) t es) ≡ Some last
        → (replay (history_step s plan) (desk_after plan.key (change_of e.act) d) es ≡ Some last
        → AreKept (desk_after plan.key (change_of e.act) d) × All (λ entry. ChangeRange entry.act) es) → AreKept d × All (λ entry. ChangeRange entry.act) (e ∷ es)
    go true f later = step (later f)
    go false f later = absurd cc

pub in_range : (k : DeskView) → IsReplay k → All DelegationRange k.desk.store → All AddressRange k.desk.addresses → All (λ entry. ChangeRange entry.act) k.history
in_range k is store addresses =
    (each_back (desk_scheme some_scheme) (desk_plan some_plan k.here k.key) (desk_then k.opening) k.desk k.history (is.replays some_scheme some_plan) (record { store = store; addresses = addresses })).1
