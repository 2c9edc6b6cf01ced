-- What it means that a delegation counts, and what a edge of a list of delegations says.
use Rattle.std.proofs.Common.{◌≡◌, ℕ, ◌<◌, ◌≤◌, Bool, true, false, cond, List, refl, sym, ◌∙◌, ap}
use Rattle.std.specs.Prelude.{Option, Some, None, is_none, option_map, slice_get}
use Rattle.std.specs.Bool.{Decides}
use Rattle.std.proofs.lemmas.Bool.{false≢true, le-leb, leb-true}
use Rattle.std.proofs.lemmas.Bool.Decides.{Decides-and, Decides-ltb}
use Rattle.std.proofs.lemmas.Option.{none-some, same_Some, slice_get-map}
use Rattle.lms_sig.specs.Good.{IsGood}
use Rattle.lms_sig.specs.declared.verifying.Bad.{Bad}
use Rattle.lms_sig.proofs.Goods.{good-none, first_bad-good}
use Rattle.ds_label.specs.declared.category.PubKey.{PubKey}
use Rattle.ds_label.specs.declared.category.Category.{Category}
use Rattle.ds_label.specs.Names.{by_name}
use Rattle.ds_label.proofs.Members.{same-is}
use Rattle.ds_label.proofs.Namings.{names}
use Rattle.ds_cert.specs.declared.delegation.Delegation.{Delegation}
use Rattle.ds_cert.specs.Good.{is_good_delegation}
use Rattle.ds_cert.specs.Spelling.{signed_part_of_delegation}
use Rattle.ds_chain.specs.declared.edge.Edge.{Edge}
use Rattle.ds_chain.specs.Chain.{IsEdge}
use Rattle.ds_chain.specs.Delegated.{counts, hop_of, hops_of_list, Delegates}

none_is : (fault : Option Bad) → is_none fault ≡ true → fault ≡ None
none_is None e = refl
none_is (Some bad) e = absurd (false≢true e)

-- the test tells whether the signature is good
pub good_is : (d : Delegation) → Decides (is_good_delegation d) (IsGood d.by.0 (signed_part_of_delegation d) d.signature)
good_is d = (
  λ e. first_bad-good d.by.0 (signed_part_of_delegation d) d.signature (none_is _ e),
  λ good. ap is_none (good-none d.by.0 (signed_part_of_delegation d) d.signature good),
)

pub record Counts (moment : ℕ) (category : Category) (d : Delegation) : Type 0 where
  pub subject : d.category ≡ category
  pub begun : d.from ≤ moment
  pub lasting : moment < d.until
  pub good : is_good_delegation d ≡ true

pub counts_is : (moment : ℕ) (category : Category) (d : Delegation) → Decides (counts moment category d) (Counts moment category d)
counts_is moment category d =
    let parts = Decides-and _ _ (same-is by_name names d.category category)
    (Decides-and _ _ (Decides-and _ _ (leb-true d.from moment, le-leb d.from moment) (Decides-ltb moment d.until))
    (λ (e : is_good_delegation d ≡ true). e, λ (e : is_good_delegation d ≡ true). e)) in (
      λ e. let (subject, ((begun, lasting), good)) = parts.0 e in record { subject = subject; begun = begun; lasting = lasting; good = good },
      λ known. parts.1 (known.subject, ((known.begun, known.lasting), known.good)),
    )

-- a delegation that has a edge counts, and the edge is from its signer to the key that it names
pub record HasHop (moment : ℕ) (category : Category) (d : Delegation) (edge : Edge PubKey) : Type 0 where
  pub counts : Counts moment category d
  pub signer : d.by ≡ edge.by
  pub named : d.to ≡ edge.to

pub hop_is : (moment : ℕ) (category : Category) (d : Delegation) (edge : Edge PubKey) → hop_of moment category d ≡ Some edge → HasHop moment category d edge
hop_is moment category d edge e = at_test (counts moment category d) refl e
  where
    at_test : (b : Bool) → counts moment category d ≡ b → cond b (Some (record { by = d.by; to = d.to })) None ≡ Some edge → HasHop moment category d edge
    at_test true f q =
        let same : record { by = d.by; to = d.to } ≡ edge = same_Some _ edge q in
        record { counts = (counts_is moment category d).0 f; signer = ap (λ (h : Edge PubKey). h.by) same; named = ap (λ (h : Edge PubKey). h.to) same }
    at_test false f q = absurd (none-some _ q)

pub hop_from : (moment : ℕ) (category : Category) (d : Delegation) → Counts moment category d → hop_of moment category d ≡ Some (record { by = d.by; to = d.to })
hop_from moment category d known =
    ap (λ (b : Bool). cond b (Some (record { by = d.by; to = d.to })) None) ((counts_is moment category d).1 known)

-- a edge stands at a place exactly where a delegation for the category does, valid and good
pub hop_delegates : (certs : List Delegation) (moment : ℕ) (category : Category) (place : ℕ) (by to : PubKey) →
    IsEdge (hops_of_list moment category certs) place by to → Delegates certs moment category place by to
hop_delegates certs moment category place by to h = at_place (slice_get certs place) refl (sym (slice_get-map (hop_of moment category) certs place) ∙ h)
  where
    at_place : (entry : Option Delegation) → slice_get certs place ≡ entry → option_map (hop_of moment category) entry ≡ Some (Some (record { by = by; to = to }))
        → Delegates certs moment category place by to
    at_place None e q = absurd (none-some _ q)
    at_place (Some d) e q =
        let edge : Edge PubKey = record { by = by; to = to } in
        let known = hop_is moment category d edge (same_Some _ (Some edge) q) in
        record {
          cert = d;
          stands = e;
          subject = known.counts.subject;
          begun = known.counts.begun;
          lasting = known.counts.lasting;
          good = (good_is d).0 known.counts.good;
          signer = known.signer;
          named = known.named;
        }

pub delegates_hop : (certs : List Delegation) (moment : ℕ) (category : Category) (place : ℕ) (by to : PubKey) →
    Delegates certs moment category place by to → IsEdge (hops_of_list moment category certs) place by to
delegates_hop certs moment category place by to known =
    let d = known.cert in
    let counted : Counts moment category d = record { subject = known.subject; begun = known.begun; lasting = known.lasting; good = (good_is d).1 known.good } in
    let named : hop_of moment category d ≡ Some (record { by = by; to = to }) = rw (← known.signer, ← known.named) (hop_from moment category d counted) in
    slice_get-map (hop_of moment category) certs place
    ∙ ap (λ (entry : Option Delegation). option_map (hop_of moment category) entry) known.stands
    ∙ ap (λ (edge : Option (Edge PubKey)). Some edge) named
