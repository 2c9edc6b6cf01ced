-- What a document keeps of a host's desk.
use Rattle.std.proofs.Common.{◌≡◌, ℕ, zero, suc, ◌+◌, ◌≤◌, Bool, true, false, ◌||◌, cond, List, [], ◌∷◌, ◌++◌, length, map, filter, Some, slice_get, refl, sym, ◌∙◌, ap, subst, arith}
use Rattle.std.specs.Prelude.{bytes_eq, nat_le, All}
use Rattle.std.specs.List.{list_all, flat_map, AllByRecursion}
use Rattle.std.proofs.lemmas.Bool.{and_parts, leb-true}
use Rattle.std.proofs.lemmas.List.Sums.{fold-append}
use Rattle.ds_label.specs.declared.category.Category.{Category}
use Rattle.ds_cert.specs.declared.address.Address.{Address}
use Rattle.ds_cert.specs.declared.delegation.Delegation.{Delegation}
use Rattle.ds_cert.specs.declared.cert.Cert.TheVariants as certs
use Rattle.ds_cert.specs.NoDoubles.{with_address}
use Rattle.ds_cert.specs.Ranges.{AddressFits, AddressRange, CertRange}
use Rattle.ds_cert.specs.Spelling.{signed_part_of_delegation}
use Rattle.ds_desk.specs.Signing.{key_of, unsigned}
use Rattle.ds_scheme.proofs.Owns.{signature_fits}
use Rattle.ds_plan.specs.declared.doc.Doc.{Doc}
use Rattle.ds_plan.specs.declared.host.HostSpec.{HostSpec}
use Rattle.ds_plan.specs.declared.cert.CertSpec.{CertSpec}
use Rattle.ds_plan.specs.declared.cert.CertSpec.TheVariants.{Made, Given}
use Rattle.ds_plan.specs.Keys.{host_key}
use Rattle.ds_plan.specs.Documents.{IsDocument, are_rows, events_of, given_addresses, has_address_room, has_at_most, has_host_sizes, has_sizes, is_among, is_between, is_silent, is_spec_in_range, kept_addresses, each_once, made_addresses}
use Rattle.ds_setup.specs.Keys.{key_at}
use Rattle.ds_setup.specs.Signed.{DocCert, doc_cert, doc_certs, doc_certs_behind, leaf_behind, leaf_in, signing_in}
use Rattle.ds_setup.specs.Starts.{addresses_in, addresses_once, delegations_in, delegations_once, is_by, issued_by, kept_at, own_addresses, running_desk}
use Rattle.ds_setup.proofs.Places.{place_at, test_at}
use Rattle.ds_boot.specs.Desks.{IsTyped, addresses_for, delegations_for, issued_for, with_addresses, with_delegations}
use Rattle.ds_boot.proofs.Rooms.{all_own_fit, room}

-- ---- each of a list

pub all_of : {X : Type 0} (P : X → Type 0) (xs : List X) → AllByRecursion P xs → All P xs
all_of P [] each i d lt = absurd (omega (arith, lt))
all_of P (x ∷ xs) each zero d lt = each.0
all_of P (x ∷ xs) each (suc i) d lt = all_of P xs each.1 i d (omega (arith, lt))

pub by_recursion : {X : Type 0} (P : X → Type 0) (xs : List X) → All P xs → AllByRecursion P xs
by_recursion P [] all = tt
by_recursion P (x ∷ xs) all = (all 0 x (omega arith), by_recursion P xs (λ i d lt. all (suc i) d (omega (arith, lt))))

each_weaker : {X : Type 0} (P Q : X → Type 0) (xs : List X) → ((x : X) → P x → Q x) → AllByRecursion P xs → AllByRecursion Q xs
each_weaker P Q [] f each = tt
each_weaker P Q (x ∷ xs) f each = (f x each.0, each_weaker P Q xs f each.1)

-- ---- certificates in range

cert_range : (hosts : List HostSpec) (before : List CertSpec) (c : CertSpec) → is_spec_in_range c ≡ true → CertRange (doc_cert hosts before c).cert
cert_range hosts before (Made by category to from until at) test = record {
  signature = (signature_fits (key_of (signing_in (slice_get hosts by))) (leaf_in (slice_get hosts by) by before) (signed_part_of_delegation (unsigned (key_at hosts by) category (key_at hosts to) from until))).most;
}
cert_range hosts before (Given (certs.Delegation d) at) test = record { signature = leb-true _ _ test }
cert_range hosts before (Given (certs.Address a) at) test =
    let both = and_parts _ (nat_le (length a.signature) 2508) test in
    let text = and_parts (is_between 1 64 (length a.address)) _ both.0 in
    let size = and_parts (nat_le 1 (length a.address)) (nat_le (length a.address) 64) text.0 in
    record { address = record { some = leb-true _ _ size.0; most = leb-true _ _ size.1; letters = text.1 }; signature = leb-true _ _ both.1 }

abbrev pub InRange : DocCert → Type 0
InRange c = CertRange c.cert

certs_range : (hosts : List HostSpec) (before specs : List CertSpec) → list_all is_spec_in_range specs ≡ true → AllByRecursion InRange (doc_certs_behind hosts before specs)
certs_range hosts before [] all = tt
certs_range hosts before (c ∷ later) all =
    let both = and_parts (is_spec_in_range c) (list_all is_spec_in_range later) all in
    (cert_range hosts before c both.0, certs_range hosts (before ++ c ∷ []) later both.1)

certs_count : (hosts : List HostSpec) (before specs : List CertSpec) → length (doc_certs_behind hosts before specs) ≡ length specs
certs_count hosts before [] = refl
certs_count hosts before (c ∷ later) = ap suc (certs_count hosts (before ++ c ∷ []) later)

-- ---- what is kept, a certificate at a time

delegations_are : (place : ℕ) (all : List DocCert) → flat_map (delegations_for place) all ≡ flat_map delegations_in (kept_at place all)
delegations_are place [] = refl
delegations_are place (c ∷ all) = go (is_among place c.at) (delegations_are place all)
  where
    go : (b : Bool) → flat_map (delegations_for place) all ≡ flat_map delegations_in (kept_at place all) →
        cond b (delegations_in c.cert) [] ++ flat_map (delegations_for place) all ≡ flat_map delegations_in (map (λ (c : DocCert). c.cert) (cond b (c ∷ filter (λ (c : DocCert). is_among place c.at) all) (filter (λ (c : DocCert). is_among place c.at) all)))
    go true later = ap (λ (ys : List Delegation). delegations_in c.cert ++ ys) later
    go false later = later

addresses_are : (place : ℕ) (all : List DocCert) → flat_map (addresses_for place) all ≡ flat_map addresses_in (kept_at place all)
addresses_are place [] = refl
addresses_are place (c ∷ all) = go (is_among place c.at) (addresses_are place all)
  where
    go : (b : Bool) → flat_map (addresses_for place) all ≡ flat_map addresses_in (kept_at place all) →
        cond b (addresses_in c.cert) [] ++ flat_map (addresses_for place) all ≡ flat_map addresses_in (map (λ (c : DocCert). c.cert) (cond b (c ∷ filter (λ (c : DocCert). is_among place c.at) all) (filter (λ (c : DocCert). is_among place c.at) all)))
    go true later = ap (λ (ys : List Address). addresses_in c.cert ++ ys) later
    go false later = later

issued_are : (place : ℕ) (all : List DocCert) → flat_map (issued_for place) all ≡ issued_by place all
issued_are place [] = refl
issued_are place (c ∷ all) = go (is_by place c.by) (issued_are place all)
  where
    go : (b : Bool) → flat_map (issued_for place) all ≡ issued_by place all →
        cond b (delegations_in c.cert) [] ++ flat_map (issued_for place) all ≡ flat_map (λ (c : DocCert). delegations_in c.cert) (cond b (c ∷ filter (λ (c : DocCert). is_by place c.by) all) (filter (λ (c : DocCert). is_by place c.by) all))
    go true later = ap (λ (ys : List Delegation). delegations_in c.cert ++ ys) later
    go false later = later

-- the desk of these parts
pub desk_is : (d : Doc) (place : ℕ) (h : HostSpec) (moment : ℕ) (rows : List Category) (store : List Delegation) (addresses : List Address) (issued : List Delegation) (leaf : ℕ) →
    moment ≡ d.moment → rows ≡ h.map →
    store ≡ with_delegations [] (flat_map (delegations_for place) (doc_certs d.hosts d.certs)) →
    addresses ≡ with_addresses (with_addresses [] (own_addresses d.hosts)) (flat_map (addresses_for place) (doc_certs d.hosts d.certs)) →
    issued ≡ flat_map (issued_for place) (doc_certs d.hosts d.certs) →
    leaf ≡ leaf_behind h place d.certs →
    record { moment = moment; rows = rows; store = store; addresses = addresses; issued = issued; leaf = leaf } ≡ running_desk d place h
desk_is d place h moment rows store addresses issued leaf m r s a i l =
    let all = doc_certs d.hosts d.certs in
    let store_is : store ≡ delegations_once (flat_map delegations_in (kept_at place all)) = s ∙ ap delegations_once (delegations_are place all) in
    let addresses_is : addresses ≡ addresses_once (own_addresses d.hosts ++ flat_map addresses_in (kept_at place all)) =
    a ∙ (sym (fold-append (λ (kept : List Address) (new : Address). with_address new kept) [] (own_addresses d.hosts) (flat_map (addresses_for place) all)) ∙ ap (λ (xs : List Address). addresses_once (own_addresses d.hosts ++ xs)) (addresses_are place all)) in
    let issued_is : issued ≡ issued_by place all = i ∙ issued_are place all in
    λ k. record { moment = m k; rows = r k; store = store_is k; addresses = addresses_is k; issued = issued_is k; leaf = l k }

-- ---- what a document says of them

pub record DeskFacts (d : Doc) (place : ℕ) (h : HostSpec) : Type 0 where
  pub few_rows : length h.map ≤ 1024
  pub rows : are_rows (host_key h) h.map ≡ true
  pub range : All InRange (doc_certs d.hosts d.certs)
  pub few : length (doc_certs d.hosts d.certs) ≤ 256
  pub own : All AddressRange (own_addresses d.hosts)
  pub room : AllByRecursion IsTyped d.certs → length (with_addresses (with_addresses [] (own_addresses d.hosts)) (flat_map (addresses_for place) (doc_certs d.hosts d.certs))) ≤ 64

few_certs : (d : Doc) → has_sizes d ≡ true → length d.certs ≤ 256
few_certs d all =
    let e = and_parts _ (has_at_most 20000 (events_of d.events)) all in
    let l = and_parts _ (has_at_most 16 d.links) e.0 in
    leb-true (length d.certs) 256 (and_parts _ (has_at_most 256 d.certs) l.0).1

pub few_hosts : (d : Doc) → has_sizes d ≡ true → length d.hosts ≤ 16
few_hosts d all =
    let e = and_parts _ (has_at_most 20000 (events_of d.events)) all in
    let l = and_parts _ (has_at_most 16 d.links) e.0 in
    let c = and_parts _ (has_at_most 256 d.certs) l.0 in
    leb-true (length d.hosts) 16 (and_parts (has_at_most 16 d.hosts) (is_between 1 20000 d.budget) c.0).0

few_map : (h : HostSpec) → has_host_sizes h ≡ true → length h.map ≤ 1024
few_map h all =
    let i = and_parts _ _ all in
    let l = and_parts _ _ i.0 in
    let b = and_parts _ _ l.0 in
    let p = and_parts _ _ b.0 in
    let a = and_parts _ _ p.0 in
    let s = and_parts _ _ a.0 in
    let n = and_parts _ _ s.0 in
    let inl' = and_parts _ _ n.0 in
    let lns = and_parts _ _ inl'.0 in
    let bxs = and_parts _ _ lns.0 in
    leb-true (length h.map) 1024 (and_parts (has_at_most 1024 h.map) (has_at_most 32 h.procs) bxs.0).0

pub desk_facts : (d : Doc) → IsDocument d → (place : ℕ) (h : HostSpec) → slice_get d.hosts place ≡ Some h → is_silent h.secret ≡ false → DeskFacts d place h
desk_facts d is place h there runs = record {
  few_rows = few_map h (test_at has_host_sizes d.hosts place h is.host_sizes there);
  rows = test_at (λ (h : HostSpec). are_rows (host_key h) h.map) d.hosts place h is.rows there;
  range = all_of InRange (doc_certs d.hosts d.certs) (certs_range d.hosts [] d.certs is.given);
  few = subst (λ n. n ≤ 256) (sym (certs_count d.hosts [] d.certs)) (few_certs d is.sizes);
  own = all_of AddressRange (own_addresses d.hosts) (each_weaker AddressFits AddressRange (own_addresses d.hosts) (λ a f. f.range) (all_own_fit d.hosts is.host_sizes));
  room = λ typed. room d.hosts place d.certs is.host_sizes is.given typed (fits (is_silent h.secret) runs (place_at (has_address_room (made_addresses d.hosts) (flat_map given_addresses d.certs)) 0 d.hosts place h is.addresses there));
}
  where
    same : 0 + place ≡ place
    same = omega arith

    fits : (b : Bool) → b ≡ false → (b || has_at_most 64 (kept_addresses (0 + place) (each_once bytes_eq [] (made_addresses d.hosts)) (flat_map given_addresses d.certs))) ≡ true → length (kept_addresses place (each_once bytes_eq [] (made_addresses d.hosts)) (flat_map given_addresses d.certs)) ≤ 64
    fits true f t = absurd cc
    fits false f t = subst (λ k. length (kept_addresses k (each_once bytes_eq [] (made_addresses d.hosts)) (flat_map given_addresses d.certs)) ≤ 64) same (leb-true _ _ t)
