-- A desk has room for each host's own address certificate and those of the document.
use Rattle.std.proofs.Common.{◌≡◌, ℕ, ◌≤◌, Bool, true, false, ◌||◌, cond, List, [], ◌∷◌, ◌++◌, length, map, Option, Some, None, refl, sym, ◌∙◌, ap, ap₂, subst, arith, eqb, eqb-true}
use Rattle.std.specs.Prelude.{bytes_eq, nat_le}
use Rattle.std.specs.List.{list_all, flat_map, AllByRecursion}
use Rattle.std.proofs.lemmas.Bool.{and_parts, leb-true}
use Rattle.std.proofs.lemmas.List.{length-map, map-append}
use Rattle.std.proofs.lemmas.Slice.Eq.{bytes_eq-Decides}
use Rattle.lms_sig.specs.declared.params.Params.{Params}
use Rattle.lms_sig.specs.Keys.{derived_seed, derived_id}
use Rattle.ds_cert.specs.declared.address.Address.{Address}
use Rattle.ds_cert.specs.declared.cert.Cert.TheVariants as certs
use Rattle.ds_cert.specs.NoDoubles.{is_kept_address, same_address}
use Rattle.ds_cert.specs.Ranges.{AddressFits, is_letter}
use Rattle.ds_cert.specs.Reading.{address_at}
use Rattle.ds_cert.specs.Spelling.{signed_part_of_address, spelling_of_address}
use Rattle.ds_cert.proofs.Steps.{prefix_free}
use Rattle.ds_cert.proofs.RecordLaws.{is_address as is_address_law}
use Rattle.ds_cert.proofs.Same.{address_itself}
use Rattle.ds_scheme.proofs.Owns.{signature_fits}
use Rattle.ds_plan.specs.declared.host.HostSpec.{HostSpec}
use Rattle.ds_plan.specs.declared.host.Secret.{Secret}
use Rattle.ds_plan.specs.declared.host.Secret.TheVariants.{Seed, Key}
use Rattle.ds_plan.specs.declared.cert.CertSpec.{CertSpec}
use Rattle.ds_plan.specs.declared.cert.CertSpec.TheVariants.{Made, Given}
use Rattle.ds_plan.specs.Signed.{signed_address, unsigned_address, signature_by}
use Rattle.ds_plan.specs.Documents.{GivenAddress, each_once, given_addresses, has_host_sizes, has_secret_length, is_address, is_address_if_some, is_address_in_range, is_among, is_between, is_spec_in_range, kept_addresses, made_address, made_addresses, stood}
use Rattle.ds_setup.specs.Signed.{doc_certs_behind}
use Rattle.ds_setup.specs.Starts.{own_address, own_addresses}
use Rattle.ds_setup.proofs.Facts.{key_fits}
use Rattle.ds_boot.specs.Desks.{IsTyped, IsTypedAddress, addresses_for, with_addresses}

-- ---- equal certificates have one spelling, and one spelling is of equal ones

same_exact : (a b : Address) → same_address a b ≡ true → a ≡ b
same_exact a b t =
    let exporter = and_parts (bytes_eq a.exporter.0 b.exporter.0) _ t in
    let address = and_parts (bytes_eq a.address b.address) _ exporter.1 in
    let from = and_parts (eqb a.from b.from) _ address.1 in
    let until = and_parts (eqb a.until b.until) (bytes_eq a.signature b.signature) from.1 in
    λ i. record {
      exporter = record { 0 = (bytes_eq-Decides a.exporter.0 b.exporter.0).0 exporter.0 i };
      address = (bytes_eq-Decides a.address b.address).0 address.0 i;
      from = eqb-true a.from b.from from.0 i;
      until = eqb-true a.until b.until until.0 i;
      signature = (bytes_eq-Decides a.signature b.signature).0 until.1 i;
    }

spelled_alone : (a b : Address) → AddressFits a → AddressFits b → spelling_of_address b ≡ spelling_of_address a → b ≡ a
spelled_alone a b fits_a fits_b e = (prefix_free AddressFits spelling_of_address address_at is_address_law b a [] [] fits_b fits_a (ap (λ (s : List ℕ). s ++ []) e)).0

same_bools : (x y : Bool) → (x ≡ true → y ≡ true) → (y ≡ true → x ≡ true) → x ≡ y
same_bools true y f g = sym (f refl)
same_bools false true f g = g refl
same_bools false false f g = refl

same_spelling : (a b : Address) → AddressFits a → AddressFits b → same_address a b ≡ bytes_eq (spelling_of_address b) (spelling_of_address a)
same_spelling a b fits_a fits_b = same_bools (same_address a b) (bytes_eq (spelling_of_address b) (spelling_of_address a))
    (λ t. (bytes_eq-Decides (spelling_of_address b) (spelling_of_address a)).1 (ap spelling_of_address (sym (same_exact a b t))))
    (λ t. subst (λ (z : Address). same_address a z ≡ true) (sym (spelled_alone a b fits_a fits_b ((bytes_eq-Decides (spelling_of_address b) (spelling_of_address a)).0 t))) (address_itself a))

-- ---- lists without doubles, and their spellings

abbrev Fit : List Address → Type 0
Fit = AllByRecursion AddressFits

fit_end : (xs : List Address) (a : Address) → Fit xs → AddressFits a → Fit (xs ++ a ∷ [])
fit_end [] a fits one = (one, tt)
fit_end (x ∷ xs) a fits one = (fits.0, fit_end xs a fits.1 one)

fit_append : (xs ys : List Address) → Fit xs → Fit ys → Fit (xs ++ ys)
fit_append [] ys p q = q
fit_append (x ∷ xs) ys p q = (p.0, fit_append xs ys p.1 q)

kept_is : (a : Address) (kept : List Address) → AddressFits a → Fit kept → is_kept_address a kept ≡ stood bytes_eq (map spelling_of_address kept) (spelling_of_address a)
kept_is a [] fits all = refl
kept_is a (k ∷ kept) fits all = ap₂ (λ (x y : Bool). x || y) (same_spelling a k fits all.0) (kept_is a kept fits all.1)

spelled_once : (kept new : List Address) → Fit kept → Fit new → map spelling_of_address (with_addresses kept new) ≡ each_once bytes_eq (map spelling_of_address kept) (map spelling_of_address new)
spelled_once kept [] all news = refl
spelled_once kept (a ∷ new) all news =
    go (is_kept_address a kept) (spelled_once kept new all news.1) (spelled_once (kept ++ a ∷ []) new (fit_end kept a all news.0) news.1)
    ∙ ap (λ (b : Bool). cond b (each_once bytes_eq (map spelling_of_address kept) (map spelling_of_address new)) (each_once bytes_eq (map spelling_of_address kept ++ spelling_of_address a ∷ []) (map spelling_of_address new))) (kept_is a kept news.0 all)
  where
    go : (b : Bool) → map spelling_of_address (with_addresses kept new) ≡ each_once bytes_eq (map spelling_of_address kept) (map spelling_of_address new)
        → map spelling_of_address (with_addresses (kept ++ a ∷ []) new) ≡ each_once bytes_eq (map spelling_of_address (kept ++ a ∷ [])) (map spelling_of_address new)
        → map spelling_of_address (with_addresses (cond b kept (kept ++ a ∷ [])) new)
        ≡ cond b (each_once bytes_eq (map spelling_of_address kept) (map spelling_of_address new)) (each_once bytes_eq (map spelling_of_address kept ++ spelling_of_address a ∷ []) (map spelling_of_address new))
    go true there here = there
    go false there here = here ∙ ap (λ (before : List (List ℕ)). each_once bytes_eq before (map spelling_of_address new)) (map-append spelling_of_address kept (a ∷ []))

fit_with : (kept new : List Address) → Fit kept → Fit new → Fit (with_addresses kept new)
fit_with kept [] all news = all
fit_with kept (a ∷ new) all news = go (is_kept_address a kept) (fit_with kept new all news.1) (fit_with (kept ++ a ∷ []) new (fit_end kept a all news.0) news.1)
  where
    go : (b : Bool) → Fit (with_addresses kept new) → Fit (with_addresses (kept ++ a ∷ []) new) → Fit (with_addresses (cond b kept (kept ++ a ∷ [])) new)
    go true there here = there
    go false there here = here

-- ---- what a host is given

once_more : (before : List (List ℕ)) (x : List ℕ) (xs : List (List ℕ)) → each_once bytes_eq (each_once bytes_eq before (x ∷ [])) xs ≡ each_once bytes_eq before (x ∷ xs)
once_more before x xs = go (stood bytes_eq before x)
  where
    go : (b : Bool) → each_once bytes_eq (cond b before (before ++ x ∷ [])) xs ≡ cond b (each_once bytes_eq before xs) (each_once bytes_eq (before ++ x ∷ []) xs)
    go true = refl
    go false = refl

abbrev none : List Address
none = []

no_address : (b : Bool) → cond b none none ≡ none
no_address true = refl
no_address false = refl

module _ (hosts : List HostSpec) (here : ℕ) where
  abbrev later_for : List CertSpec → List CertSpec → List Address
  later_for prior specs = flat_map (addresses_for here) (doc_certs_behind hosts prior specs)

  -- one certificate
  one_address : (before : List (List ℕ)) (given : List GivenAddress) (a : Address) (at : List ℕ) (rest : List Address) (b : Bool) → is_address_in_range a ≡ true →
      ((now : List (List ℕ)) → kept_addresses here now given ≡ each_once bytes_eq now (map spelling_of_address rest)) →
      cond b (kept_addresses here (each_once bytes_eq before (spelling_of_address a ∷ [])) given) (kept_addresses here before given)
      ≡ each_once bytes_eq before (map spelling_of_address (cond b (a ∷ []) [] ++ rest))
  one_address before given a at rest true range later = later (each_once bytes_eq before (spelling_of_address a ∷ [])) ∙ once_more before (spelling_of_address a) (map spelling_of_address rest)
  one_address before given a at rest false range later = later before

  given_are : (prior specs : List CertSpec) (before : List (List ℕ)) → list_all is_spec_in_range specs ≡ true →
      kept_addresses here before (flat_map given_addresses specs) ≡ each_once bytes_eq before (map spelling_of_address (later_for prior specs))
  given_are prior [] before all = refl
  given_are prior (Made by category to from until at ∷ later) before all =
      given_are (prior ++ Made by category to from until at ∷ []) later before all
      ∙ ap (λ (xs : List Address). each_once bytes_eq before (map spelling_of_address (xs ++ later_for (prior ++ Made by category to from until at ∷ []) later))) (sym (no_address (is_among here at)))
  given_are prior (Given (certs.Delegation d) at ∷ later) before all =
      given_are (prior ++ Given (certs.Delegation d) at ∷ []) later before (and_parts (is_spec_in_range (Given (certs.Delegation d) at)) (list_all is_spec_in_range later) all).1
      ∙ ap (λ (xs : List Address). each_once bytes_eq before (map spelling_of_address (xs ++ later_for (prior ++ Given (certs.Delegation d) at ∷ []) later))) (sym (no_address (is_among here at)))
  given_are prior (Given (certs.Address a) at ∷ later) before all =
      let both = and_parts (is_address_in_range a) (list_all is_spec_in_range later) all in
      ap (λ (b : Bool). kept_addresses here before (cond b (record { bytes = spelling_of_address a; at = at } ∷ []) [] ++ flat_map given_addresses later)) both.0
      ∙ one_address before (flat_map given_addresses later) a at (later_for (prior ++ Given (certs.Address a) at ∷ []) later) (is_among here at) both.0
      (λ now. given_are (prior ++ Given (certs.Address a) at ∷ []) later now both.1)

  fits_of : (a : Address) → IsTypedAddress a → is_address_in_range a ≡ true → AddressFits a
  fits_of a typed range =
      let both = and_parts (is_address a.address) (nat_le (length a.signature) 2508) range in
      let text = and_parts (is_between 1 64 (length a.address)) (list_all is_letter a.address) both.0 in
      let size = and_parts (nat_le 1 (length a.address)) (nat_le (length a.address) 64) text.0 in
      record {
        exporter = typed.exporter;
        from = typed.from;
        until = typed.until;
        range = record { address = record { some = leb-true _ _ size.0; most = leb-true _ _ size.1; letters = text.1 }; signature = leb-true _ _ both.1 };
      }

  given_fit : (prior specs : List CertSpec) → AllByRecursion IsTyped specs → list_all is_spec_in_range specs ≡ true → Fit (later_for prior specs)
  given_fit prior [] typed all = tt
  given_fit prior (Made by category to from until at ∷ later) typed all =
      subst (λ (xs : List Address). Fit (xs ++ later_for (prior ++ Made by category to from until at ∷ []) later)) (sym (no_address (is_among here at))) (given_fit (prior ++ Made by category to from until at ∷ []) later typed.1 all)
  given_fit prior (Given (certs.Delegation d) at ∷ later) typed all =
      subst (λ (xs : List Address). Fit (xs ++ later_for (prior ++ Given (certs.Delegation d) at ∷ []) later)) (sym (no_address (is_among here at)))
      (given_fit (prior ++ Given (certs.Delegation d) at ∷ []) later typed.1 (and_parts (is_spec_in_range (Given (certs.Delegation d) at)) (list_all is_spec_in_range later) all).1)
  given_fit prior (Given (certs.Address a) at ∷ later) typed all =
      let both = and_parts (is_address_in_range a) (list_all is_spec_in_range later) all in
      fit_append (cond (is_among here at) (a ∷ []) []) (later_for (prior ++ Given (certs.Address a) at ∷ []) later) (one (is_among here at) (fits_of a typed.0 both.0))
      (given_fit (prior ++ Given (certs.Address a) at ∷ []) later typed.1 both.1)
    where
      one : (b : Bool) → AddressFits a → Fit (cond b (a ∷ []) [])
      one true fits = (fits, tt)
      one false fits = tt

-- ---- each host's own one

short : (identity : Params) (secret : Secret) (leaf : ℕ) (message : List ℕ) → length (signature_by identity secret leaf message) ≤ 2508
short identity (Seed secret) leaf message = (signature_fits (record { params = identity; seed = derived_seed secret 0; id = derived_id secret 0 }) leaf message).most
short identity (Key key) leaf message = omega arith

-- its secret's length, and its address
pub record OwnFacts (h : HostSpec) : Type 0 where
  pub secret : has_secret_length h.secret ≡ true
  pub address : is_address_if_some h.address ≡ true

pub own_facts : (h : HostSpec) → has_host_sizes h ≡ true → OwnFacts h
own_facts h all =
    let i = and_parts _ _ all in
    let l = and_parts _ _ i.0 in
    let b = and_parts _ _ l.0 in
    let p = and_parts _ _ b.0 in
    let a = and_parts _ _ p.0 in
    let s = and_parts _ _ a.0 in
    record { secret = s.1; address = a.1 }

own_fit : (identity : Params) (s : Secret) (o : Option (List ℕ)) → has_secret_length s ≡ true → is_address_if_some o ≡ true → Fit (own_address identity s o)
own_fit identity (Seed secret) None size text = tt
own_fit identity (Key key) o size text = tt
own_fit identity (Seed secret) (Some address) size text =
    let parts = and_parts (is_between 1 64 (length address)) (list_all is_letter address) text in
    let ends = and_parts (nat_le 1 (length address)) (nat_le (length address) 64) parts.0 in (
      record {
        exporter = key_fits identity (Seed secret) size;
        from = omega arith;
        until = omega arith;
        range = record {
          address = record { some = leb-true _ _ ends.0; most = leb-true _ _ ends.1; letters = parts.1 };
          signature = short identity (Seed secret) 0 (signed_part_of_address (unsigned_address identity (Seed secret) address));
        };
      },
      tt,
    )

made_is : (identity : Params) (s : Secret) (o : Option (List ℕ)) → is_address_if_some o ≡ true → made_address identity s o ≡ map spelling_of_address (own_address identity s o)
made_is identity (Seed secret) None text = refl
made_is identity (Key key) o text = refl
made_is identity (Seed secret) (Some address) text = ap (λ (b : Bool). cond b (spelling_of_address (signed_address identity (Seed secret) address) ∷ []) []) text

pub all_own_fit : (hosts : List HostSpec) → list_all has_host_sizes hosts ≡ true → Fit (own_addresses hosts)
all_own_fit [] all = tt
all_own_fit (h ∷ hosts) all =
    let both = and_parts (has_host_sizes h) (list_all has_host_sizes hosts) all in
    let facts = own_facts h both.0 in
    fit_append (own_address h.identity h.secret h.address) (own_addresses hosts) (own_fit h.identity h.secret h.address facts.secret facts.address) (all_own_fit hosts both.1)

made_are : (hosts : List HostSpec) → list_all has_host_sizes hosts ≡ true → made_addresses hosts ≡ map spelling_of_address (own_addresses hosts)
made_are [] all = refl
made_are (h ∷ hosts) all =
    let both = and_parts (has_host_sizes h) (list_all has_host_sizes hosts) all in
    ap₂ (λ (xs ys : List (List ℕ)). xs ++ ys) (made_is h.identity h.secret h.address (own_facts h both.0).address) (made_are hosts both.1)
    ∙ sym (map-append spelling_of_address (own_address h.identity h.secret h.address) (own_addresses hosts))

-- ---- all of them

pub room : (hosts : List HostSpec) (here : ℕ) (specs : List CertSpec) → list_all has_host_sizes hosts ≡ true → list_all is_spec_in_range specs ≡ true → AllByRecursion IsTyped specs →
    length (kept_addresses here (each_once bytes_eq [] (made_addresses hosts)) (flat_map given_addresses specs)) ≤ 64 →
    length (with_addresses (with_addresses [] (own_addresses hosts)) (flat_map (addresses_for here) (doc_certs_behind hosts [] specs))) ≤ 64
room hosts here specs sizes given typed few =
    let own = own_addresses hosts in
    let later = later_for hosts here [] specs in
    let own_fits = all_own_fit hosts sizes in
    let own_are : each_once bytes_eq [] (made_addresses hosts) ≡ map spelling_of_address (with_addresses [] own) =
    ap (λ (xs : List (List ℕ)). each_once bytes_eq [] xs) (made_are hosts sizes) ∙ sym (spelled_once [] own tt own_fits) in
    let all_are : kept_addresses here (each_once bytes_eq [] (made_addresses hosts)) (flat_map given_addresses specs) ≡ map spelling_of_address (with_addresses (with_addresses [] own) later) =
    ap (λ (xs : List (List ℕ)). kept_addresses here xs (flat_map given_addresses specs)) own_are
    ∙ (given_are hosts here [] specs (map spelling_of_address (with_addresses [] own)) given
    ∙ sym (spelled_once (with_addresses [] own) later (fit_with [] own tt own_fits) (given_fit hosts here [] specs typed given))) in
    let size : length (kept_addresses here (each_once bytes_eq [] (made_addresses hosts)) (flat_map given_addresses specs)) ≡ length (with_addresses (with_addresses [] own) later) =
    ap (λ (xs : List (List ℕ)). length xs) all_are ∙ length-map {B = List ℕ} (with_addresses (with_addresses [] own) later) spelling_of_address in
    omega (arith, size, few)
