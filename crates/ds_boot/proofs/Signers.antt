-- All hosts' signers, along the document's certificates.
use Rattle.std.proofs.Common.{◌≡◌, ◌≢◌, ℕ, zero, suc, ◌+◌, ◌<◌, Bool, true, false, cond, List, [], ◌∷◌, ◌++◌, length, length-append, filter, map, take, drop, get_or, Option, Some, None, slice_get, option_map, refl, sym, ◌∙◌, ap, subst, arith, eqb}
use Rattle.std.specs.List.{list_all}
use Rattle.std.specs.Prelude.{slice_set}
use Rattle.std.proofs.lemmas.List.{append_assoc, append-nil}
use Rattle.std.proofs.lemmas.Bool.{and_parts, ltb-true}
use Rattle.std.proofs.lemmas.Bool.Decides.{Decides-eqb}
use Rattle.std.proofs.lemmas.List.Concat.{flat_map-append}
use Rattle.std.proofs.lemmas.List.Elements.{filter-append}
use Rattle.std.proofs.lemmas.Option.{none-some, same_Some, slice_get-map, get_or_from_slice_get}
use Rattle.lms_sig.specs.declared.params.Params.{Params}
use Rattle.lms_sig.specs.Keys.{Key, derived_seed, derived_id}
use Rattle.lms_sig.specs.Parameters.{leaf_count}
use Rattle.lms_state.specs.Signers.{Signing, one_leaf_on}
use Rattle.ds_plan.specs.declared.doc.Doc.{Doc}
use Rattle.ds_plan.specs.declared.host.HostSpec.{HostSpec}
use Rattle.ds_plan.specs.declared.cert.CertSpec.{CertSpec}
use Rattle.ds_plan.specs.declared.cert.CertSpec.TheVariants.{Made, Given}
use Rattle.ds_label.specs.declared.category.PubKey.{PubKey}
use Rattle.ds_label.specs.declared.category.Category.{Category}
use Rattle.ds_cert.specs.declared.cert.Cert.{Cert}
use Rattle.ds_cert.specs.declared.cert.Cert.TheVariants as certs
use Rattle.ds_cert.specs.declared.delegation.Delegation.{Delegation}
use Rattle.ds_model.specs.Scheme.{delegation_by}
use Rattle.ds_desk.specs.Signing.{signed_at}
use Rattle.ds_desk.proofs.Grows.{key_again}
use Rattle.ds_scheme.specs.TheScheme.{scheme}
use Rattle.ds_plan.specs.declared.host.Secret.{Secret}
use Rattle.ds_plan.specs.declared.host.Secret.TheVariants.{Seed, Key as Public}
use Rattle.ds_plan.specs.declared.maker.Maker.{Maker}
use Rattle.ds_plan.specs.Keys.{host_keys, identity_key, identity_of}
use Rattle.ds_plan.specs.Categories.{host_maker, is_place, maker, runs}
use Rattle.ds_plan.specs.Documents.{IsDocument, cert_hosts, is_silent, makers, signer_of, signers_of}
use Rattle.ds_setup.specs.Lists.{each}
use Rattle.ds_setup.specs.Keys.{key_at, signing_or_none}
use Rattle.ds_setup.specs.Signed.{DocCert, doc_cert, doc_certs, doc_certs_behind, leaf_behind, leaf_in, signed_among, signing_in}
use Rattle.ds_setup.proofs.Places.{each_at, inside, length-each, test_at, test_flat}
use Rattle.ds_setup.proofs.Facts.{enough_leaves}
use Rattle.ds_boot.specs.Signers.{signer_at, signing_at}
use Rattle.ds_boot.specs.Signing.{CanSign, delegation_of, signer_behind, signer_or_none}
use Rattle.ds_boot.proofs.Lists.{each_alike, each_set, take_more}

-- HOW MANY A HOST SIGNED

signed_more : (host : ℕ) (before : List CertSpec) (c : CertSpec) → signed_among host (before ++ c ∷ []) ≡ signed_among host before + length (filter (λ by. eqb by host) (signer_of c ++ []))
signed_more host before c =
    ap (λ (ns : List ℕ). length (filter (λ by. eqb by host) ns)) (flat_map-append signer_of before (c ∷ []))
    ∙ (ap (λ (ns : List ℕ). length ns) (filter-append (λ by. eqb by host) (signers_of before) (signer_of c ++ []))
    ∙ length-append (filter (λ by. eqb by host) (signers_of before)) (filter (λ by. eqb by host) (signer_of c ++ [])))

-- none of a certificate as it stands
pub given_more : (h : HostSpec) (host : ℕ) (before : List CertSpec) (c : CertSpec) → signer_of c ≡ [] → leaf_behind h host (before ++ c ∷ []) ≡ leaf_behind h host before
given_more h host before c none =
    let more : signed_among host (before ++ c ∷ []) ≡ signed_among host before + 0 =
    signed_more host before c ∙ ap (λ (ns : List ℕ). signed_among host before + length (filter (λ by. eqb by host) (ns ++ []))) none in
    omega (arith, more)

one_if : (b : Bool) (by : ℕ) → ℕ
one_if b by = length (cond b (by ∷ []) [])

made_more : (h : HostSpec) (host : ℕ) (before : List CertSpec) (c : CertSpec) (by : ℕ) → signer_of c ≡ by ∷ [] → leaf_behind h host (before ++ c ∷ []) ≡ leaf_behind h host before + one_if (eqb by host) by
unfolding one_if
made_more h host before c by one =
    let more : signed_among host (before ++ c ∷ []) ≡ signed_among host before + length (cond (eqb by host) (by ∷ []) []) =
    signed_more host before c ∙ ap (λ (ns : List ℕ). signed_among host before + length (filter (λ by. eqb by host) (ns ++ []))) one in
    omega (arith, more)

pub own_more : (h : HostSpec) (before : List CertSpec) (c : CertSpec) (by : ℕ) → signer_of c ≡ by ∷ [] → leaf_behind h by (before ++ c ∷ []) ≡ leaf_behind h by before + 1
unfolding one_if
own_more h before c by one = made_more h by before c by one ∙ ap (λ (b : Bool). leaf_behind h by before + length (cond b (by ∷ []) [])) ((Decides-eqb by by).1 refl)

pub other_more : (h : HostSpec) (host : ℕ) (before : List CertSpec) (c : CertSpec) (by : ℕ) → signer_of c ≡ by ∷ [] → host ≢ by → leaf_behind h host (before ++ c ∷ []) ≡ leaf_behind h host before
unfolding one_if
other_more h host before c by one differ =
    let same : leaf_behind h host before + 0 ≡ leaf_behind h host before = omega arith in
    made_more h host before c by one ∙ (ap (λ (b : Bool). leaf_behind h host before + length (cond b (by ∷ []) [])) (unlike (eqb by host) refl) ∙ same)
  where
    unlike : (b : Bool) → eqb by host ≡ b → b ≡ false
    unlike true e = absurd (differ (sym ((Decides-eqb by host).0 e)))
    unlike false e = refl

-- ALL SIGNERS

-- a certificate as it stands moves none
pub given_signers : (hosts : List HostSpec) (before : List CertSpec) (c : CertSpec) → signer_of c ≡ [] → each (signer_behind before) hosts ≡ each (signer_behind (before ++ c ∷ [])) hosts
given_signers hosts before c none = each_alike (signer_behind before) (signer_behind (before ++ c ∷ [])) hosts
    (λ place h e. ap (λ leaf. signer_at leaf (identity_key h)) (sym (given_more h place before c none)))

one_on : (leaf next : ℕ) (key : Option Key) → next ≡ leaf + 1 → option_map one_leaf_on (signer_at leaf key) ≡ signer_at next key
one_on leaf next None e = refl
one_on leaf next (Some key) e = ap (λ n. Some (signing_at n key)) (sym e)

-- one that a host makes moves its signer alone
pub made_signers : (hosts : List HostSpec) (before : List CertSpec) (c : CertSpec) (by : ℕ) (h : HostSpec) → signer_of c ≡ by ∷ [] → slice_get hosts by ≡ Some h →
    slice_set (each (signer_behind before) hosts) by (option_map one_leaf_on (get_or (each (signer_behind before) hosts) by None)) ≡ each (signer_behind (before ++ c ∷ [])) hosts
made_signers hosts before c by h one e =
    let there : get_or (each (signer_behind before) hosts) by None ≡ signer_behind before by h =
    get_or_from_slice_get (each (signer_behind before) hosts) by (signer_behind before by h) None (each_at (signer_behind before) hosts by ∙ ap (option_map (signer_behind before by)) e) in
    ap (λ (s : Option Signing). slice_set (each (signer_behind before) hosts) by s)
    (ap (option_map one_leaf_on) there ∙ one_on (leaf_behind h by before) (leaf_behind h by (before ++ c ∷ [])) (identity_key h) (own_more h before c by one))
    ∙ each_set (signer_behind before) (signer_behind (before ++ c ∷ [])) hosts by h e
    (λ place x q differ. ap (λ leaf. signer_at leaf (identity_key x)) (sym (other_more x place before c by one differ)))

-- A SIGNER THAT IS ASKED HAS A LEAF

-- how many a host signs of two lists
among_both : (host : ℕ) (xs ys : List CertSpec) → signed_among host (xs ++ ys) ≡ signed_among host xs + signed_among host ys
among_both host xs ys =
    ap (λ (ns : List ℕ). length (filter (λ by. eqb by host) ns)) (flat_map-append signer_of xs ys)
    ∙ (ap (λ (ns : List ℕ). length ns) (filter-append (λ by. eqb by host) (signers_of xs) (signers_of ys))
    ∙ length-append (filter (λ by. eqb by host) (signers_of xs)) (filter (λ by. eqb by host) (signers_of ys)))

-- at a place a list is what stands before, the item, and what stands behind
split_at : (xs : List CertSpec) (i : ℕ) (c : CertSpec) → slice_get xs i ≡ Some c → xs ≡ (take i xs ++ c ∷ []) ++ drop (i + 1) xs
split_at [] i c e = absurd (none-some c e)
split_at (x ∷ xs) zero c e = ap (λ (y : CertSpec). y ∷ xs) (same_Some x c e)
split_at (x ∷ xs) (suc i) c e =
    let next : suc i + 1 ≡ suc (i + 1) = omega arith in
    ap (λ (ys : List CertSpec). x ∷ ys) (split_at xs i c e) ∙ ap (λ n. x ∷ ((take i xs ++ c ∷ []) ++ drop n (x ∷ xs))) (sym next)

-- what a certificate that a host makes finds: the host, which runs, with a leaf left
pub record Signs (d : Doc) (before : List CertSpec) (by : ℕ) : Type 0 where
  pub h : HostSpec
  pub there : slice_get d.hosts by ≡ Some h
  pub runs : is_silent h.secret ≡ false
  pub leaf : leaf_behind h by before < leaf_count h.identity.lms

running : (d : Doc) (by : ℕ) (h : HostSpec) → slice_get d.hosts by ≡ Some h → runs (slice_get (makers d) by) ≡ true → is_silent h.secret ≡ false
running d by h e is = go h.secret (map (λ p. p.made) h.procs) (subst (λ (m : Option Maker). runs m ≡ true) (slice_get-map host_maker d.hosts by ∙ ap (option_map host_maker) e) is)
  where
    go : (s : Secret) (made : List ℕ) → runs (Some (maker s made)) ≡ true → is_silent s ≡ false
    go (Seed secret) made t = refl
    go (Public key) made t = absurd cc

module _ (d : Doc) (is : IsDocument d) (i : ℕ) (c : CertSpec) (at : slice_get d.certs i ≡ Some c) where
  named : list_all (λ n. is_place n d.hosts) (cert_hosts c) ≡ true
  named = test_at (λ (c : CertSpec). list_all (λ n. is_place n d.hosts) (cert_hosts c)) d.certs i c is.cert_hosts at

  all_run : list_all (λ n. runs (slice_get (makers d) n)) (signer_of c) ≡ true
  all_run = test_flat (λ n. runs (slice_get (makers d) n)) signer_of d.certs i c is.signers at

  pub signs : (by : ℕ) → signer_of c ≡ by ∷ [] → is_place by d.hosts ≡ true → Signs d (take i d.certs) by
  signs by one place =
      let host : (h : HostSpec) × (slice_get d.hosts by ≡ Some h) = inside d.hosts by (ltb-true by (length d.hosts) place) in
      let loud : runs (slice_get (makers d) by) ≡ true = (and_parts (runs (slice_get (makers d) by)) true (subst (λ (ns : List ℕ). list_all (λ n. runs (slice_get (makers d) n)) ns ≡ true) one all_run)).0 in
      let runs_here = running d by host.0 host.1 loud in
      let enough = enough_leaves d is by host.0 host.1 runs_here in
      let next : leaf_behind host.0 by (take i d.certs ++ c ∷ []) ≡ leaf_behind host.0 by (take i d.certs) + 1 = own_more host.0 (take i d.certs) c by one in
      let whole : signed_among by d.certs ≡ signed_among by (take i d.certs ++ c ∷ []) + signed_among by (drop (i + 1) d.certs) =
      ap (signed_among by) (split_at d.certs i c at) ∙ among_both by (take i d.certs ++ c ∷ []) (drop (i + 1) d.certs) in
      record { h = host.0; there = host.1; runs = runs_here; leaf = omega (arith, enough, next, whole) }

-- a running host has a key
has_key : (h : HostSpec) → is_silent h.secret ≡ false → (key : Key) × (identity_key h ≡ Some key) × (key.params ≡ h.identity)
has_key h runs = go h.identity h.secret runs
  where
    go : (identity : Params) (s : Secret) → is_silent s ≡ false → (key : Key) × (identity_of identity s ≡ Some key) × (key.params ≡ identity)
    go identity (Seed secret) t = (record { params = identity; seed = derived_seed secret 0; id = derived_id secret 0 }, refl, refl)
    go identity (Public key) t = absurd cc

-- its signer stands among all
signer_there : (hosts : List HostSpec) (before : List CertSpec) (by : ℕ) (h : HostSpec) → slice_get hosts by ≡ Some h → get_or (each (signer_behind before) hosts) by None ≡ signer_behind before by h
signer_there hosts before by h e = get_or_from_slice_get (each (signer_behind before) hosts) by (signer_behind before by h) None (each_at (signer_behind before) hosts by ∙ ap (option_map (signer_behind before by)) e)

pub can_sign : (d : Doc) (before : List CertSpec) (by : ℕ) → Signs d before by → CanSign (get_or (each (signer_behind before) d.hosts) by None)
can_sign d before by s =
    let key = has_key s.h s.runs in
    subst CanSign (sym (signer_there d.hosts before by s.h s.there))
    (subst (λ (k : Option Key). CanSign (signer_at (leaf_behind s.h by before) k)) (sym key.1) (subst (λ (p : Params). leaf_behind s.h by before < leaf_count p.lms) (sym key.2) s.leaf))

-- WHAT IT MAKES

made_so : (key : Option Key) (k : Key) → key ≡ Some k → (leaf : ℕ) (by : PubKey) (category : Category) (to : PubKey) (from until : ℕ) →
    signed_at (signer_or_none (signer_at leaf key)).key (signer_or_none (signer_at leaf key)).next by category to from until ≡ delegation_by scheme (signing_or_none key) leaf by category to from until
made_so None k e leaf by category to from until = absurd (none-some k e)
made_so (Some key) k e leaf by category to from until = ap (λ (z : Key). signed_at z leaf by category to from until) (sym (key_again key))

pub made_is : (d : Doc) (before : List CertSpec) (by : ℕ) → Signs d before by → (category : Category) (to from until : ℕ) →
    delegation_of (host_keys d.hosts) (signer_or_none (get_or (each (signer_behind before) d.hosts) by None)) by category to from until
    ≡ delegation_by scheme (signing_in (slice_get d.hosts by)) (leaf_in (slice_get d.hosts by) by before) (key_at d.hosts by) category (key_at d.hosts to) from until
made_is d before by s category to from until =
    let key = has_key s.h s.runs in
    ap (λ (z : Option Signing). delegation_of (host_keys d.hosts) (signer_or_none z) by category to from until) (signer_there d.hosts before by s.h s.there)
    ∙ (made_so (identity_key s.h) key.0 key.1 (leaf_behind s.h by before) (key_at d.hosts by) category (key_at d.hosts to) from until
    ∙ ap (λ (o : Option HostSpec). delegation_by scheme (signing_in o) (leaf_in o by before) (key_at d.hosts by) category (key_at d.hosts to) from until) (sym s.there))

-- ALL CERTIFICATES

certs_behind_more : (hosts : List HostSpec) (before xs : List CertSpec) (c : CertSpec) → doc_certs_behind hosts before (xs ++ c ∷ []) ≡ doc_certs_behind hosts before xs ++ doc_cert hosts (before ++ xs) c ∷ []
certs_behind_more hosts before [] c = ap (λ (ys : List CertSpec). doc_cert hosts ys c ∷ []) (sym (append-nil before))
certs_behind_more hosts before (x ∷ xs) c =
    ap (λ (ys : List DocCert). doc_cert hosts before x ∷ ys) (certs_behind_more hosts (before ++ x ∷ []) xs c
    ∙ ap (λ (ys : List CertSpec). doc_certs_behind hosts (before ++ x ∷ []) xs ++ doc_cert hosts ys c ∷ []) (append_assoc before (x ∷ []) xs))

pub certs_more : (hosts : List HostSpec) (specs : List CertSpec) (i : ℕ) (c : CertSpec) → slice_get specs i ≡ Some c → doc_certs hosts (take (i + 1) specs) ≡ doc_certs hosts (take i specs) ++ doc_cert hosts (take i specs) c ∷ []
certs_more hosts specs i c e = ap (doc_certs hosts) (take_more specs i c e) ∙ certs_behind_more hosts [] (take i specs) c

-- ONE THAT A HOST MAKES

pub record MadeAt (d : Doc) (before : List CertSpec) (by to : ℕ) : Type 0 where
  pub signs : Signs d before by
  pub by_there : by < length d.hosts
  pub to_there : to < length d.hosts

pub made_at : (d : Doc) → IsDocument d → (i : ℕ) (spec : CertSpec) (by : ℕ) (category : Category) (to from until : ℕ) (at : List ℕ) → slice_get d.certs i ≡ Some spec → spec ≡ Made by category to from until at → MadeAt d (take i d.certs) by to
made_at d is i spec by category to from until at there form =
    let e : slice_get d.certs i ≡ Some (Made by category to from until at) = there ∙ ap (λ (z : CertSpec). Some z) form in
    let all = named d is i (Made by category to from until at) e in
    let first = and_parts (is_place by d.hosts) (list_all (λ n. is_place n d.hosts) (to ∷ at)) all in
    let second = and_parts (is_place to d.hosts) (list_all (λ n. is_place n d.hosts) at) first.1 in
    record {
      signs = signs d is i (Made by category to from until at) e by refl first.0;
      by_there = ltb-true by (length d.hosts) first.0;
      to_there = ltb-true to (length d.hosts) second.0;
    }

pub signer_count : (hosts : List HostSpec) (before : List CertSpec) → length (each (signer_behind before) hosts) ≡ length hosts
signer_count hosts before = length-each (signer_behind before) hosts

pub key_count : (hosts : List HostSpec) → length (host_keys hosts) ≡ length hosts
key_count [] = refl
key_count (h ∷ hosts) = ap suc (key_count hosts)

-- the certificate that it becomes
pub cert_made : (d : Doc) (before : List CertSpec) (spec : CertSpec) (by : ℕ) (category : Category) (to from until : ℕ) (at : List ℕ) (keys : List PubKey) (signers : List (Option Signing)) (made : Cert) →
    Signs d before by → spec ≡ Made by category to from until at → keys ≡ host_keys d.hosts → signers ≡ each (signer_behind before) d.hosts →
    made ≡ certs.Delegation (delegation_of keys (signer_or_none (get_or signers by None)) by category to from until) → record { cert = made; at = at; by = Some by } ≡ doc_cert d.hosts before spec
cert_made d before spec by category to from until at keys signers made s form keys_are signers_are is =
    ap (λ (c : Cert). record { cert = c; at = at; by = Some by })
    (is ∙ ap (λ (x : Delegation). certs.Delegation x)
    (ap (λ (ks : List PubKey). delegation_of ks (signer_or_none (get_or signers by None)) by category to from until) keys_are
    ∙ (ap (λ (xs : List (Option Signing)). delegation_of (host_keys d.hosts) (signer_or_none (get_or xs by None)) by category to from until) signers_are
    ∙ made_is d before by s category to from until)))
    ∙ ap (λ (c : CertSpec). doc_cert d.hosts before c) (sym form)

pub signers_made : (d : Doc) (before : List CertSpec) (spec : CertSpec) (by : ℕ) (category : Category) (to from until : ℕ) (at : List ℕ) (signers new : List (Option Signing)) →
    Signs d before by → spec ≡ Made by category to from until at → signers ≡ each (signer_behind before) d.hosts →
    new ≡ slice_set signers by (option_map one_leaf_on (get_or signers by None)) → new ≡ each (signer_behind (before ++ spec ∷ [])) d.hosts
signers_made d before spec by category to from until at signers new s form signers_are is =
    is ∙ (ap (λ (xs : List (Option Signing)). slice_set xs by (option_map one_leaf_on (get_or xs by None))) signers_are
    ∙ (made_signers d.hosts before (Made by category to from until at) by s.h refl s.there
    ∙ ap (λ (c : CertSpec). each (signer_behind (before ++ c ∷ [])) d.hosts) (sym form)))

pub signers_given : (d : Doc) (before : List CertSpec) (spec : CertSpec) (cert : Cert) (at : List ℕ) (signers : List (Option Signing)) →
    spec ≡ Given cert at → signers ≡ each (signer_behind before) d.hosts → signers ≡ each (signer_behind (before ++ spec ∷ [])) d.hosts
signers_given d before spec cert at signers form signers_are =
    signers_are ∙ (given_signers d.hosts before (Given cert at) refl ∙ ap (λ (c : CertSpec). each (signer_behind (before ++ c ∷ [])) d.hosts) (sym form))

-- the list with one certificate more
pub certs_step : (hosts : List HostSpec) (specs : List CertSpec) (i : ℕ) (c : CertSpec) (items new : List DocCert) (x : DocCert) → slice_get specs i ≡ Some c → new ≡ items ++ x ∷ [] → x ≡ doc_cert hosts (take i specs) c → items ≡ doc_certs hosts (take i specs)
    → new ≡ doc_certs hosts (take (i + 1) specs)
certs_step hosts specs i c items new x e is same so_far =
    is ∙ (ap (λ (y : DocCert). items ++ y ∷ []) same ∙ (ap (λ (ys : List DocCert). ys ++ doc_cert hosts (take i specs) c ∷ []) so_far ∙ sym (certs_more hosts specs i c e)))

pub signers_step : (hosts : List HostSpec) (specs : List CertSpec) (i : ℕ) (c : CertSpec) (signers : List (Option Signing)) → slice_get specs i ≡ Some c → signers ≡ each (signer_behind (take i specs ++ c ∷ [])) hosts
    → signers ≡ each (signer_behind (take (i + 1) specs)) hosts
signers_step hosts specs i c signers e so_far = so_far ∙ ap (λ (before : List CertSpec). each (signer_behind before) hosts) (sym (take_more specs i c e))
