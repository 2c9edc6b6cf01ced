-- What stands on a desk at the start.
use Rattle.std.proofs.Common.{◌≡◌, ℕ, suc, ◌+◌, Bool, true, false, cond, List, [], ◌∷◌, ◌++◌, length, length-append, filter, Some, slice_get, option_map, refl, sym, ◌∙◌, ap, subst, arith, eqb, eqb-true}
use Rattle.std.specs.List.{flat_map}
use Rattle.std.proofs.lemmas.Bool.{cond-true, cond-false}
use Rattle.std.proofs.lemmas.List.Concat.{flat_map-append}
use Rattle.std.proofs.lemmas.List.Elements.{filter-append}
use Rattle.std.proofs.lemmas.Option.{same_Some}
use Rattle.ds_cert.specs.declared.delegation.Delegation.{Delegation}
use Rattle.ds_model.specs.Scheme.{delegation_by}
use Rattle.ds_model.specs.Desk.{Desk}
use Rattle.ds_model.specs.Plan.{HostPlan}
use Rattle.ds_model.specs.World.{Host}
use Rattle.ds_model.specs.Views.{desk_at}
use Rattle.ds_label.specs.declared.category.PubKey.{PubKey}
use Rattle.ds_label.specs.declared.category.Category.{Category}
use Rattle.ds_scheme.specs.TheScheme.{scheme}
use Rattle.ds_plan.specs.declared.doc.Doc.{Doc}
use Rattle.ds_plan.specs.declared.host.HostSpec.{HostSpec}
use Rattle.ds_plan.specs.declared.cert.CertSpec.{CertSpec}
use Rattle.ds_plan.specs.declared.cert.CertSpec.TheVariants.{Made, Given}
use Rattle.ds_plan.specs.Keys.{host_key}
use Rattle.ds_plan.specs.Documents.{is_silent, signer_of, signers_of}
use Rattle.ds_setup.specs.Keys.{key_at, signing_key}
use Rattle.ds_setup.specs.Signed.{DocCert, address_leaves, signed_among, leaf_behind, leaf_in, signing_in, doc_cert, doc_certs_behind}
use Rattle.ds_setup.specs.Plans.{host_setup_of}
use Rattle.ds_setup.specs.Starts.{start_of, start_host, start_desk, running_desk, empty_desk, issued_by, delegations_in, is_by}
use Rattle.ds_setup.specs.Setups.{EachIssuesInOrder, SilentDesksAreEmpty, signed_from}
use Rattle.ds_setup.proofs.Places.{each_at, inside, length-each}
use Rattle.ds_setup.proofs.Facts.{key_there}
use Rattle.ds_setup.proofs.Setups.{plan_host}

module _ (hosts : List HostSpec) (host : ℕ) (h : HostSpec) (there : slice_get hosts host ≡ Some h) where
  -- the leaf goes on by one where the host signs
  signed_more : (before : List CertSpec) (c : CertSpec) → signed_among host (before ++ c ∷ []) ≡ signed_among host before + length (filter (λ by. eqb by host) (signer_of c ++ []))
  signed_more before c =
      ap (λ (ns : List ℕ). length (filter (λ by. eqb by host) ns)) (flat_map-append signer_of before (c ∷ []))
      ∙ (ap (λ (ns : List ℕ). length ns) (filter-append (λ by. eqb by host) (signers_of before) (signer_of c ++ []))
      ∙ length-append (filter (λ by. eqb by host) (signers_of before)) (filter (λ by. eqb by host) (signer_of c ++ [])))

  abbrev issues : List CertSpec → List CertSpec → List Delegation
  issues before specs = issued_by host (doc_certs_behind hosts before specs)

  abbrev made : (leaf by : ℕ) → Category → (to from until : ℕ) → Delegation
  made leaf by category to from until = delegation_by scheme (signing_in (slice_get hosts by)) leaf (key_at hosts by) category (key_at hosts to) from until

  own : (by : ℕ) (before : List CertSpec) (category : Category) (to from until : ℕ) → by ≡ host →
      made (leaf_in (slice_get hosts by) by before) by category to from until ≡ delegation_by scheme (signing_key h) (leaf_behind h host before) (host_key h) category (key_at hosts to) from until
  own by before category to from until same =
      ap (λ g. made (leaf_in (slice_get hosts g) g before) g category to from until) same
      ∙ (ap (λ o. delegation_by scheme (signing_in o) (leaf_in o host before) (key_at hosts host) category (key_at hosts to) from until) there
      ∙ ap (λ (key : PubKey). delegation_by scheme (signing_key h) (leaf_behind h host before) key category (key_at hosts to) from until) (key_there hosts host h there))

  in_order : (before specs : List CertSpec) → issues before specs ≡ signed_from hosts host h (leaf_behind h host before) specs
  in_order before [] = refl
  in_order before (Given cert at ∷ later) =
      in_order (before ++ Given cert at ∷ []) later
      ∙ ap (λ leaf. signed_from hosts host h leaf later) (let more : signed_among host (before ++ Given cert at ∷ []) ≡ signed_among host before + 0 = signed_more before (Given cert at) in omega (arith, more))
  in_order before (Made by category to from until at ∷ later) = go (eqb by host) refl (in_order (before ++ Made by category to from until at ∷ []) later) (signed_more before (Made by category to from until at))
    where
      go : (b : Bool) → eqb by host ≡ b
          → issues (before ++ Made by category to from until at ∷ []) later ≡ signed_from hosts host h (leaf_behind h host (before ++ Made by category to from until at ∷ [])) later
          → signed_among host (before ++ Made by category to from until at ∷ []) ≡ signed_among host before + length (cond (eqb by host) (by ∷ []) [])
          → flat_map (λ (c : DocCert). delegations_in c.cert) (cond (eqb by host)
          (doc_cert hosts before (Made by category to from until at) ∷ filter (λ (c : DocCert). is_by host c.by) (doc_certs_behind hosts (before ++ Made by category to from until at ∷ []) later))
          (filter (λ (c : DocCert). is_by host c.by) (doc_certs_behind hosts (before ++ Made by category to from until at ∷ []) later)))
          ≡ cond (eqb by host)
          (delegation_by scheme (signing_key h) (leaf_behind h host before) (host_key h) category (key_at hosts to) from until ∷ signed_from hosts host h (suc (leaf_behind h host before)) later)
          (signed_from hosts host h (leaf_behind h host before) later)
      go true is rest more =
          let one : signed_among host (before ++ Made by category to from until at ∷ []) ≡ signed_among host before + 1 = subst (λ b. signed_among host (before ++ Made by category to from until at ∷ []) ≡ signed_among host before + length (cond b (by ∷ []) [])) is more in
          let leaf : leaf_behind h host (before ++ Made by category to from until at ∷ []) ≡ suc (leaf_behind h host before) = omega (arith, one) in
          subst (λ b. flat_map (λ (c : DocCert). delegations_in c.cert) (cond b
          (doc_cert hosts before (Made by category to from until at) ∷ filter (λ (c : DocCert). is_by host c.by) (doc_certs_behind hosts (before ++ Made by category to from until at ∷ []) later))
          (filter (λ (c : DocCert). is_by host c.by) (doc_certs_behind hosts (before ++ Made by category to from until at ∷ []) later)))
          ≡ cond b
          (delegation_by scheme (signing_key h) (leaf_behind h host before) (host_key h) category (key_at hosts to) from until ∷ signed_from hosts host h (suc (leaf_behind h host before)) later)
          (signed_from hosts host h (leaf_behind h host before) later)) (sym is)
          (ap (λ (new : Delegation). new ∷ issues (before ++ Made by category to from until at ∷ []) later) (own by before category to from until (eqb-true by host is))
          ∙ ap (λ (rest : List Delegation). delegation_by scheme (signing_key h) (leaf_behind h host before) (host_key h) category (key_at hosts to) from until ∷ rest) (rest ∙ ap (λ leaf. signed_from hosts host h leaf later) leaf))
      go false is rest more =
          let none : signed_among host (before ++ Made by category to from until at ∷ []) ≡ signed_among host before + 0 = subst (λ b. signed_among host (before ++ Made by category to from until at ∷ []) ≡ signed_among host before + length (cond b (by ∷ []) [])) is more in
          let leaf : leaf_behind h host (before ++ Made by category to from until at ∷ []) ≡ leaf_behind h host before = omega (arith, none) in
          subst (λ b. flat_map (λ (c : DocCert). delegations_in c.cert) (cond b
          (doc_cert hosts before (Made by category to from until at) ∷ filter (λ (c : DocCert). is_by host c.by) (doc_certs_behind hosts (before ++ Made by category to from until at ∷ []) later))
          (filter (λ (c : DocCert). is_by host c.by) (doc_certs_behind hosts (before ++ Made by category to from until at ∷ []) later)))
          ≡ cond b
          (delegation_by scheme (signing_key h) (leaf_behind h host before) (host_key h) category (key_at hosts to) from until ∷ signed_from hosts host h (suc (leaf_behind h host before)) later)
          (signed_from hosts host h (leaf_behind h host before) later)) (sym is)
          (rest ∙ ap (λ leaf. signed_from hosts host h leaf later) leaf)

  -- how many they are
  count : (leaf : ℕ) (specs : List CertSpec) → length (signed_from hosts host h leaf specs) ≡ signed_among host specs
  count leaf [] = refl
  count leaf (Given cert at ∷ later) = count leaf later
  count leaf (Made by category to from until at ∷ later) = go (eqb by host) (count leaf later) (count (suc leaf) later)
    where
      go : (b : Bool) → length (signed_from hosts host h leaf later) ≡ signed_among host later → length (signed_from hosts host h (suc leaf) later) ≡ signed_among host later
          → length (cond b (delegation_by scheme (signing_key h) leaf (host_key h) category (key_at hosts to) from until ∷ signed_from hosts host h (suc leaf) later) (signed_from hosts host h leaf later))
          ≡ length (cond b (by ∷ filter (λ n. eqb n host) (signers_of later)) (filter (λ n. eqb n host) (signers_of later)))
      go true here next = ap suc next
      go false here next = here

module _ (d : Doc) where
  desk_there : (host : ℕ) (h : HostSpec) → slice_get d.hosts host ≡ Some h → desk_at (start_of d) host ≡ Some (start_desk d host h)
  desk_there host h e = ap (option_map (λ (x : Host). x.desk)) (each_at (start_host d) d.hosts host ∙ ap (option_map (start_host d host)) e)

  runs_so : (host : ℕ) (h : HostSpec) → is_silent h.secret ≡ false → start_desk d host h ≡ running_desk d host h
  runs_so host h runs = cond-false (is_silent h.secret) empty_desk (running_desk d host h) runs

pub each_issues : EachIssuesInOrder
each_issues d host h x e runs is =
    let desk : running_desk d host h ≡ x = sym (runs_so d host h runs) ∙ same_Some (start_desk d host h) x (sym (desk_there d host h e) ∙ is) in
    let start : leaf_behind h host [] ≡ address_leaves h + length h.lanes = omega arith in
    let issued : (running_desk d host h).issued ≡ signed_from d.hosts host h (address_leaves h + length h.lanes) d.certs = in_order d.hosts host h e [] d.certs ∙ ap (λ leaf. signed_from d.hosts host h leaf d.certs) start in
    let many : length (running_desk d host h).issued ≡ signed_among host d.certs = ap (λ (new : List Delegation). length new) issued ∙ count d.hosts host h e (address_leaves h + length h.lanes) d.certs in
    let leaf : (running_desk d host h).leaf ≡ address_leaves h + length h.lanes + length (running_desk d host h).issued = ap (λ n. address_leaves h + length h.lanes + n) (sym many) in
    subst (λ (y : Desk). (y.issued ≡ signed_from d.hosts host h (address_leaves h + length h.lanes) d.certs) × (y.leaf ≡ address_leaves h + length h.lanes + length y.issued)) desk (issued, leaf)

pub silent_desks : SilentDesksAreEmpty
silent_desks d host is silent = go (inside d.hosts host (omega (arith, is, length-each (host_setup_of d.hosts) d.hosts)))
  where
    go : (h : HostSpec) × (slice_get d.hosts host ≡ Some h) → desk_at (start_of d) host ≡ Some empty_desk
    go (h, e) =
        let quiet : is_silent h.secret ≡ true = sym (ap (λ (p : HostPlan). p.silent) (plan_host d host h e)) ∙ silent in
        desk_there d host h e ∙ ap Some (cond-true (is_silent h.secret) empty_desk (running_desk d host h) quiet)
