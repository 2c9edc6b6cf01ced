-- Whole inputs: what is found is spelled so, and what is spelled so is found.
use Rattle.std.proofs.Common.{◌≡◌, ℕ, cond, eqb, List, [], ◌++◌, length, refl, sym, ap, subst, ◌∙◌}
use Rattle.std.specs.Prelude.{Result, Ok, Err, IfOk}
use Rattle.std.proofs.lemmas.Bool.{eqb-true}
use Rattle.std.proofs.lemmas.List.{append-nil, nil_from_length}
use Rattle.ds_wire.specs.Fields.{IsBytes}
use Rattle.ds_label.specs.declared.category.Category.{Category}
use Rattle.ds_cert.specs.declared.fault.CertFault.{CertFault}
use Rattle.ds_cert.specs.declared.cert.Cert.{Cert}
use Rattle.ds_cert.specs.declared.cert.Cert.TheVariants as certs
use Rattle.ds_cert.specs.Fields.{alone, placed, Answers}
use Rattle.ds_cert.specs.Laws.{IsSpelling}
use Rattle.ds_cert.specs.Ranges.{LabelFits, CertFits, DelegationFits, AddressFits}
use Rattle.ds_cert.specs.Reading.{label_at, delegation_at, address_at, read_label, read_delegation, read_address, read_cert, as_delegation, as_address}
use Rattle.ds_cert.specs.Spelling.{spelling_of_label, spelling_of_cert, spelling_of_delegation, spelling_of_address, signed_part_of_delegation, signed_part_of_address}
use Rattle.ds_cert.proofs.Steps.{bind_ok, bind_is, guard_ok, ok_is}
use Rattle.ds_cert.proofs.RecordLaws.{is_label, is_delegation, is_address}

placed_ok : {A : Type 0} (input : List ℕ) (r : Result A ℕ) (x : A) → placed input r ≡ Ok x → r ≡ Ok x
placed_ok input (Ok y) x e = e
placed_ok input (Err left) x e = absurd cc

module _ {A : Type 0} (Fits : A → Type 0) (spelling : A → List ℕ) (reading : List ℕ → Result (A × List ℕ) ℕ) (is : IsSpelling Fits spelling reading) where
  alone_spelt : (input : List ℕ) (x : A) → IsBytes input → alone (reading input) ≡ Ok x → Fits x × (input ≡ spelling x)
  alone_spelt input x fits e =
      let b = bind_ok (reading input) (λ (y : A × List ℕ). cond (eqb (length y.1) 0) (Ok y.0) (Err (length y.1))) x e in
      let g = guard_ok (eqb (length b.0.1) 0) (length b.0.1) (Ok b.0.0) x b.2 in
      let t = is.spelled_so input b.0.0 b.0.1 fits b.1 in
      let nothing : b.0.1 ≡ [] = nil_from_length b.0.1 (eqb-true _ _ g.0) in
      let whole : input ≡ spelling b.0.0 = t.0.parts ∙ ap (λ (r : List ℕ). spelling b.0.0 ++ r) nothing ∙ append-nil (spelling b.0.0) in
      subst (λ (y : A). Fits y × (input ≡ spelling y)) (ok_is b.0.0 x g.1) (t.1, whole)

  pub alone_again : (x : A) → Fits x → alone (reading (spelling x)) ≡ Ok x
  alone_again x fits =
      let read : reading (spelling x) ≡ Ok (x, []) = ap reading (sym (append-nil (spelling x))) ∙ is.read_again x [] fits in
      bind_is (reading (spelling x)) (λ (y : A × List ℕ). cond (eqb (length y.1) 0) (Ok y.0) (Err (length y.1))) (x, []) (Ok x) read refl

  pub found_whole : (Range : A → Type 0) → ((x : A) → Fits x → Range x) → (input : List ℕ) (r : Result A CertFault) → IsBytes input → Answers (λ y. y) r (placed input (alone (reading input))) → IfOk r (λ x. Range x × (input ≡ spelling x))
  found_whole Range in_range input (Ok x) fits given = let s = alone_spelt input x fits (placed_ok input (alone (reading input)) x given) in (in_range x s.0, s.1)
  found_whole Range in_range input (Err e) fits given = tt

  pub only_whole : (input : List ℕ) (r : Result A CertFault) (x : A) → Answers (λ y. y) r (placed input (alone (reading input))) → Fits x → input ≡ spelling x → Answers {Y = A} (λ y. y) r (Ok x)
  only_whole input r x given fits e = subst (λ (read : Result A ℕ). Answers {Y = A} (λ y. y) r read) (ap (placed input) (ap (λ (bytes : List ℕ). alone (reading bytes)) e ∙ alone_again x fits)) given

-- ---- labels at the front

pub found_label : {X : Type 0} (view : X → List Category × List ℕ) (input : List ℕ) (r : Result X CertFault) → IsBytes input → Answers view r (read_label input) → IfOk r (λ x. input ≡ spelling_of_label (view x).0 ++ (view x).1)
unfolding read_label
found_label view input (Ok x) fits given = (is_label.spelled_so input (view x).0 (view x).1 fits (placed_ok input (label_at input) (view x) given)).0.parts
found_label view input (Err e) fits given = tt

pub only_label : {X : Type 0} (view : X → List Category × List ℕ) (input : List ℕ) (r : Result X CertFault) (members : List Category) (rest : List ℕ) → Answers view r (read_label input) → LabelFits members → input ≡ spelling_of_label members ++ rest → Answers view r (Ok (members, rest))
unfolding read_label
only_label view input r members rest given fits e =
    subst (λ (read : Result (List Category × List ℕ) ℕ). Answers view r read) (ap (placed input) (ap label_at e ∙ is_label.read_again members rest fits)) given

-- ---- certificates of either kind

cert_again : (x : Cert) → CertFits x → read_cert (spelling_of_cert x) ≡ Ok x
unfolding read_cert read_delegation read_address spelling_of_delegation spelling_of_address signed_part_of_delegation signed_part_of_address
cert_again (certs.Delegation d) fits = ap (λ (r : Result _ ℕ). as_delegation (placed (spelling_of_delegation d) r)) (alone_again DelegationFits spelling_of_delegation delegation_at is_delegation d fits)
cert_again (certs.Address a) fits = ap (λ (r : Result _ ℕ). as_address (placed (spelling_of_address a) r)) (alone_again AddressFits spelling_of_address address_at is_address a fits)

pub only_cert : (input : List ℕ) (r : Result Cert CertFault) (x : Cert) → Answers (λ y. y) r (read_cert input) → CertFits x → input ≡ spelling_of_cert x → Answers {Y = Cert} (λ y. y) r (Ok x)
only_cert input r x given fits e = subst (λ (read : Result Cert ℕ). Answers {Y = Cert} (λ y. y) r read) (ap read_cert e ∙ cert_again x fits) given
