-- What reading answers is a document.
use Rattle.std.proofs.Common.{◌≡◌, ℕ, List, [], ◌∷◌, map, Bool, true, false, Option, Some, None, Result, Ok, Err, refl, ap, ◌∙◌, subst, IfOk, if◌then◌else◌}
use Rattle.serde_json.specs.Data.{Data}
use Rattle.ds_label.specs.declared.category.PubKey.{PubKey}
use Rattle.ds_plan.specs.declared.doc.Doc.{Doc}
use Rattle.ds_plan.specs.Keys.{identity_key}
use Rattle.ds_plan.specs.Documents.{IsDocument}
use Rattle.ds_doc.specs.declared.fault.Fault.{Fault}
use Rattle.ds_doc.specs.declared.form.Form.TheVariants.{Object}
use Rattle.ds_doc.specs.declared.form.Object.TheVariants.{Document as DocumentForm}
use Rattle.ds_doc.specs.declared.draft.Draft.{Draft}
use Rattle.ds_doc.specs.declared.draft.DraftHost.{DraftHost}
use Rattle.ds_doc.specs.Shapes.{judged, least, lesser, is_before}
use Rattle.ds_doc.specs.Draft.{draft_of}
use Rattle.ds_doc.specs.Rules.{rules, over_full}
use Rattle.ds_doc.specs.Values.{doc_of, doc_by, host, host_keys}
use Rattle.ds_doc.specs.declared.fault.DocFault.{DocFault}
use Rattle.lms_sig.specs.Keys.{Key}
use Rattle.ds_doc.specs.Reading.{AnswersBy, first_of, root_of, is_misshapen, or_by_rules, fault_by, fault_of, answer_by, answer_of, identity}
use Rattle.ds_doc.proofs.Faults.{none_broken}
use Rattle.ds_doc.proofs.Whole.{document_of}
use Rattle.ds_doc.proofs.Drafts.{limits_of}

no_some : (b : Bool) (f g : Fault) → (if b then Some g else Some f) ≡ None → ⊥
no_some true f g e = cc
no_some false f g e = cc

second_none : (f g : Option Fault) → lesser f g ≡ None → g ≡ None
second_none None g e = e
second_none (Some f) None e = refl
second_none (Some f) (Some g) e = absurd (no_some (is_before g f) f g e)

or_none : (f : Option Fault) (draft : Draft) → or_by_rules f draft ≡ None → f ≡ None
or_none None draft e = refl
or_none (Some f) draft e = absurd cc

or_rules : (f : Option Fault) (draft : Draft) → or_by_rules f draft ≡ None → least (rules draft) ≡ None
or_rules None draft e = e
or_rules (Some f) draft e = absurd cc

misshapen : (form : Option Fault) → is_misshapen form ≡ true → form ≡ None → ⊥
misshapen None e g = cc
misshapen (Some f) e g = cc

by_rules : (form : Option Fault) (draft : Draft) → fault_by form draft ≡ None → or_by_rules (lesser form (least (over_full draft))) draft ≡ None
unfolding fault_by
by_rules form draft e = cases (is_misshapen form) refl e
  where
    cases : (b : Bool) → is_misshapen form ≡ b → (if b then form else or_by_rules (lesser form (least (over_full draft))) draft) ≡ None → or_by_rules (lesser form (least (over_full draft))) draft ≡ None
    cases true g h = absurd (misshapen form g h)
    cases false g h = h

-- without fault
no_fault : (root : Rattle.ds_doc.specs.Places.Spot) (form : Option Fault) → fault_by form (draft_of root) ≡ None → IsDocument (doc_of (draft_of root))
no_fault root form e =
    let draft = draft_of root in
    let kept = by_rules form draft e in
    let full = second_none form (least (over_full draft)) (or_none (lesser form (least (over_full draft))) draft kept) in
    document_of draft (limits_of root) (none_broken (over_full draft) full)
    (none_broken (rules draft) (or_rules (lesser form (least (over_full draft))) draft kept))

answered : (fault : Option Fault) (draft : Draft) (doc : Doc) → answer_by fault draft ≡ Ok doc → (fault ≡ None) × (doc_of draft ≡ doc)
answered None draft doc e = (refl, same (doc_of draft) doc e refl)
  where
    by_ok : Result Doc (ℕ × ℕ) → Doc
    by_ok (Ok x) = x
    by_ok (Err f) = doc_of draft

    same : (a b : Doc) → answer_by None draft ≡ Ok b → a ≡ doc_of draft → a ≡ b
    same a b g h = h ∙ ap by_ok g
answered (Some f) draft doc e = absurd cc

pub is_document : (d : Data) (doc : Doc) → answer_of d ≡ Ok doc → IsDocument doc
unfolding answer_of fault_of
is_document d doc e =
    let found = answered (fault_by (least (judged (Object DocumentForm) 0 d)) (draft_of (root_of d))) (draft_of (root_of d)) doc e in
    subst IsDocument found.1 (no_fault (root_of d) (least (judged (Object DocumentForm) 0 d)) found.0)

identity_is : (keys : List PubKey) (h : DraftHost) → identity h ≡ identity_key (host keys h)
unfolding host
identity_is keys h = refl

identities_are : (keys : List PubKey) (hs : List DraftHost) → map identity hs ≡ map identity_key (map (host keys) hs)
identities_are keys [] = refl
identities_are keys (h ∷ hs) = λ i. identity_is keys h i ∷ identities_are keys hs i

doc_identities : (draft : Draft) → map identity draft.hosts ≡ map identity_key (doc_of draft).hosts
unfolding doc_of doc_by
doc_identities draft = identities_are (host_keys draft.hosts) draft.hosts

pub its_identities : (d : Data) (doc : Doc) → answer_of d ≡ Ok doc → map identity (draft_of (root_of d)).hosts ≡ map identity_key doc.hosts
unfolding answer_of
its_identities d doc e =
    let found = answered (fault_of d) (draft_of (root_of d)) doc e in
    doc_identities (draft_of (root_of d)) ∙ ap (λ x. map identity_key x.hosts) found.1

pub documented : {B : Type 0} (d : Data) (r : Result (Doc × B) DocFault) → AnswersBy (answer_of d) (first_of r) → IfOk r (λ x. IsDocument x.0)
documented d (Ok x) h = is_document d x.0 h
documented d (Err e) h = tt

pub keys_answered : {B : Type 0} (d : Data) (items : B → List (Option Key)) (r : Result (Doc × B) DocFault) → AnswersBy (answer_of d) (first_of r)
    → IfOk r (λ x. items x.1 ≡ map identity (draft_of (root_of d)).hosts) → IfOk r (λ x. items x.1 ≡ map identity_key x.0.hosts)
keys_answered d items (Ok x) h g = g ∙ its_identities d x.0 h
keys_answered d items (Err e) h g = tt
