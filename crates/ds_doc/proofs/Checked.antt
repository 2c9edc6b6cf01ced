-- From the draft of a value that breaks no rule to what reading answers, and identity keys by their places.
use Rattle.std.proofs.Common.{◌≡◌, ℕ, suc, ◌<◌, List, [], ◌∷◌, map, length, None, Result, Ok, Err, refl, sym, ap, ◌∙◌, subst, IfOk, arith}
use Rattle.std.proofs.lemmas.List.{length-map}
use Rattle.std.specs.Prelude.{slice_index_or}
use Rattle.serde_json.specs.Data.{Data}
use Rattle.ds_plan.specs.declared.doc.Doc.{Doc}
use Rattle.ds_doc.specs.declared.fault.DocFault.{DocFault}
use Rattle.ds_doc.specs.declared.draft.Draft.{Draft}
use Rattle.ds_doc.specs.Draft.{draft_of}
use Rattle.ds_doc.specs.Values.{doc_of}
use Rattle.ds_doc.specs.Reading.{AnswersBy, answer_by, answer_of, fault_of, root_of}
use Rattle.ds_doc.specs.Checking.{CheckedBy}

pub checked_ok : (d : Data) (draft : Draft) (doc : Doc) → (fault_of d ≡ None) × (draft ≡ draft_of (root_of d)) → doc ≡ doc_of draft → answer_of d ≡ Ok doc
unfolding answer_of
checked_ok d draft doc is e = (λ i. answer_by (is.0 i) (sym is.1 i)) ∙ ap Ok (sym e)

pub checked_err : (d : Data) (e : DocFault) → CheckedBy (fault_of d) (draft_of (root_of d)) (Err e) → AnswersBy (answer_of d) (Err e)
unfolding answer_of
checked_err d e h = h

-- what was made for each thing, where all could be made
pub made_all : {X V E : Type 0} (f : X → V) (xs : List X) (all : List V) (made : List (Result V E)) → map Ok all ≡ made → length made ≡ length xs
    → ((i : ℕ) (d : Result V E) (x : X) → i < length xs → IfOk (slice_index_or made i d) (λ v. v ≡ f (slice_index_or xs i x)))
    → all ≡ map f xs
made_all {X} {V} {E} f xs all made gone count is =
    let size : length (map Ok all) ≡ length xs = ap (λ (ms : List (Result V E)). length ms) gone ∙ count in
    go xs all (sym (length-map {B = Result V E} all Ok) ∙ size)
    (λ i d x lt. subst (λ (ms : List (Result V E)). IfOk (slice_index_or ms i d) (λ v. v ≡ f (slice_index_or xs i x))) (sym gone) (is i d x lt))
  where
    go : (xs : List X) (all : List V) → length all ≡ length xs
        → ((i : ℕ) (d : Result V E) (x : X) → i < length xs → IfOk (slice_index_or (map Ok all) i d) (λ v. v ≡ f (slice_index_or xs i x)))
        → all ≡ map f xs
    go [] [] same is = refl
    go [] (v ∷ all) same is = absurd (omega (arith, same))
    go (x ∷ xs) [] same is = absurd (omega (arith, same))
    go (x ∷ xs) (v ∷ all) same is =
        let first : v ≡ f x = is 0 (Ok v) x (omega arith) in
        ap (λ (y : V). y ∷ all) first
        ∙ ap (λ (ys : List V). f x ∷ ys) (go xs all (omega (arith, same)) (λ i d y lt. is (suc i) d y (omega (arith, lt))))
