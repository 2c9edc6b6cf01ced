-- Labels that have names, and a process's section.
use Rattle.std.proofs.Common.{◌≡◌, ℕ, List, [], ◌∷◌, ◌++◌, refl, sym, ap, ◌∙◌, append_assoc}
use Rattle.std.specs.Prelude.{codes, decimal, IsTrue, Bool, true, ◌&&◌}
use Rattle.std.specs.List.{list_all}
use Rattle.std.proofs.lemmas.Bool.{and_parts}
use Rattle.ds_label.specs.declared.category.PubKey.{PubKey}
use Rattle.ds_label.specs.declared.category.Category.{Category}
use Rattle.ds_map.specs.Labels.{has_name, have_names}
use Rattle.ds_model.specs.Plan.{Plan}
use Rattle.ds_model.specs.World.{Process}
use Rattle.ds_model.specs.Print.{Printing, proc_section, host_name, label_text}
use Rattle.ds_report.specs.Words.{notes_text, proc_head, proc_labels_text}

module _ (here : PubKey) (rows : List Category) where
  head : (label : List ℕ) (labels : List (List ℕ)) → IsTrue (have_names here rows (label ∷ labels)) → IsTrue (have_names here rows (label ∷ []))
  head label labels e = ap (λ (b : Bool). b && true) (and_parts (list_all (has_name here rows) label) (have_names here rows labels) e).0

  tail : (label : List ℕ) (labels : List (List ℕ)) → IsTrue (have_names here rows (label ∷ labels)) → IsTrue (have_names here rows labels)
  tail label labels e = (and_parts (list_all (has_name here rows) label) (have_names here rows labels) e).1

  pub first_named : (a b c : List ℕ) → IsTrue (have_names here rows (a ∷ b ∷ c ∷ [])) → IsTrue (have_names here rows (a ∷ []))
  first_named a b c e = head a (b ∷ c ∷ []) e

  pub second_named : (a b c : List ℕ) → IsTrue (have_names here rows (a ∷ b ∷ c ∷ [])) → IsTrue (have_names here rows (b ∷ []))
  second_named a b c e = head b (c ∷ []) (tail a (b ∷ c ∷ []) e)

  pub third_named : (a b c : List ℕ) → IsTrue (have_names here rows (a ∷ b ∷ c ∷ [])) → IsTrue (have_names here rows (c ∷ []))
  third_named a b c e = tail b (c ∷ []) (tail a (b ∷ c ∷ []) e)

-- pieces of a line and what follows it, in two orders
process_pieces : (A h dot q B pl C lb D ow E cl nl notes : List ℕ) →
    ((A ++ ((h ++ (dot ++ q)) ++ (B ++ (pl ++ (C ++ (lb ++ (D ++ (ow ++ (E ++ cl))))))))) ++ nl) ++ notes
    ≡ (A ++ (h ++ (dot ++ (q ++ (B ++ pl))))) ++ ((C ++ (lb ++ (D ++ (ow ++ (E ++ cl))))) ++ (nl ++ notes))
process_pieces A h dot q B pl C lb D ow E cl nl notes = simp append_assoc

-- a process's section in four pieces
pub section_of_process : (p : Printing) (plan : Plan) (h q : ℕ) (x : Process)
    → proc_section p plan h q x ≡ proc_head p plan h q x.course.place ++ (proc_labels_text p plan x ++ (10 ∷ notes_text p plan x.course.notes))
section_of_process p plan h q x =
    process_pieces (codes "proc ") (host_name p plan h) (46 ∷ []) (decimal q) (codes " at ") (decimal x.course.place) (codes " label ") (label_text p plan x.label)
    (codes " own ") (label_text p plan x.own) (codes " clear ") (label_text p plan x.clear) (10 ∷ []) (notes_text p plan x.course.notes)
