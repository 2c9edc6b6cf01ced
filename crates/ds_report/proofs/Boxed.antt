-- A mailbox's section, piece by piece.
use Rattle.std.proofs.Common.{◌≡◌, ℕ, List, [], ◌∷◌, ◌++◌, refl, sym, ap, ap₂, ◌∙◌, map, length, drop, append_assoc}
use Rattle.std.specs.Prelude.{codes, decimal}
use Rattle.std.proofs.lemmas.List.{map-append, length-map}
use Rattle.ds_label.specs.declared.category.PubKey.{PubKey}
use Rattle.ds_label.specs.declared.category.Category.{Category}
use Rattle.ds_box.specs.declared.entry.BoxAct.{BoxAct}
use Rattle.ds_box.specs.declared.entry.BoxAct.TheVariants.{Put, Full, Took}
use Rattle.ds_box.specs.declared.entry.BoxEntry.{BoxEntry}
use Rattle.ds_model.specs.Mailbox.{box_after}
use Rattle.ds_model.specs.Plan.{Plan, BoxPlan}
use Rattle.ds_model.specs.World.{Mail, Mailbox}
use Rattle.ds_model.specs.Print.{Printing, box_line, box_lines, label_text, host_name, key_name, shown}
use Rattle.ds_exporter.specs.HostStates.{HostBox}
use Rattle.ds_exporter.specs.PlainHosts.{plain_act, plain_mail, plain_entry, plain_box, plan_of_box}
use Rattle.ds_report.specs.Boxes.{box_text, box_head, box_pieces, act_line, sizes_after, acts_text, took_line}

abbrev size_of : Mail Category → ℕ
size_of m = length m.payload

-- pieces of a line, in two orders
mail_pieces : (word key sp text nl : List ℕ) → word ++ (key ++ (sp ++ (text ++ nl))) ≡ (word ++ (key ++ (sp ++ text))) ++ nl
mail_pieces word key sp text nl = simp append_assoc

all_pieces : (A h dot s B lb C r D w nl more : List ℕ) →
    ((A ++ ((h ++ (dot ++ s)) ++ (B ++ (lb ++ (C ++ (r ++ (D ++ w))))))) ++ nl) ++ more
    ≡ ((A ++ (h ++ (dot ++ (s ++ B)))) ++ (lb ++ (C ++ (r ++ (D ++ w))))) ++ (nl ++ more)
all_pieces A h dot s B lb C r D w nl more = simp append_assoc

-- with the count and the lines in other words
pieces_with : (head label room : List ℕ) {n m : ℕ} {text more : List ℕ} → n ≡ m → text ≡ more →
    (head ++ (label ++ (codes " room " ++ (room ++ (codes " waits " ++ decimal n))))) ++ (10 ∷ text)
    ≡ (head ++ (label ++ (codes " room " ++ (room ++ (codes " waits " ++ decimal m))))) ++ (10 ∷ more)
pieces_with head label room e f = λ i. (head ++ (label ++ (codes " room " ++ (room ++ (codes " waits " ++ decimal (e i)))))) ++ (10 ∷ f i)

module _ (p : Printing) (plan : Plan) (here : PubKey) (rows : List Category) where
  line_is : (act : BoxAct) (waiting : List (Mail Category)) → act_line p plan act (map size_of waiting) ≡ box_line p plan (plain_act here rows act) waiting
  line_is (Put m) waiting = mail_pieces (codes "  put ") (key_name p plan m.from) (32 ∷ []) (shown m.payload) (10 ∷ [])
  line_is (Full m) waiting = mail_pieces (codes "  full ") (key_name p plan m.from) (32 ∷ []) (shown m.payload) (10 ∷ [])
  line_is Took [] = refl
  line_is Took (m ∷ waiting) = refl

  sizes_are : (act : BoxAct) (waiting : List (Mail Category)) → sizes_after act (map size_of waiting) ≡ map size_of (box_after (plain_act here rows act) waiting)
  sizes_are (Put m) waiting = sym (map-append size_of waiting _)
  sizes_are (Full m) waiting = refl
  sizes_are Took [] = refl
  sizes_are Took (m ∷ waiting) = refl

  pub lines_are : (entries : List BoxEntry) (waiting : List (Mail Category)) → acts_text p plan entries (map size_of waiting) ≡ box_lines p plan (map (plain_entry here rows) entries) waiting
  lines_are [] waiting = refl
  lines_are (e ∷ entries) waiting =
      ap₂ (λ (a b : List ℕ). a ++ b) (line_is e.act waiting)
      (ap (acts_text p plan entries) (sizes_are e.act waiting) ∙ lines_are entries (box_after (plain_act here rows e.act) waiting))

  -- a mailbox's section in its pieces
  pub section_of_box : (h : ℕ) (b : HostBox) → box_text p plan h (plan_of_box here rows b) (plain_box here rows b) ≡ box_pieces p plan here rows h b
  section_of_box h b =
      let q : BoxPlan = plan_of_box here rows b in let x : Mailbox = plain_box here rows b in
      all_pieces (codes "box ") (host_name p plan h) (46 ∷ []) (decimal b.slot) (codes " label ") (label_text p plan q.label) (codes " room ") (decimal b.mailbox.room)
      (codes " waits ") (decimal (length x.waiting)) (10 ∷ []) (box_lines p plan x.entries [])
      ∙ pieces_with (box_head p plan h b.slot) (label_text p plan q.label) (decimal b.mailbox.room) (length-map b.mailbox.waiting (plain_mail here rows)) (sym (lines_are b.mailbox.history []))
