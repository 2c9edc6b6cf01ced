-- What a process becomes by an answer: by numbers and by names.
use Rattle.std.proofs.Common.{◌≡◌, ℕ, Bool, true, false, cond, ◌&&◌, List, [], ◌∷◌, Option, Some, None, refl, sym, ◌∙◌}
use Rattle.std.specs.Prelude.{length}
use Rattle.std.specs.List.{list_all}
use Rattle.ds_label.specs.declared.category.PubKey.{PubKey}
use Rattle.ds_label.specs.declared.category.Category.{Category}
use Rattle.ds_label.specs.Names.{by_name}
use Rattle.ds_label.specs.Numbers.{by_number}
use Rattle.ds_label.specs.Flow.{IsRising, union, with_member}
use Rattle.ds_label.proofs.Namings.{numbers as numbering}
use Rattle.ds_label.proofs.Members.{has-with_member}
use Rattle.ds_script.specs.declared.note.Note.TheVariants as notes
use Rattle.ds_script.specs.Process.{Process as Numbered, finished_process, granted_process}
use Rattle.ds_msg.specs.declared.message.Message.{Message}
use Rattle.ds_msg.specs.declared.local.LocalMessage.{LocalMessage}
use Rattle.ds_script.specs.Inner.{finished}
use Rattle.ds_model.specs.World.{Process}
use Rattle.ds_model.specs.Desk.{Mapping, Local}
use Rattle.ds_model.specs.ProcessRules.{can_grant}
use Rattle.ds_model.specs.ProcessStep.{act_after_reply, noted_with, taken_after_reply}
use Rattle.ds_map.specs.Table.{IsTable}
use Rattle.ds_map.specs.Labels.{named, have_names, has_name}
use Rattle.ds_map.proofs.Numbers.{same_rules, labels_one_to_one}
use Rattle.ds_map.proofs.Sets.{list_all-alike, and_first, and_second}
use Rattle.ds_actor.specs.Seen.{process_of, mail_of, proc_labels, mail_labels}
use Rattle.ds_actor.specs.Replying.{granted_if, took_process}
use Rattle.ds_actor.proofs.Sites.{first_named, second_named, third_named}
use Rattle.ds_actor.proofs.Changes.{names_more}

-- ---- what names have

with_all : (test : ℕ → Bool) (n : ℕ) (label : List ℕ) → test n ≡ true → list_all test label ≡ true → list_all test (with_member by_number n label) ≡ true
with_all test n label e f =
    list_all-alike by_number numbering test (with_member by_number n label) (n ∷ label) (λ d. has-with_member by_number numbering d n label)
    ∙ (λ i. e i && f i)

union_all : (test : ℕ → Bool) (first second : List ℕ) → list_all test first ≡ true → list_all test second ≡ true → list_all test (union by_number first second) ≡ true
unfolding union
union_all test first [] e f = e
union_all test first (n ∷ second) e f =
    union_all test (with_member by_number n first) second (with_all test n first (and_first (test n) (list_all test second) f) e) (and_second (test n) (list_all test second) f)

-- ---- a grant

pub same_course : (own clear : List ℕ) (p : Numbered) → (granted_if own clear p).course ≡ p.course
same_course own clear p = go (can_grant by_number p.own p.clear own clear)
  where
    go : (b : Bool) → (cond b (granted_process own clear p) p).course ≡ p.course
    go true = refl
    go false = refl

pub same_script : (own clear : List ℕ) (p : Numbered) → (granted_if own clear p).script ≡ p.script
same_script own clear p = go (can_grant by_number p.own p.clear own clear)
  where
    go : (b : Bool) → (cond b (granted_process own clear p) p).script ≡ p.script
    go true = refl
    go false = refl

pub same_names : (own clear : List ℕ) (p : Numbered) → (granted_if own clear p).names ≡ p.names
same_names own clear p = go (can_grant by_number p.own p.clear own clear)
  where
    go : (b : Bool) → (cond b (granted_process own clear p) p).names ≡ p.names
    go true = refl
    go false = refl

module _ (here : PubKey) (rows : List Category) (p : Numbered) (m : LocalMessage)
    (proc_named : have_names here rows (proc_labels p) ≡ true) (mail_named : have_names here rows (mail_labels m) ≡ true) where
  own_has : list_all (has_name here rows) p.own ≡ true
  own_has = second_named here rows p.label p.own p.clear [] proc_named

  clear_has : list_all (has_name here rows) p.clear ≡ true
  clear_has = third_named here rows p.label p.own p.clear [] proc_named

  grant_has : list_all (has_name here rows) m.own ≡ true
  grant_has = second_named here rows m.label m.own m.clear [] mail_named

  grant_clear_has : list_all (has_name here rows) m.clear ≡ true
  grant_clear_has = third_named here rows m.label m.own m.clear [] mail_named

  -- what is granted has names
  pub granted_named : have_names here rows (proc_labels (granted_if m.own m.clear p)) ≡ true
  granted_named = go (can_grant by_number p.own p.clear m.own m.clear)
    where
      go : (b : Bool) → have_names here rows (proc_labels (cond b (granted_process m.own m.clear p) p)) ≡ true
      go true = λ i. first_named here rows p.label p.own p.clear [] proc_named i && (union_all (has_name here rows) p.own m.own own_has grant_has i && (union_all (has_name here rows) p.clear m.clear clear_has grant_clear_has i && true))
      go false = proc_named

  module _ (table : IsTable here rows) (hand : Option Message) (own_up : IsRising by_number p.own) (clear_up : IsRising by_number p.clear) where
    abbrev x : Process
    x = process_of here rows hand p

    same_grant : can_grant by_name x.own x.clear (named here rows m.own) (named here rows m.clear) ≡ can_grant by_number p.own p.clear m.own m.clear
    same_grant = (same_rules here rows table).grant p.own p.clear m.own m.clear own_up clear_up (λ i. own_has i && (clear_has i && (grant_has i && (grant_clear_has i && true))))

    -- a process to which it is granted, or not, by its names
    abbrev granted_names : Bool → Process
    granted_names b = cond b (record x { own = union by_name x.own (named here rows m.own); clear = union by_name x.clear (named here rows m.clear) }) x

    taken_if : (reg slot : ℕ) (b : Bool) → process_of here rows hand (finished_process (Some (notes.Took slot (length m.payload) b)) (Some (reg, m.payload)) (cond b (granted_process m.own m.clear p) p))
        ≡ noted_with (notes.Took slot (length m.payload) b) reg m.payload (granted_names b)
    taken_if reg slot true = λ i. noted_with (notes.Took slot (length m.payload) true) reg m.payload
        (record x { own = (labels_one_to_one here rows table).both p.own m.own i; clear = (labels_one_to_one here rows table).both p.clear m.clear i })
    taken_if reg slot false = refl

    pub taken_by : (reg slot : ℕ) → process_of here rows hand (took_process reg slot m p) ≡ taken_after_reply reg slot (Some (mail_of here rows m)) x
    taken_by reg slot = taken_if reg slot (can_grant by_number p.own p.clear m.own m.clear)
        ∙ (λ i. noted_with (notes.Took slot (length m.payload) (sym same_grant i)) reg m.payload (granted_names (sym same_grant i)))

-- ---- a mapping

pub mapped_by : (here : PubKey) (rows : List Category) (hand : Option Message) (p : Numbered) (reg host : ℕ) (c : Category) (n : ℕ)
    → process_of here rows hand (finished_process (Some (notes.Mapped c n)) None p) ≡ act_after_reply reg host (Mapping c) (Local n) (process_of here rows hand p)
mapped_by here rows hand p reg host c n = λ i. record (process_of here rows hand p) { course = finished (Some (notes.Mapped c n)) None p.course; names = names_more c n p.names i }
