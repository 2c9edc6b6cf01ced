-- One meaning for two spellings of a category: under a table each number that has a name stands for that name alone, and
-- labels of such numbers for the labels of their names.
use Rattle.std.specs.Prelude.{◌≡◌, ℕ, List, [], ◌∷◌, Some, IsTrue, length}
use Rattle.ds_label.specs.declared.category.PubKey.{PubKey}
use Rattle.ds_label.specs.declared.category.Category.{Category}
use Rattle.ds_label.specs.Flow.{has, flows, same_label, with_member, union, minus, IsRising}
use Rattle.ds_label.specs.Names.{by_name}
use Rattle.ds_label.specs.Numbers.{by_number}
use Rattle.ds_model.specs.Mapping.{is_known, number_of, to_number, to_name}
use Rattle.ds_model.specs.ProcessRules.{within, within_either, may_send, may_take, may_relabel, may_publish, may_make, can_grant, mailbox_rule}
use Rattle.ds_map.specs.Table.{IsTable}
use Rattle.ds_map.specs.Labels.{has_name, name_of, named, numbered, have_names, are_known}

-- so it is for each table of each host
abbrev pub UnderEachTable : (PubKey → List Category → Type 0) → Type 0
UnderEachTable P = (here : PubKey) (rows : List Category) → IsTable here rows → P here rows

-- where a table of this host has names for the numbers of these labels, it is so for the labels of their names
abbrev pub UnderTables : PubKey → List (List ℕ) → ((List ℕ → List Category) → Type 0) → Type 0
UnderTables here labels P = (rows : List Category) → IsTable here rows → IsTrue (have_names here rows labels) → P (named here rows)

-- where a table of any host has them
abbrev pub UnderNames : List (List ℕ) → ((List ℕ → List Category) → Type 0) → Type 0
UnderNames labels P = (here : PubKey) → UnderTables here labels P

-- a known category's number has its name, and a number's name has that number, and its kind
pub record IsOneToOne (here : PubKey) (rows : List Category) : Type 0 where
  pub number : (c : Category) → IsTrue (is_known here rows c) → to_name here rows (number_of here rows c) ≡ Some c
  pub name : (n : ℕ) (c : Category) → to_name here rows n ≡ Some c → to_number here rows c ≡ Some n
  pub secrecy : (n : ℕ) → IsTrue (has_name here rows n) → by_name.secret (name_of here rows n) ≡ by_number.secret n

-- Labels in order are turned into each other without loss, and as many members; one more member, both labels' members and
-- what another label lacks are made alike.
pub record LabelsAreOneToOne (here : PubKey) (rows : List Category) : Type 0 where
  pub numbers : (label : List ℕ) → IsRising by_number label → IsTrue (have_names here rows (label ∷ [])) → numbered here rows (named here rows label) ≡ label
  pub names : (label : List Category) → IsRising by_name label → IsTrue (are_known here rows (label ∷ [])) → named here rows (numbered here rows label) ≡ label
  pub in_order : (label : List ℕ) → IsRising by_name (named here rows label)
  pub size : (label : List ℕ) → IsRising by_number label → IsTrue (have_names here rows (label ∷ [])) → length (named here rows label) ≡ length label
  pub more : (n : ℕ) (label : List ℕ) → named here rows (with_member by_number n label) ≡ with_member by_name (name_of here rows n) (named here rows label)
  pub both : (first second : List ℕ) → named here rows (union by_number first second) ≡ union by_name (named here rows first) (named here rows second)
  pub less : (first second : List ℕ) → IsTrue (have_names here rows (first ∷ second ∷ [])) → named here rows (minus by_number first second) ≡ minus by_name (named here rows first) (named here rows second)

-- What is asked of labels of numbers is answered as what is asked of the labels of their names.
pub record SameAnswers (here : PubKey) (rows : List Category) : Type 0 where
  pub member : (n : ℕ) (label : List ℕ) → IsTrue (have_names here rows ((n ∷ []) ∷ label ∷ [])) → has by_name (name_of here rows n) (named here rows label) ≡ has by_number n label
  pub same : (first second : List ℕ) → IsTrue (have_names here rows (first ∷ second ∷ [])) → same_label by_name (named here rows first) (named here rows second) ≡ same_label by_number first second
  pub inside : (small large : List ℕ) → IsTrue (have_names here rows (small ∷ large ∷ [])) → within by_name (named here rows small) (named here rows large) ≡ within by_number small large
  pub inside_either : (small one other : List ℕ) → IsTrue (have_names here rows (small ∷ one ∷ other ∷ [])) →
      within_either by_name (named here rows small) (named here rows one) (named here rows other) ≡ within_either by_number small one other
  pub flow : (first second owned : List ℕ) → IsTrue (have_names here rows (first ∷ second ∷ owned ∷ [])) →
      flows by_name (named here rows first) (named here rows second) (named here rows owned) ≡ flows by_number first second owned

-- So are the rules of processes and mailboxes.
pub record SameRules (here : PubKey) (rows : List Category) : Type 0 where
  pub send : (label own clear to grant grant_clear : List ℕ) → IsTrue (have_names here rows (label ∷ own ∷ clear ∷ to ∷ grant ∷ grant_clear ∷ [])) →
      may_send by_name (named here rows label) (named here rows own) (named here rows clear) (named here rows to) (named here rows grant) (named here rows grant_clear) ≡ may_send by_number label own clear to grant grant_clear
  pub take : (box label own : List ℕ) → IsTrue (have_names here rows (box ∷ label ∷ own ∷ [])) → may_take by_name (named here rows box) (named here rows label) (named here rows own) ≡ may_take by_number box label own
  pub relabel : (label own clear to : List ℕ) → IsTrue (have_names here rows (label ∷ own ∷ clear ∷ to ∷ [])) →
      may_relabel by_name (named here rows label) (named here rows own) (named here rows clear) (named here rows to) ≡ may_relabel by_number label own clear to
  pub publish : (label own : List ℕ) → IsTrue (have_names here rows (label ∷ own ∷ [])) → may_publish by_name (named here rows label) (named here rows own) ≡ may_publish by_number label own
  pub make : (own : List ℕ) (made n : ℕ) → IsRising by_number own → IsTrue (have_names here rows (own ∷ (n ∷ []) ∷ [])) → may_make by_name (named here rows own) made (name_of here rows n) ≡ may_make by_number own made n
  pub grant : (own clear grant grant_clear : List ℕ) → IsRising by_number own → IsRising by_number clear → IsTrue (have_names here rows (own ∷ clear ∷ grant ∷ grant_clear ∷ [])) →
      can_grant by_name (named here rows own) (named here rows clear) (named here rows grant) (named here rows grant_clear) ≡ can_grant by_number own clear grant grant_clear
  pub mailbox : (box label : List ℕ) → IsTrue (have_names here rows (box ∷ label ∷ [])) → mailbox_rule by_name (Some (named here rows box)) (named here rows label) ≡ mailbox_rule by_number (Some box) label
