-- A process and a message inside a host, by the names of their numbers.
use Rattle.std.specs.Prelude.{ℕ, List, [], ◌∷◌, Option, IsTrue}
use Rattle.ds_label.specs.declared.category.PubKey.{PubKey}
use Rattle.ds_label.specs.declared.category.Category.{Category}
use Rattle.ds_script.specs.Process.{Process as Numbered}
use Rattle.ds_msg.specs.declared.message.Message.{Message}
use Rattle.ds_msg.specs.declared.local.LocalMessage.{LocalMessage}
use Rattle.ds_model.specs.World.{Process, Mail}
use Rattle.ds_map.specs.Labels.{named, have_names}
use Rattle.ds_map.specs.Table.{IsTable}
use Rattle.ds_actor.specs.Usable.{categories, IsAgreed}
use Rattle.ds_actor.specs.Sites.{BoxSite, labels_of}

-- a process by its names
abbrev pub process_of : PubKey → List Category → Option Message → Numbered → Process
process_of here rows hand p = record {
  script = p.script;
  course = p.course;
  label = named here rows p.label;
  own = named here rows p.own;
  clear = named here rows p.clear;
  names = categories p.names;
  made = p.made;
  hand = hand;
}

-- a message inside the host
abbrev pub mail_of : PubKey → List Category → LocalMessage → Mail Category
mail_of here rows m = record {
  from = m.from;
  label = named here rows m.label;
  own = named here rows m.own;
  clear = named here rows m.clear;
  payload = m.payload;
}

-- the labels of a process, and of such a message
abbrev pub proc_labels : Numbered → List (List ℕ)
proc_labels p = p.label ∷ p.own ∷ p.clear ∷ []

abbrev pub mail_labels : LocalMessage → List (List ℕ)
mail_labels m = m.label ∷ m.own ∷ m.clear ∷ []

-- so it is under every table of the host that has the numbers of the process's usable names, and names for the numbers of
-- its labels and of the mailboxes'
abbrev pub UnderTables : PubKey → List BoxSite → Numbered → (List Category → Type 0) → Type 0
UnderTables here boxes p P = (rows : List Category) → IsTable here rows → IsAgreed here rows p.names
    → IsTrue (have_names here rows (p.label ∷ p.own ∷ p.clear ∷ labels_of boxes)) → P rows
