-- What the entries and notes of a run are counted as: messages that were queued on a lane, frames that were written, messages that
-- were put into a mailbox and taken from it, and what a rule refused.
use Rattle.std.specs.Prelude.{ℕ, Bool, true, false, ◌==◌, List, [], ◌∷◌, ◌++◌, length, filter, flat_map}
use Rattle.ds_label.specs.Rules.{rule_number}
use Rattle.ds_label.specs.declared.rule.Rule.TheVariants.{LaneFull, BoxFull, Stale}
use Rattle.ds_label.specs.declared.category.Category.{Category}
use Rattle.ds_script.specs.declared.note.Note.{Note}
use Rattle.ds_script.specs.declared.note.Note.TheVariants as notes
use Rattle.ds_model.specs.Mailbox.{BoxEntry, PutIn, FoundFull, TookOut}
use Rattle.ds_model.specs.World.{Process, Mail, Mailbox, LaneLine, QueuedLine, FullLine, FramedLine, DroppedLine, Conn, ConnLine, FrameLine, StaleLine, PassLine, DropLine, Host, World}
use Rattle.ds_summary.specs.declared.counted.Counted.{Counted}
use Rattle.ds_summary.specs.declared.counted.Counted.TheVariants.{Queued, Framed, Put, Took, Refused}

-- ---- each note and entry

abbrev pub note_counts : Note → List Counted
note_counts (notes.Print text) = []
note_counts notes.Sent = []
note_counts (notes.Took slot size granted) = []
note_counts (notes.SetLabel label) = []
note_counts (notes.NewCat c) = []
note_counts (notes.Delegated c to) = []
note_counts (notes.Mapped c number) = []
note_counts notes.Imported = []
note_counts (notes.Refused rule) = Refused (rule_number rule) ∷ []

abbrev pub box_entry_counts : BoxEntry (Mail Category) → List Counted
box_entry_counts (PutIn m) = Put ∷ []
box_entry_counts (FoundFull m) = Refused (rule_number BoxFull) ∷ []
box_entry_counts TookOut = Took ∷ []

abbrev pub lane_line_counts : LaneLine → List Counted
lane_line_counts (QueuedLine w) = Queued ∷ []
lane_line_counts (FullLine w) = Refused (rule_number LaneFull) ∷ []
lane_line_counts (FramedLine number count) = Framed ∷ []
lane_line_counts (DroppedLine rule sender slot) = Refused (rule_number rule) ∷ []

abbrev pub conn_line_counts : ConnLine → List Counted
conn_line_counts (FrameLine number count) = []
conn_line_counts (StaleLine number) = Refused (rule_number Stale) ∷ []
conn_line_counts (PassLine slot) = []
conn_line_counts (DropLine rule slot) = Refused (rule_number rule) ∷ []

-- ---- all of a world

abbrev pub process_counts : Process → List Counted
process_counts x = flat_map note_counts x.course.notes

abbrev pub mailbox_counts : Mailbox → List Counted
mailbox_counts x = flat_map box_entry_counts x.entries

abbrev pub lane_counts : List LaneLine → List Counted
lane_counts lines = flat_map lane_line_counts lines

abbrev pub conn_counts : Conn → List Counted
conn_counts x = flat_map conn_line_counts x.lines

abbrev pub host_counts : Host → List Counted
host_counts x = flat_map process_counts x.procs ++ (flat_map mailbox_counts x.boxes ++ flat_map lane_counts x.logs)

abbrev pub world_counts : World → List Counted
world_counts w = flat_map host_counts w.hosts ++ flat_map conn_counts w.conns

-- ---- how many

abbrev pub same : Counted → Counted → Bool
same Queued Queued = true
same Framed Framed = true
same Put Put = true
same Took Took = true
same (Refused a) (Refused b) = a == b
same _ _ = false

abbrev pub count : List Counted → Counted → ℕ
count all one = length (filter (λ x. same x one) all)
