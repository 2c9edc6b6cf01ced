-- The steps that stay inside a process.
use Rattle.std.specs.Prelude.{ℕ, ◌+◌, List, [], ◌∷◌, ◌++◌, length, slice_get, slice_set, get_or, bytes_eq, Option, Some, None, nat_lt, if◌then◌else◌}
use Rattle.ds_label.specs.declared.rule.Rule.TheVariants.{TooLong}
use Rattle.ds_script.specs.declared.op.Op.{Op}
use Rattle.ds_script.specs.declared.op.Op.TheVariants as ops
use Rattle.ds_script.specs.declared.note.Note.{Note}
use Rattle.ds_script.specs.declared.note.Note.TheVariants as notes
use Rattle.ds_script.specs.Replay.{onward}

-- what the steps inside a process touch: the next operation's place in the script, the bytes of each register, and the notes
pub record Course : Type 0 where
  pub place : ℕ
  pub registers : List (List ℕ)
  pub notes : List Note

-- the bytes of a register
abbrev pub register : ℕ → Course → List ℕ
register reg c = get_or c.registers reg []

-- a register's new bytes, and the next place
abbrev pub loaded : ℕ → List ℕ → Course → Course
loaded reg bytes c = record c { place = c.place + 1; registers = slice_set c.registers reg bytes }

-- a note, and the next place
abbrev pub noted : Note → Course → Course
noted note c = record c { place = c.place + 1; notes = c.notes ++ note ∷ [] }

-- most bytes of a register
abbrev pub register_limit : ℕ
register_limit = 16384

-- the register becomes the joined bytes, unless they are too many
abbrev pub joined : ℕ → List ℕ → Course → Course
joined reg bytes c = if nat_lt register_limit (length bytes) then noted (notes.Refused TooLong) c else loaded reg bytes c

-- one of the five operations that stay inside a process; none for another
abbrev pub inner_op : Op → Course → Option Course
inner_op (ops.Set reg text) c = Some (loaded reg text c)
inner_op (ops.Join reg left right) c = Some (joined reg (register left c ++ register right c) c)
inner_op (ops.IfEq left right to) c = Some (if bytes_eq (register left c) (register right c) then record c { place = to } else record c { place = c.place + 1 })
inner_op (ops.Jump to) c = Some (record c { place = to })
inner_op (ops.Print reg) c = Some (noted (notes.Print (register reg c)) c)
inner_op _ c = None

-- the step at the course's place: none where the script has ended or the operation isn't one of the five
abbrev pub inner : List Op → Course → Option Course
inner script c = onward (slice_get script c.place) (λ op. inner_op op c)

-- a note more, or none
abbrev pub noted_if : Option Note → List Note → List Note
noted_if None notes = notes
noted_if (Some note) notes = notes ++ note ∷ []

-- a register's new bytes, or none
abbrev pub loaded_if : Option (ℕ × List ℕ) → List (List ℕ) → List (List ℕ)
loaded_if None registers = registers
loaded_if (Some l) registers = slice_set registers l.0 l.1

-- the end of an operation: its note, what it loads, and the next place
abbrev pub finished : Option Note → Option (ℕ × List ℕ) → Course → Course
finished note load c = record { place = c.place + 1; registers = loaded_if load c.registers; notes = noted_if note c.notes }
