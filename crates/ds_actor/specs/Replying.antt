-- What a process becomes by an answer, in its host's own numbers.
use Rattle.std.specs.Prelude.{◌≡◌, ℕ, ◌+◌, List, length, Some, if◌then◌else◌}
use Rattle.ds_label.specs.Numbers.{by_number}
use Rattle.ds_script.specs.declared.note.Note.TheVariants as notes
use Rattle.ds_script.specs.Process.{Process as Numbered, finished_process, granted_process}
use Rattle.ds_msg.specs.declared.local.LocalMessage.{LocalMessage}
use Rattle.ds_model.specs.ProcessRules.{can_grant}

-- the operation ended: the script is the same, and the place is the next one
pub record MovedOn (old new : Numbered) : Type 0 where
  pub script : new.script ≡ old.script
  pub place : new.course.place ≡ old.course.place + 1

-- ownership and clearance join the process's, both or neither
abbrev pub granted_if : (own clear : List ℕ) → Numbered → Numbered
granted_if own clear p = if can_grant by_number p.own p.clear own clear then granted_process own clear p else p

-- the message was taken into the register
abbrev pub took_process : (reg slot : ℕ) → LocalMessage → Numbered → Numbered
took_process reg slot m p = finished_process
    (Some (notes.Took slot (length m.payload) (can_grant by_number p.own p.clear m.own m.clear)))
    (Some (reg, m.payload))
    (granted_if m.own m.clear p)
