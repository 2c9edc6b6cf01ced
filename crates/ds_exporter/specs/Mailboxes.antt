-- A host's mailboxes by their slots, and one to which a message comes.
use Rattle.std.specs.Prelude.{◌≡◌, ◌<◌, ℕ, Bool, ◌==◌, List, Option, Some, None, option_map, position, slice_get}
use Rattle.ds_script.specs.declared.actor.Actor.{Actor}
use Rattle.ds_msg.specs.declared.local.LocalMessage.{LocalMessage}
use Rattle.ds_model.specs.Mailbox.{put_entry}
use Rattle.ds_box.specs.Boxes.{entered}
use Rattle.ds_exporter.specs.declared.parts.BoxPart.{BoxPart}
use Rattle.ds_exporter.specs.HostStates.{HostBox}

abbrev pub has_slot : (slot : ℕ) → HostBox → Bool
has_slot slot b = b.slot == slot

-- the place of the mailbox with that slot
abbrev pub place_of : List HostBox → (slot : ℕ) → Option ℕ
place_of boxes slot = position (has_slot slot) boxes

abbrev pub label_in : HostBox → List ℕ
label_in b = b.mailbox.label

-- the label of the mailbox at a place
abbrev pub label_at : List HostBox → Option ℕ → Option (List ℕ)
label_at boxes None = None
label_at boxes (Some place) = option_map label_in (slice_get boxes place)

-- the mailbox after a message came to it: it waits there, or was dropped since the mailbox is full
abbrev pub put_in : (stamp : ℕ) → Actor → LocalMessage → HostBox → HostBox
put_in stamp who m b = record b { mailbox = entered stamp who (put_entry b.mailbox.room m b.mailbox.waiting) b.mailbox }

-- there is memory for a message in the mailbox at a place
abbrev pub HasSpareAt : (place : ℕ) → List BoxPart → Type 0
HasSpareAt place boxes = (b : BoxPart) → slice_get boxes place ≡ Some b → 0 < b.state.spare
