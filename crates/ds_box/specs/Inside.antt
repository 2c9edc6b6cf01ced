-- What the fields of a mailbox are, and what they keep.
use Rattle.std.specs.Prelude.{◌≡◌, ◌-◌, vec_len, vec_capacity, if◌then◌else◌}
use Rattle.ds_box.specs.declared.state.BoxState.TheInside.{Inside}
use Rattle.ds_box.specs.Boxes.{Mailbox, MailboxWithCapacity, IsReplay, last_stamp}

abbrev pub mailbox_of : Inside → Mailbox
mailbox_of s = record { label = s.label; owner = s.owner; room = s.room; opening = s.opening.items; before = s.before; history = s.history.items; waiting = s.waiting.items }

-- as many calls as there may be entries, once there is memory for all messages that may wait
abbrev pub seen_of : Inside → MailboxWithCapacity
seen_of s = record { mailbox = mailbox_of s; spare = if s.waiting.is_ready then vec_capacity s.history - vec_len s.history else 0 }

pub record IsSound (s : Inside) : Type 0 where
  pub replay : IsReplay (mailbox_of s)
  pub last : s.last ≡ last_stamp (mailbox_of s)
  pub room : s.waiting.room ≡ s.room
