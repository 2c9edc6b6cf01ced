use Rattle.std.proofs.Common.{◌≡◌, ◌≤◌, ◌+◌, ℕ, List, length, drop}
use Rattle.ds_frame.specs.Spelling.{spelling_of_bodies}
use Rattle.std.specs.List.{All}
use Rattle.ds_msg.specs.declared.message.Message.{Message}
use Rattle.ds_msg.specs.Ranges.{MessageRange}
use Rattle.ds_inlet.specs.Hosts.{messages_from}
use Rattle.ds_inlet.proofs.Messages.{with_front}
use Rattle.ds_inlet.proofs.hosts.messages_of.Given as goal

pub record IsReadSoFar (messages : List Message) (at index start : ℕ) (bodies : List (List ℕ)) : Type 0 where
  pub reads : with_front messages (messages_from at (drop index bodies)) ≡ messages_from start bodies
  pub range : All MessageRange messages
  pub place : at + length (spelling_of_bodies (drop index bodies)) ≤ start + length (spelling_of_bodies bodies)

abbrev pub invariant-loop-bytes : goal.invariant-loop-bytes
invariant-loop-bytes l = IsReadSoFar l.messages.items l.place l.bytes-index l.start l.bodies
