-- Whether a signed frame stands in a stream, at whatever place.
use Rattle.std.specs.Prelude.{◌≡◌, ℕ, Bool, true, false, ◌&&◌, ◌||◌, ◌==◌, List, [], ◌∷◌, ◌++◌, map, Result, Ok, Err, bytes_eq}
use Rattle.ds_label.specs.declared.category.PubKey.{PubKey}
use Rattle.ds_msg.specs.declared.message.Message.{Message}
use Rattle.ds_msg.specs.Spelling.{spelling_of_message}
use Rattle.ds_frame.specs.declared.item.Frame.{Frame}
use Rattle.ds_frame.specs.Checks.{read_frame}
use Rattle.ds_frame.specs.Fields.{ReadFault}
use Rattle.ds_frame.specs.Laws.{IsFrame}
use Rattle.ds_frame.specs.Spelling.{spelling_of_frame}
use Rattle.ds_inlet.specs.Hosts.{messages_from}

-- the bytes of messages
abbrev pub bodies_of : List Message → List (List ℕ)
bodies_of messages = map spelling_of_message messages

-- the same lists of bytes, in the same order
abbrev pub same_bodies : List (List ℕ) → List (List ℕ) → Bool
same_bodies [] [] = true
same_bodies [] (other ∷ others) = false
same_bodies (body ∷ bodies) [] = false
same_bodies (body ∷ bodies) (other ∷ others) = bytes_eq body other && same_bodies bodies others

-- the messages that were read are spelled as these
abbrev pub are_spelled_as : List Message → Result (List Message) ReadFault → Bool
are_spelled_as messages (Ok found) = same_bodies (bodies_of found) (bodies_of messages)
are_spelled_as messages (Err stop) = false

-- a frame was read, with this number and messages that are spelled as these
abbrev pub is_frame_of : (number : ℕ) → List Message → Result (Frame × List ℕ) ReadFault → Bool
is_frame_of number messages (Ok x) = (x.0.number == number) && are_spelled_as messages (messages_from 11 x.0.bodies)
is_frame_of number messages (Err stop) = false

-- at some place of the stream such a frame is read under the key
abbrev pub frame_stands : (key : PubKey) → (number : ℕ) → List Message → (stream : List ℕ) → Bool
frame_stands key number messages [] = false
frame_stands key number messages (byte ∷ rest) = is_frame_of number messages (read_frame key (byte ∷ rest)) || frame_stands key number messages rest

-- Somewhere in the stream stands the spelling of the frame with this number and these messages, with a signature that begins
-- with the number and is good under the key.
pub record FrameStands (key : PubKey) (number : ℕ) (messages : List Message) (stream : List ℕ) : Type 0 where
  pub front : List ℕ
  pub signature : List ℕ
  pub rest : List ℕ
  pub signed : IsFrame key (record { number = number; bodies = bodies_of messages }) signature
  pub parts : stream ≡ front ++ (spelling_of_frame number (bodies_of messages) signature ++ rest)
