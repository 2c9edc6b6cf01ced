-- Two runs that meet the premises, computed: a letter is delivered from a lane's own connection, and over a link on
-- which an outsider wrote a copy of the lane's stream. In place of signatures and spelling stands a toy: a hello is
-- one byte, and a frame is its number and how many letters it has.
use Rattle.std.specs.Prelude.{◌≡◌, ℕ, Bool, true, ◌&&◌, ◌==◌, List, [], ◌∷◌, ◌++◌, length, replicate, codes, bytes_eq}
use Rattle.ds_msg.specs.declared.message.Message.{Message}
use Rattle.ds_model.specs.Keys.{same_key}
use Rattle.ds_model.specs.Scheme.{Scheme, Item, Hello, Framed}
use Rattle.ds_model.specs.Plan.{Plan, Link, OfLane}
use Rattle.ds_model.specs.Mailbox.{PutIn}
use Rattle.ds_model.specs.World.{World}
use Rattle.ds_model.specs.ProcessStep.{mail_of}
use Rattle.ds_model.specs.Step.{Event, Step, Frame, Arrive, Accept, Deliver, Copy, run}
use Rattle.ds_model.specs.Access.{InBox, access}
use Rattle.ds_model.specs.Examples.OneHost.{only_key, other_key, new_conn}
use Rattle.ds_model.specs.Examples.TwoHosts.{letter, letter_lane, toy_scheme, receiver, sender, receiving, posting}
use Rattle.ds_delivery.specs.Delivered.{Premises}

-- the letter is the one message that has a spelling
abbrev pub is_letter : Message → Bool
is_letter m = same_key m.to only_key && ((m.slot == 1) && ((length m.label == 0) && ((length m.own == 0) && ((length m.clear == 0) && ((length m.certs == 0) && bytes_eq m.payload (codes "x"))))))

-- frames: a number, and a count of letters
abbrev pub letter_frames : List ℕ → List Item
letter_frames [] = []
letter_frames (number ∷ []) = []
letter_frames (number ∷ count ∷ stream) = Framed number (replicate count letter) ∷ letter_frames stream

-- a hello, and then frames
abbrev pub letter_items : List ℕ → List Item
letter_items [] = []
letter_items (hello ∷ stream) = Hello letter_lane ∷ letter_frames stream

-- what is read is signed and good
abbrev pub letter_scheme : Scheme
letter_scheme = record toy_scheme {
  good_lane = λ lane. true;
  frame = λ signing leaf messages. leaf ∷ length messages ∷ [];
  items = λ key inlets stream. letter_items stream;
  frame_signed = λ key number messages stream. true;
}

-- the lane's own connection, and a link to the same host
abbrev pub two_ways : Plan
two_ways = record { hosts = receiver ∷ sender ∷ []; conn_plans = record { host = 0; source = OfLane 1 0 } ∷ record { host = 0; source = Link } ∷ [] }

-- the world at the start
abbrev pub before_both : World
before_both = record { hosts = receiving ∷ posting ∷ []; conns = new_conn ∷ new_conn ∷ [] }

-- the letter is set, judged and queued, lifted and framed
abbrev pub sent : List Event
sent = Step 1 0 ∷ Step 1 0 ∷ Step 1 0 ∷ Frame 1 0 ∷ Frame 1 0 ∷ []

-- it arrives on the lane's own connection, is taken and judged
abbrev pub by_lane : List Event
by_lane = sent ++ (Arrive 0 3 ∷ Accept 0 ∷ Accept 0 ∷ Deliver 0 ∷ [])

-- or an outsider copies the lane's stream, and it arrives on the link
abbrev pub by_link : List Event
by_link = sent ++ (Copy 1 0 0 3 ∷ Arrive 1 3 ∷ Accept 1 ∷ Accept 1 ∷ Deliver 1 ∷ [])

-- both runs meet the premises
abbrev pub PremisesHold : List Event → Type 0
PremisesHold events = Premises letter_scheme is_letter two_ways before_both events

-- and at their ends a delivery puts the letter into the mailbox
abbrev pub IsPut : List Event → Event → Type 0
IsPut before e = access letter_scheme two_ways (run letter_scheme two_ways before_both before) e 0 ≡ InBox 0 (PutIn (mail_of other_key letter))
