-- A lane's worker: what it holds, and what it becomes.
use Rattle.std.specs.Prelude.{◌≡◌, ℕ, ◌<◌, List, [], ◌∷◌, ◌++◌, length, map, All}
use Rattle.ds_label.specs.declared.rule.Rule.{Rule}
use Rattle.ds_cert.specs.declared.lane.LaneCert.{LaneCert}
use Rattle.ds_script.specs.declared.actor.Actor.{Actor}
use Rattle.ds_msg.specs.Ranges.{MessageRange}
use Rattle.ds_msg.specs.Spelling.{spelling_of_message}
use Rattle.ds_frame.specs.Spelling.{part_of_frame, spelling_of_frame, spelling_of_hello}
use Rattle.lms_sig.specs.Merkle.{public_key}
use Rattle.lms_state.specs.Signers.{Signing, leaves_of, next_signature, one_leaf_on}
use Rattle.ds_lane.specs.declared.batch.Waiting.{Waiting}
use Rattle.ds_lane.specs.declared.worker_entry.WorkerEntry.{WorkerEntry}
use Rattle.ds_lane.specs.declared.worker_entry.WorkerAct.TheVariants.{Framed, Dropped}
use Rattle.ds_lane.specs.Lanes.{WaitsOn}

-- the actor and the lane's certificate; the lane key and its next leaf; the messages that it lifted; the stream that it
-- wrote; and what is printed of it
pub record Worker : Type 0 where
  pub who : Actor
  pub cert : LaneCert
  pub signing : Signing
  pub hand : List Waiting
  pub stream : List ℕ
  pub entries : List WorkerEntry

-- a worker, and for how many entries there is memory
pub record WorkerWithCapacity : Type 0 where
  pub worker : Worker
  pub spare : ℕ

-- a leaf is left
abbrev pub IsReady : Signing → Type 0
IsReady s = s.next < leaves_of s.key

-- the certificate's key is the signer's public key
abbrev pub IsKeyOf : Signing → LaneCert → Type 0
IsKeyOf s cert = cert.key.0 ≡ public_key s.key.params s.key.seed s.key.id

-- The certificate is of the worker's key; where something is in hand a leaf is left, and each message in hand is of the lane.
pub record IsHolding (e : Worker) : Type 0 where
  pub key : IsKeyOf e.signing e.cert
  pub ready : 0 < length e.hand → IsReady e.signing
  pub on : All (WaitsOn e.cert) e.hand

abbrev pub HasSpelling : Waiting → Type 0
HasSpelling w = MessageRange w.message

-- the bytes of messages
abbrev pub spelled : Waiting → List ℕ
spelled w = spelling_of_message w.message

abbrev pub bodies_of : List Waiting → List (List ℕ)
bodies_of hand = map spelled hand

-- with its hello alone written
abbrev pub fresh_worker : Actor → LaneCert → Signing → Worker
fresh_worker who cert signing = record { who = who; cert = cert; signing = signing; hand = []; stream = spelling_of_hello cert; entries = [] }

-- with these in hand
abbrev pub holding : List Waiting → Worker → Worker
holding batch e = record e { hand = batch }

-- the frame of what is in hand: its number is the next leaf, and the signature is the one at that leaf
abbrev pub frame_of : Signing → List Waiting → List ℕ
frame_of s hand = spelling_of_frame s.next (bodies_of hand) (next_signature s (part_of_frame s.next (bodies_of hand)))

abbrev pub framed_entry : (stamp number count : ℕ) → WorkerEntry
framed_entry stamp number count = record { stamp = stamp; act = Framed number count }

abbrev pub dropped_entry : (stamp : ℕ) → Rule → Waiting → WorkerEntry
dropped_entry stamp rule w = record { stamp = stamp; act = Dropped rule w.from w.message.slot }

-- its hand as one frame
abbrev pub framed : (stamp : ℕ) → Worker → Worker
framed stamp e = record e {
  signing = one_leaf_on e.signing;
  hand = [];
  stream = e.stream ++ frame_of e.signing e.hand;
  entries = e.entries ++ framed_entry stamp e.signing.next (length e.hand) ∷ [];
}

-- its hand dropped by a rule
abbrev pub dropped : (stamp : ℕ) → Rule → Worker → Worker
dropped stamp rule e = record e { hand = []; entries = e.entries ++ map (dropped_entry stamp rule) e.hand }
