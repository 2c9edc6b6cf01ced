-- What the plain world leaves open: signatures, chains of delegations, and spelling. A scheme gives these as
-- functions.
use Rattle.std.specs.Prelude.{ℕ, Bool, List, Option}
use Rattle.ds_label.specs.declared.category.PubKey.{PubKey}
use Rattle.ds_label.specs.declared.category.Category.{Category}
use Rattle.ds_cert.specs.declared.delegation.Delegation.{Delegation}
use Rattle.ds_cert.specs.declared.address.Address.{Address}
use Rattle.ds_cert.specs.declared.lane.LaneCert.{LaneCert}
use Rattle.ds_cert.specs.declared.cert.Cert.{Cert}
use Rattle.ds_msg.specs.declared.message.Message.{Message}

-- a key that signs: the numbers of its LMS and LM-OTS types (RFC 8554, sections 5.1 and 4.1), its secret seed and its
-- identifier
pub record SigningKey : Type 0 where
  pub tree : ℕ
  pub chains : ℕ
  pub seed : List ℕ
  pub identifier : List ℕ

-- The key that signs a lane's frames. It is a type of its own: today it has the parts of any key that signs.
abbrev pub LaneKey : Type 0
LaneKey = SigningKey

-- an inlet's name: the exporter and the number of the lane whose frames it counts
pub record InletName : Type 0 where
  pub exporter : PubKey
  pub lane : ℕ

-- what is read of a stream: a lane certificate first, then frames, each with its number and its messages
pub data Item : Type 0 where
  Hello : LaneCert → Item
  Framed : (number : ℕ) → List Message → Item

-- why a stream is broken: the cause's number, and the place in the stream
pub record Failure : Type 0 where
  pub cause : ℕ
  pub place : ℕ

-- what each of these functions must give stands beside it; the concrete ones are defined with the crates of
-- signatures, chains and formats
pub record Scheme : Type 0 where
  -- whether a certificate's signature is good under the key of the exporter that it names as its signer
  pub good : Delegation → Bool
  pub good_address : Address → Bool
  pub good_lane : LaneCert → Bool
  -- whether the key acts for the category by these delegations, each valid at the moment and good, from the creator
  -- on
  pub holds : List Delegation → (moment : ℕ) → Category → PubKey → Bool
  -- the shortest such chain of delegations; empty for the creator, and where the key doesn't hold
  pub chain : List Delegation → (moment : ℕ) → Category → PubKey → List Delegation
  -- the first good address certificate of the exporter that is valid at the moment
  pub find : List Address → (moment : ℕ) → PubKey → Option Address
  -- the signature, at this leaf of its key, of the delegation by an exporter
  pub delegation_signature : SigningKey → (leaf : ℕ) → (by : PubKey) → Category → (to : PubKey) → (from until : ℕ) → List ℕ
  pub spelling : Delegation → List ℕ
  -- the delegation or address certificate that these bytes spell
  pub read_cert : List ℕ → Option Cert
  -- whether the key has this leaf, and whether a lane's key has
  pub has_leaf : SigningKey → (leaf : ℕ) → Bool
  pub has_lane_leaf : LaneKey → (leaf : ℕ) → Bool
  -- the spelled hello of a lane, and a spelled frame with the signature at the leaf that is its number
  pub hello : LaneCert → List ℕ
  pub frame : LaneKey → (leaf : ℕ) → List Message → List ℕ
  -- what a host with this key and these inlets reads of a stream, up to the first fault; and the fault, where the
  -- rest can't be read on
  pub items : PubKey → List InletName → List ℕ → List Item
  pub ending : PubKey → List InletName → List ℕ → Option Failure
  -- whether a frame with this number and these messages stands in the stream, with a good signature under the key
  pub frame_signed : (key : PubKey) → (number : ℕ) → List Message → (stream : List ℕ) → Bool

-- the delegation by an exporter, with the signature at this leaf of its key
abbrev pub delegation_by : Scheme → SigningKey → (leaf : ℕ) → (by : PubKey) → Category → (to : PubKey) → (from until : ℕ) → Delegation
delegation_by s signing leaf by c to from until = record {
  category = c;
  to = to;
  from = from;
  until = until;
  by = by;
  signature = s.delegation_signature signing leaf by c to from until;
}
