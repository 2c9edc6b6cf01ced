-- The document for a number: host a sends that many messages, by turns to three mailboxes, and host b takes and prints those
-- that come to its two. Messages with b's second mailbox and with c's carry a's category s; b may have it, and c may not.
use Rattle.std.specs.Prelude.{ℕ, zero, suc, ◌-◌, ◌^◌, ◌%◌, ◌==◌, List, [], ◌∷◌, ◌++◌, replicate, codes, decimal, Option, Some, None, if◌then◌else◌}
use Rattle.lms_sig.specs.declared.params.Params.{Params}
use Rattle.lms_sig.specs.declared.params.LmsType.TheVariants.{H10}
use Rattle.lms_sig.specs.declared.params.OtsType.TheVariants.{W4}
use Rattle.ds_label.specs.declared.category.PubKey.{PubKey}
use Rattle.ds_label.specs.declared.category.Category.{Category}
use Rattle.ds_label.specs.declared.category.Kind.TheVariants.{Secrecy}
use Rattle.ds_script.specs.declared.op.Op.{Op}
use Rattle.ds_script.specs.declared.op.Op.TheVariants.{Set, Send, Take, Print}
use Rattle.ds_plan.specs.declared.doc.Doc.{Doc}
use Rattle.ds_plan.specs.declared.host.HostSpec.{HostSpec}
use Rattle.ds_plan.specs.declared.host.LaneSpec.{LaneSpec}
use Rattle.ds_plan.specs.declared.host.Secret.{Secret}
use Rattle.ds_plan.specs.declared.host.Secret.TheVariants.{Seed}
use Rattle.ds_plan.specs.declared.process.ProcSpec.{ProcSpec}
use Rattle.ds_plan.specs.declared.process.BoxSpec.{BoxSpec}
use Rattle.ds_plan.specs.declared.cert.CertSpec.{CertSpec}
use Rattle.ds_plan.specs.declared.cert.CertSpec.TheVariants.{Made}
use Rattle.ds_plan.specs.Keys.{key_of}

-- ---- keys and the category

-- a tree of height 10 of one-time keys with digits of 4 bits
abbrev pub types : Params
types = record { lms = H10; ots = W4 }

-- a secret: one byte, 32 times
abbrev pub secret : ℕ → Secret
secret byte = Seed (replicate 32 byte)

-- the key of the host with that secret
unfoldable pub key_by : ℕ → PubKey
key_by byte = key_of types (secret byte)

-- s: the secrecy category of a's first process with number 0
abbrev pub s : Category
s = record { creator = key_by 1; kind = Secrecy; number = 0 }

-- ---- scripts

-- the payload of message i: `m` and its number
abbrev pub payload : ℕ → List ℕ
payload i = codes "m" ++ decimal i

-- what register 0 has, sent without grants
abbrev pub sent : (host slot : ℕ) → (label : List Category) → Op
sent host slot label = Send host slot 0 label [] []

-- by turns to b's first mailbox under the empty label, to b's second under s, and to c's under s
abbrev pub send_by : (turn : ℕ) → Op
send_by turn = if turn == 0 then sent 1 1 [] else if turn == 1 then sent 1 2 (s ∷ []) else sent 2 1 (s ∷ [])

-- the messages from 0 on, so many
abbrev pub sends : ℕ → List Op
sends zero = []
sends (suc i) = sends i ++ Set 0 (payload i) ∷ send_by (i % 3) ∷ []

-- a take from a mailbox and a print, for each of so many messages whose turn it is
abbrev pub takes : (slot turn : ℕ) → ℕ → List Op
takes slot turn zero = []
takes slot turn (suc i) = takes slot turn i ++ (if (i % 3) == turn then Take 0 slot ∷ Print 0 ∷ [] else [])

-- ---- hosts

-- a process with a label and what it owns, which made so many categories
abbrev pub process : (made : ℕ) → (label own : List Category) → List Op → ProcSpec
process made label own script = record { made = made; label = label; own = own; clear = []; script = script }

abbrev pub mailbox : (slot owner : ℕ) → List Category → BoxSpec
mailbox slot owner label = record { slot = slot; owner = owner; label = label; room = 16 }

-- a lane whose certificate never lapses
abbrev pub lane : (to : ℕ) → List Category → LaneSpec
lane to label = record { to = to; label = label; room = 16; until = 2 ^ 64 - 1 }

abbrev pub host : (name : List ℕ) → (byte : ℕ) → (address : List ℕ) → (map : List Category) → List ProcSpec → List BoxSpec → List LaneSpec → HostSpec
host name byte address map procs boxes lanes = record {
  name = name;
  secret = secret byte;
  identity = types;
  lanekey = types;
  address = Some address;
  map = map;
  procs = procs;
  boxes = boxes;
  lanes = lanes;
  inlets = [];
}

-- sends
abbrev pub host_a : ℕ → HostSpec
host_a n = host (codes "a") 1 (codes "127.0.0.1:7001") []
    (process 1 [] (s ∷ []) (sends n) ∷ [])
    []
    (lane 1 [] ∷ lane 1 (s ∷ []) ∷ lane 2 (s ∷ []) ∷ [])

-- takes and prints
abbrev pub host_b : ℕ → HostSpec
host_b n = host (codes "b") 2 (codes "127.0.0.1:7002") (s ∷ [])
    (process 0 [] [] (takes 1 0 n) ∷ process 0 (s ∷ []) [] (takes 2 1 n) ∷ [])
    (mailbox 1 0 [] ∷ mailbox 2 1 (s ∷ []) ∷ [])
    []

-- does nothing
abbrev pub host_c : HostSpec
host_c = host (codes "c") 3 (codes "127.0.0.1:7003") [] (process 0 [] [] [] ∷ []) (mailbox 1 0 [] ∷ []) []

-- ---- the document

-- a lets b act for s until moment 1000, which both keep
abbrev pub grant : CertSpec
grant = Made 0 s 1 0 1000 (0 ∷ 1 ∷ [])

-- hosts take turns, for at most 20,000 events
abbrev pub generated : ℕ → Doc
generated n = record {
  hosts = host_a n ∷ host_b n ∷ host_c ∷ [];
  moment = 0;
  budget = 20000;
  certs = grant ∷ [];
  links = [];
  events = None;
}
