-- The plain world: what events change. It speaks of categories by their names alone: no number of a host's own, no
-- reader's buffer, no history of a lock and no stamp stands in it.
use Rattle.std.specs.Prelude.{ℕ, List, Option}
use Rattle.ds_label.specs.declared.category.PubKey.{PubKey}
use Rattle.ds_label.specs.declared.category.Category.{Category}
use Rattle.ds_label.specs.declared.rule.Rule.{Rule}
use Rattle.ds_script.specs.declared.op.Op.{Op}
use Rattle.ds_script.specs.Inner.{Course}
use Rattle.ds_msg.specs.declared.message.Message.{Message}
use Rattle.ds_model.specs.Scheme.{Failure}
use Rattle.ds_model.specs.Mailbox.{Box}
use Rattle.ds_model.specs.Inlet.{Inlet}
use Rattle.ds_model.specs.Desk.{Desk}

-- a process: `names` are the foreign categories that it may use, `made` is how many it made, and `hand` holds a message
-- to another host that was judged and isn't queued yet
pub record Process : Type 0 where
  pub script : List Op
  pub course : Course
  pub label : List Category
  pub own : List Category
  pub clear : List Category
  pub names : List Category
  pub made : ℕ
  pub hand : Option Message

-- what a mailbox keeps of a message, over categories of any kind
pub record Mail (C : Type 0) : Type 0 where
  pub from : PubKey
  pub label : List C
  pub own : List C
  pub clear : List C
  pub payload : List ℕ

-- a mailbox, over names
abbrev pub Mailbox : Type 0
Mailbox = Box (Mail Category)

-- a message on a lane, with the process that sent it
pub record Waiting : Type 0 where
  pub sender : ℕ
  pub message : Message

-- what waits on a lane
abbrev pub Queue : Type 0
Queue = List Waiting

-- a lane's worker: the messages that it lifted, the lane key's next leaf, and the stream that it wrote
pub record Worker : Type 0 where
  pub hand : List Waiting
  pub leaf : ℕ
  pub stream : List ℕ

-- What is printed of a lane. Senders and the worker both write it, so it belongs to neither and is a list of its own.
pub data LaneLine : Type 0 where
  QueuedLine : Waiting → LaneLine
  FullLine : Waiting → LaneLine
  FramedLine : (number count : ℕ) → LaneLine
  DroppedLine : Rule → (sender slot : ℕ) → LaneLine

-- what is printed of a connection
pub data ConnLine : Type 0 where
  FrameLine : (number count : ℕ) → ConnLine
  StaleLine : (number : ℕ) → ConnLine
  PassLine : (slot : ℕ) → ConnLine
  DropLine : Rule → (slot : ℕ) → ConnLine

-- a message that a connection judged: the mailbox's slot, and what goes into the mailbox
pub record Passed : Type 0 where
  pub slot : ℕ
  pub mail : Mail Category

-- a connection: the stream of a link, how many bytes arrived and how many items were taken, the messages of the last
-- frame that aren't judged yet, the one that was judged and isn't put yet, and its failure
pub record Conn : Type 0 where
  pub link : List ℕ
  pub count : ℕ
  pub taken : ℕ
  pub hand : List Message
  pub passed : Option Passed
  pub failed : Option Failure
  pub lines : List ConnLine

-- a host: each list has a thing for each one of the plan
pub record Host : Type 0 where
  pub desk : Desk
  pub procs : List Process
  pub boxes : List Mailbox
  pub queues : List Queue
  pub workers : List Worker
  pub logs : List (List LaneLine)
  pub inlets : List Inlet

-- hosts and connections, by their places
pub record World : Type 0 where
  pub hosts : List Host
  pub conns : List Conn
