-- Delivered only where the rules hold: what lies in a run's past where an event puts a message into a mailbox. A
-- process of the same host was at a send of it and met its own rules and the mailbox's. A message from another host
-- was judged by the receiving exporter, after a fresh and signed frame; and where the frame is one that a lane of a
-- running host wrote, the sender met its own rules, and the sending exporter judged the message when it was sent and
-- again when it was framed.
use Rattle.std.specs.Prelude.{◌≡◌, ◌<◌, ℕ, suc, true, List, [], ◌∷◌, ◌++◌, length, Some, None, slice_get, Contains}
use Rattle.ds_label.specs.declared.category.Category.{Category}
use Rattle.ds_label.specs.Names.{by_name}
use Rattle.ds_cert.specs.declared.lane.LaneCert.{LaneCert}
use Rattle.ds_script.specs.declared.op.Op.TheVariants as ops
use Rattle.ds_msg.specs.declared.message.Message.{Message}
use Rattle.ds_model.specs.ProcessRules.{may_send, mailbox_rule}
use Rattle.ds_model.specs.ExporterRules.{known_rule, sender_rule, receiver_rule}
use Rattle.ds_model.specs.Scheme.{Scheme, Item, Framed}
use Rattle.ds_model.specs.Plan.{Plan, Link, OfLane, IsLane, host_plan, receiving_host, conn_plan, box_plan, lane_plan}
use Rattle.ds_model.specs.Mailbox.{PutIn, put_entry}
use Rattle.ds_model.specs.Inlet.{Inlet}
use Rattle.ds_model.specs.World.{Process, Mail, Mailbox, Queue, Waiting, Worker, Passed, Conn, Host, World}
use Rattle.ds_model.specs.ProcessStep.{Put, ask, message_of, mail_of, box_of, label_of, lane_of}
use Rattle.ds_model.specs.ConnectionStep.{PutsPassed, peer, inlet_of, passed_of, deliver}
use Rattle.ds_model.specs.Step.{Event, Step, Frame, Accept, Deliver, attached, arrived, lane_stream, resolve, step, run}

-- some event of a list, with those before it
abbrev pub Past : List Event → (List Event → Event → Type 0) → Type 0
Past events P = (before : List Event) × (e : Event) × (after : List Event) × (events ≡ before ++ e ∷ after) × P before e

module _ (s : Scheme) (plan : Plan) (start : World) where
  -- the world after these events, the world after one more, and what an event then means
  abbrev pub after : List Event → World
  after before = run s plan start before

  -- after one more
  abbrev pub next : List Event → Event → World
  next before e = step s plan (after before) e

  -- what has arrived on connection k, as it then stands
  abbrev pub bytes_before : (conn : ℕ) → Conn → List Event → List ℕ
  bytes_before k conn before = arrived (after before) (conn_plan plan k).source conn

  -- what a host reads of a stream
  abbrev pub read_by : (host : ℕ) → List ℕ → List Item
  read_by r bytes = s.items (host_plan plan r).key (host_plan plan r).inlets bytes

  -- an event that is a copy means the injection of its bytes
  abbrev pub Is : List Event → Event → Event → Type 0
  Is before e meant = resolve plan (after before) e ≡ meant

  -- MESSAGES OF THE OWN HOST

  -- the event is a process's step that puts this into a mailbox, where there is room
  pub record PutsHere (h p b : ℕ) (mail : Mail Category) (before : List Event) (e : Event) : Type 0 where
    pub host : Host
    pub proc : Process
    pub box : Mailbox
    pub next : Process
    pub event : Is before e (Step h p)
    pub stands : slice_get (after before).hosts h ≡ Some host
    pub acts : slice_get host.procs p ≡ Some proc
    pub there : slice_get host.boxes b ≡ Some box
    pub asks : ask (host_plan plan h) p proc ≡ Put b mail next
    pub room : put_entry (box_plan (host_plan plan h) b).room mail box.waiting ≡ PutIn mail

  -- the process is at a send of this message to this mailbox, and the process's rules and the mailbox's hold
  pub record RulesHere (h p b : ℕ) (mail : Mail Category) (before : List Event) : Type 0 where
    pub host : Host
    pub proc : Process
    pub to : ℕ
    pub slot : ℕ
    pub register : ℕ
    pub label : List Category
    pub own : List Category
    pub clear : List Category
    pub stands : slice_get (after before).hosts h ≡ Some host
    pub acts : slice_get host.procs p ≡ Some proc
    pub operation : slice_get proc.script proc.course.place ≡ Some (ops.Send to slot register label own clear)
    pub says : mail ≡ mail_of (host_plan plan h).key (message_of (host_plan plan h) proc to slot register label own clear)
    pub place : box_of (host_plan plan h) slot ≡ Some b
    pub known : known_rule (host_plan plan h).key proc.names label own clear ≡ None
    pub sender : may_send by_name proc.label proc.own proc.clear label own clear ≡ None
    pub mailbox : mailbox_rule by_name (label_of (host_plan plan h) (Some b)) label ≡ None

  -- MESSAGES FROM OTHER HOSTS, BACKWARDS

  -- the event delivers what connection k of this lane certificate had passed into a mailbox, where there is room
  pub record PutsFrom (k b : ℕ) (lane : LaneCert) (p : Passed) (before : List Event) (e : Event) : Type 0 where
    pub host : Host
    pub conn : Conn
    pub box : Mailbox
    pub next : Conn
    pub event : Is before e (Deliver k)
    pub stands : slice_get (after before).hosts (conn_plan plan k).host ≡ Some host
    pub here : slice_get (after before).conns k ≡ Some conn
    pub hello : peer s (receiving_host plan k) (bytes_before k conn before) ≡ Some lane
    pub passed : conn.passed ≡ Some p
    pub there : slice_get host.boxes b ≡ Some box
    pub asks : deliver s (receiving_host plan k) conn (bytes_before k conn before) ≡ PutsPassed b p.mail next
    pub room : put_entry (box_plan (receiving_host plan k) b).room p.mail box.waiting ≡ PutIn p.mail

  -- the event judges it, the first of the connection's hand, by the rules of arrival and of the mailbox, at the
  -- host's own desk; none fails, and it is passed
  pub record JudgedFrom (k : ℕ) (lane : LaneCert) (m : Message) (before : List Event) (e : Event) : Type 0 where
    pub host : Host
    pub conn : Conn
    pub others : List Message
    pub told : Conn
    pub event : Is before e (Deliver k)
    pub stands : slice_get (after before).hosts (conn_plan plan k).host ≡ Some host
    pub here : slice_get (after before).conns k ≡ Some conn
    pub hello : peer s (receiving_host plan k) (bytes_before k conn before) ≡ Some lane
    pub hand : conn.hand ≡ m ∷ others
    pub arrival :
        receiver_rule s host.desk.store host.desk.rows host.desk.moment (receiving_host plan k).key lane m ≡ None
    pub mailbox :
        mailbox_rule by_name (label_of (receiving_host plan k) (box_of (receiving_host plan k) m.slot)) m.label ≡ None
    pub becomes : slice_get (next before e).conns k ≡ Some told
    pub left : told.hand ≡ others
    pub passed : told.passed ≡ Some (passed_of lane m)

  -- the event takes the frame with these messages: it is the next item, after a hello with the lane's certificate, it
  -- is signed by the lane's key, and its number is above the inlet's last; its messages are in hand
  pub record TakenFrom (k : ℕ) (lane : LaneCert) (number : ℕ) (messages : List Message) (before : List Event) (e : Event)
      : Type 0 where
    pub host : Host
    pub conn : Conn
    pub place : ℕ
    pub last : Inlet
    pub told : Conn
    pub event : Is before e (Accept k)
    pub stands : slice_get (after before).hosts (conn_plan plan k).host ≡ Some host
    pub here : slice_get (after before).conns k ≡ Some conn
    pub hello : peer s (receiving_host plan k) (bytes_before k conn before) ≡ Some lane
    pub item : slice_get (read_by (conn_plan plan k).host (bytes_before k conn before)) conn.taken ≡ Some (Framed number messages)
    pub signed : s.frame_signed lane.key number messages (bytes_before k conn before) ≡ true
    pub inlet : inlet_of (receiving_host plan k) lane ≡ Some place
    pub counts : slice_get host.inlets place ≡ Some last
    pub fresh : (old : ℕ) → last ≡ Some old → old < number
    pub becomes : slice_get (next before e).conns k ≡ Some told
    pub hand : told.hand ≡ messages

  -- the event frames these messages on lane l of host h, with this number: each was in hand, and is judged by the
  -- sending exporter's rule again, at the host's own desk
  pub record FramedOn (h l number : ℕ) (messages : List Message) (before : List Event) (e : Event) : Type 0 where
    pub host : Host
    pub worker : Worker
    pub told : Host
    pub event : Is before e (Frame h l)
    pub stands : slice_get (after before).hosts h ≡ Some host
    pub works : slice_get host.workers l ≡ Some worker
    pub counted : number ≡ worker.leaf
    pub judged : (m : Message) → Contains messages m →
        (w : Waiting) × Contains worker.hand w × (w.message ≡ m)
        × (sender_rule s host.desk.addresses host.desk.store host.desk.moment m.to m.label ≡ None)
    pub becomes : slice_get (next before e).hosts h ≡ Some told
    pub writes : slice_get told.workers l ≡ Some (record {
      hand = [];
      leaf = suc number;
      stream = worker.stream ++ s.frame (lane_plan (host_plan plan h) l).signing number messages;
    })

  -- the event queues it: a process's judged message finds room on the lane
  pub record QueuedOn (h l p : ℕ) (m : Message) (before : List Event) (e : Event) : Type 0 where
    pub host : Host
    pub proc : Process
    pub queue : Queue
    pub told : Host
    pub event : Is before e (Step h p)
    pub stands : slice_get (after before).hosts h ≡ Some host
    pub acts : slice_get host.procs p ≡ Some proc
    pub hand : proc.hand ≡ Some m
    pub lane : lane_of (host_plan plan h) m.to m.label ≡ Some l
    pub waits : slice_get host.queues l ≡ Some queue
    pub room : length queue < (lane_plan (host_plan plan h) l).room
    pub becomes : slice_get (next before e).hosts h ≡ Some told
    pub joins : slice_get told.queues l ≡ Some (queue ++ record { sender = p; message = m } ∷ [])

  -- the event judges it first: the process is at a send of it, the process's rules hold, there is a lane, and the
  -- sending exporter's rule holds, at the host's own desk, which attaches certificates; it is in hand
  pub record SentAway (h p : ℕ) (m : Message) (before : List Event) (e : Event) : Type 0 where
    pub host : Host
    pub proc : Process
    pub to : ℕ
    pub slot : ℕ
    pub register : ℕ
    pub label : List Category
    pub own : List Category
    pub clear : List Category
    pub lane : ℕ
    pub told : Host
    pub event : Is before e (Step h p)
    pub stands : slice_get (after before).hosts h ≡ Some host
    pub acts : slice_get host.procs p ≡ Some proc
    pub operation : slice_get proc.script proc.course.place ≡ Some (ops.Send to slot register label own clear)
    pub says : m ≡ record (message_of (host_plan plan h) proc to slot register label own clear) {
      certs = attached s (host_plan plan h) host.desk (message_of (host_plan plan h) proc to slot register label own clear);
    }
    pub known : known_rule (host_plan plan h).key proc.names label own clear ≡ None
    pub sender : may_send by_name proc.label proc.own proc.clear label own clear ≡ None
    pub goes : lane_of (host_plan plan h) m.to label ≡ Some lane
    pub exporter : sender_rule s host.desk.addresses host.desk.store host.desk.moment m.to label ≡ None
    pub becomes : slice_get (next before e).hosts h ≡ Some told
    pub hand : slice_get told.procs p ≡ Some (record proc { hand = Some m })

  -- in the past the frame was written, before that the message was queued, and before that judged
  abbrev pub SentBy : (host lane number : ℕ) → List Message → Message → List Event → Type 0
  SentBy h l number messages m events = Past events (λ b e.
      FramedOn h l number messages b e × ((p : ℕ) × Past b (λ b' e'.
      QueuedOn h l p m b' e' × Past b' (λ b'' e''.
      SentAway h p m b'' e''))))

  -- where the connection is a lane's own, it read that lane's certificate, and the message was sent so
  abbrev pub OwnFrom : (conn : ℕ) → LaneCert → (number : ℕ) → List Message → Message → List Event → Type 0
  OwnFrom k lane number messages m events = (h l : ℕ) → (conn_plan plan k).source ≡ OfLane h l →
      (lane ≡ (lane_plan (host_plan plan h) l).cert) × SentBy h l number messages m events

  -- the lane wrote the frame: it stands among what host r reads of the lane's own stream
  abbrev pub Wrote : (host lane r number : ℕ) → List Message → List Event → Type 0
  Wrote h l r number messages before =
      (place : ℕ) × (slice_get (read_by r (lane_stream (after before) h l)) place ≡ Some (Framed number messages))

  -- what holds where what a connection passed is put: it is what is left of this message
  pub record RulesFrom (k b : ℕ) (lane : LaneCert) (p : Passed) (before : List Event) : Type 0 where
    pub m : Message
    pub says : p ≡ passed_of lane m
    pub number : ℕ
    pub messages : List Message
    pub good : s.good_lane lane ≡ true
    pub among : Contains messages m
    -- the mailbox is the one for which the message was judged
    pub place : box_of (receiving_host plan k) m.slot ≡ Some b
    -- judged, after the frame was taken, and on a lane's own connection that after it was written
    pub judged : Past before (λ b e. JudgedFrom k lane m b e
        × Past b (λ b' e'. TakenFrom k lane number messages b' e' × OwnFrom k lane number messages m b'))
    -- a link on which a lane's own certificate was read, and a frame that the lane wrote
    pub link : (h l : ℕ) → (conn_plan plan k).source ≡ Link → IsLane plan h l →
        lane ≡ (lane_plan (host_plan plan h) l).cert →
        Wrote h l (conn_plan plan k).host number messages before → SentBy h l number messages m before

  -- of each event of the run that puts a message into a mailbox

  -- of the own host's messages
  abbrev pub LawfulHere : List Event → Type 0
  LawfulHere events = (before : List Event) (e : Event) (later : List Event) → events ≡ before ++ e ∷ later →
      (h p b : ℕ) (mail : Mail Category) → PutsHere h p b mail before e → RulesHere h p b mail before

  -- of messages from other hosts
  abbrev pub LawfulFrom : List Event → Type 0
  LawfulFrom events = (before : List Event) (e : Event) (later : List Event) → events ≡ before ++ e ∷ later →
      (k b : ℕ) (lane : LaneCert) (p : Passed) → PutsFrom k b lane p before e → RulesFrom k b lane p before

  -- of all messages
  pub record Lawful (events : List Event) : Type 0 where
    pub here : LawfulHere events
    pub from : LawfulFrom events

-- messages of the own host are delivered only where the rules hold, in each run from any world
abbrev pub SentLawfully : Type 0
SentLawfully = (s : Scheme) (plan : Plan) (start : World) (events : List Event) → LawfulHere s plan start events
