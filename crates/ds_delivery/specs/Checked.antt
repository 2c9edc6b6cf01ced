-- The five checks of a message, in one place: at a send to another host, at framing, on arrival, at a mailbox, and at
-- a take. At each check either a rule fails, and the first one in the check's order stands in a note or a line, and
-- the message is nowhere; or it goes on to the next hand, lane, frame or mailbox. What isn't judged yet waits where
-- it is. Nothing else changes.
use Rattle.std.specs.Prelude.{◌≡◌, ◌≢◌, ◌⊎◌, min, ℕ, suc, true, false, List, [], ◌∷◌, ◌++◌, Option, Some, None, length, map, nat_lt, slice_get, Contains}
use Rattle.ds_label.specs.declared.category.Category.{Category}
use Rattle.ds_label.specs.declared.rule.Rule.{Rule}
use Rattle.ds_label.specs.declared.rule.Rule.TheVariants.{LaneFull, BoxFull, Stale}
use Rattle.ds_cert.specs.declared.lane.LaneCert.{LaneCert}
use Rattle.ds_script.specs.declared.op.Op.{Op}
use Rattle.ds_script.specs.declared.op.Op.TheVariants as ops
use Rattle.ds_script.specs.declared.note.Note.TheVariants as notes
use Rattle.ds_msg.specs.declared.message.Message.{Message}
use Rattle.ds_model.specs.Lists.{at}
use Rattle.ds_model.specs.Keys.{same_key}
use Rattle.ds_model.specs.FirstRule.{unless, first_rule}
use Rattle.ds_model.specs.Scheme.{Scheme, Framed}
use Rattle.ds_model.specs.Plan.{Plan, host_plan, receiving_host, conn_plan, box_plan, lane_plan}
use Rattle.ds_model.specs.Mailbox.{PutIn, FoundFull, TookOut}
use Rattle.ds_model.specs.Inlet.{Inlet}
use Rattle.ds_model.specs.World.{Process, Mail, Mailbox, Waiting, Queue, Worker, LaneLine, QueuedLine, FullLine, DroppedLine, ConnLine, FrameLine, StaleLine, PassLine, DropLine, Conn, Host, World, Passed}
use Rattle.ds_model.specs.ProcessStep.{noted, box_of, message_of, mail_of, lane_of, taken_after_reply}
use Rattle.ds_model.specs.ConnectionStep.{peer, inlet_of}
use Rattle.ds_model.specs.Step.{Event, Step, Frame, Accept, Deliver, attached, arrived, step}
use Rattle.ds_delivery.specs.Rules.{sending, leading, releasing, arriving, entering, taking, is_above}

-- one thing by the rule that fails, or another where there is none
abbrev pub ByFirst : Option Rule → (Rule → Type 0) → Type 0 → Type 0
ByFirst (Some rule) dropped on = dropped rule
ByFirst None dropped on = on

-- one thing where a rule fails, by the first that does; another where none fails
abbrev pub IfRuleFails : List (Option Rule) → (Rule → Type 0) → Type 0 → Type 0
IfRuleFails rules dropped on = ByFirst (first_rule rules) dropped on

-- the list with this at a place
abbrev pub set : {X : Type 0} → ℕ → X → List X → List X
set i x xs = at i (λ _. x) xs

-- the world with this host at a place, and all else as it is
abbrev pub with_host : World → (host : ℕ) → Host → World
with_host w h x = record { hosts = set h x w.hosts; conns = w.conns }

-- the world with this connection
abbrev pub with_conn : World → (conn : ℕ) → Conn → World
with_conn w k y = record { hosts = w.hosts; conns = set k y w.conns }

-- the host with this process
abbrev pub with_proc : Host → (proc : ℕ) → Process → Host
with_proc x p y = record x { procs = set p y x.procs }

-- a process that noted `sent`, with nothing in hand
abbrev pub has_sent : Process → Process
has_sent y = noted notes.Sent (record y { hand = None })

-- a connection with one line more
abbrev pub with_line : ConnLine → Conn → Conn
with_line line y = record y { lines = y.lines ++ line ∷ [] }

-- a mailbox with one message more at its end, and an entry of it
abbrev pub put_into : Mail Category → Mailbox → Mailbox
put_into mail z = record { waiting = z.waiting ++ mail ∷ []; entries = z.entries ++ PutIn mail ∷ [] }

-- one that was full, with an entry alone
abbrev pub found_full : Mail Category → Mailbox → Mailbox
found_full mail z = record { waiting = z.waiting; entries = z.entries ++ FoundFull mail ∷ [] }

-- one whose first message was taken, with these left
abbrev pub taken_out : List (Mail Category) → Mailbox → Mailbox
taken_out others z = record { waiting = others; entries = z.entries ++ TookOut ∷ [] }

module _ (s : Scheme) (plan : Plan) (w : World) where
  -- what the event makes of the world
  abbrev pub Makes : Event → World → Type 0
  Makes e next = step s plan w e ≡ next

  -- process p of host h, with nothing in hand, is at this operation
  pub record IsAt (h p : ℕ) (x : Host) (y : Process) (op : Op) : Type 0 where
    pub stands : slice_get w.hosts h ≡ Some x
    pub acts : slice_get x.procs p ≡ Some y
    pub free : y.hand ≡ None
    pub operation : slice_get y.script y.course.place ≡ Some op

  -- connection k to a running host, which has read this lane certificate
  pub record IsOpen (k : ℕ) (x : Host) (y : Conn) (lane : LaneCert) : Type 0 where
    pub stands : slice_get w.hosts (conn_plan plan k).host ≡ Some x
    pub here : slice_get w.conns k ≡ Some y
    pub runs : (receiving_host plan k).silent ≡ false
    pub hello : peer s (receiving_host plan k) (arrived w (conn_plan plan k).source y) ≡ Some lane

  -- lane l of host h has this worker
  pub record IsWorking (h l : ℕ) (x : Host) (e : Worker) : Type 0 where
    pub stands : slice_get w.hosts h ≡ Some x
    pub works : slice_get x.workers l ≡ Some e

  -- SEND, to another host
  pub record SendChecked : Type 0 where
    -- The process's rules, then a lane, then the sending exporter's rules: a note of refusal, or the message is in
    -- hand, with the certificates that the desk attaches.
    pub judges : (h p : ℕ) (x : Host) (y : Process) (to slot reg : ℕ) (label own clear : List Category) (m : Message) →
        IsAt h p x y (ops.Send to slot reg label own clear) →
        m ≡ message_of (host_plan plan h) y to slot reg label own clear →
        same_key m.to (host_plan plan h).key ≡ false →
        IfRuleFails (sending (host_plan plan h) y m ++ (leading (host_plan plan h) m ++ releasing s x.desk m))
        (λ rule. Makes (Step h p) (with_host w h (with_proc x p (noted (notes.Refused rule) y))))
        (Makes (Step h p) (with_host w h (with_proc x p (record y {
          hand = Some (record m { certs = attached s (host_plan plan h) x.desk m });
        }))))
    -- Then the lane's room: the message is last in the lane's waiting list, or a line says that it found no room; the
    -- sender notes `sent` either way.
    pub queues : (h p l : ℕ) (x : Host) (y : Process) (m : Message) (q : Queue) (log : List LaneLine) →
        slice_get w.hosts h ≡ Some x → slice_get x.procs p ≡ Some y → y.hand ≡ Some m →
        lane_of (host_plan plan h) m.to m.label ≡ Some l →
        slice_get x.queues l ≡ Some q → slice_get x.logs l ≡ Some log →
        IfRuleFails (unless (nat_lt (length q) (lane_plan (host_plan plan h) l).room) LaneFull ∷ [])
        (λ rule. Makes (Step h p) (with_host w h (record (with_proc x p (has_sent y)) {
          logs = set l (log ++ FullLine (record { sender = p; message = m }) ∷ []) x.logs;
        })))
        (Makes (Step h p) (with_host w h (record (with_proc x p (has_sent y)) {
          queues = set l (q ++ record { sender = p; message = m } ∷ []) x.queues;
          logs = set l (log ++ QueuedLine (record { sender = p; message = m }) ∷ []) x.logs;
        })))

  -- what the framing of lane l of host h makes of the messages in hand
  pub record IsFramed (h l : ℕ) (x : Host) (e : Worker) (log : List LaneLine) : Type 0 where
    pub framed : List Waiting
    pub lines : List LaneLine
    pub told : Worker
    pub after : Makes (Frame h l) (with_host w h (record x {
      workers = set l told x.workers;
      logs = set l (log ++ lines) x.logs;
    }))
    -- each is dropped, with its rule in a line, or framed
    pub each : (v : Waiting) → Contains e.hand v →
        IfRuleFails (releasing s x.desk v.message)
        (λ rule. Contains lines (DroppedLine rule v.sender v.message.slot))
        (Contains framed v)
    -- no other is framed, and no other line speaks of a drop
    pub only : (v : Waiting) → Contains framed v →
        Contains e.hand v × (first_rule (releasing s x.desk v.message) ≡ None)
    pub no_more : (rule : Rule) (sender slot : ℕ) → Contains lines (DroppedLine rule sender slot) →
        (v : Waiting) × Contains e.hand v × (first_rule (releasing s x.desk v.message) ≡ Some rule)
        × (v.sender ≡ sender) × (v.message.slot ≡ slot)
    -- none is in hand after; those framed are one frame at the next leaf, and where there is none no leaf is used
    pub hand : told.hand ≡ []
    pub some : framed ≢ [] →
        (told.leaf ≡ suc e.leaf)
        × (told.stream ≡ e.stream ++ s.frame (lane_plan (host_plan plan h) l).signing e.leaf (map (λ v. v.message) framed))
    pub none : framed ≡ [] → (told.leaf ≡ e.leaf) × (told.stream ≡ e.stream)

  -- FRAME
  pub record FrameChecked : Type 0 where
    -- the sending exporter's rules, again, of each message in hand
    pub judges : (h l : ℕ) (x : Host) (e : Worker) (m : Waiting) (others : List Waiting) (log : List LaneLine) →
        IsWorking h l x e → e.hand ≡ m ∷ others → slice_get x.logs l ≡ Some log → IsFramed h l x e log
    -- a lane whose key has no leaf left waits, and so do its messages
    pub waits : (h l : ℕ) (x : Host) (e : Worker) →
        IsWorking h l x e → e.hand ≡ [] →
        s.has_lane_leaf (lane_plan (host_plan plan h) l).signing e.leaf ≡ false →
        Makes (Frame h l) w
    -- a lane with a leaf left lifts the first messages that wait, sixteen or all of them, and the others wait on:
    -- none is lost
    pub lifts : (h l : ℕ) (x : Host) (e : Worker) (q : Queue) →
        IsWorking h l x e → slice_get x.queues l ≡ Some q → e.hand ≡ [] →
        s.has_lane_leaf (lane_plan (host_plan plan h) l).signing e.leaf ≡ true →
        (first : Queue) × (rest : Queue) × (q ≡ first ++ rest) × (length first ≡ min 16 (length q))
        × Makes (Frame h l) (with_host w h (record x {
          queues = set l rest x.queues;
          workers = set l (record e { hand = first }) x.workers;
        }))

  -- ARRIVAL
  pub record ArrivalChecked : Type 0 where
    -- while a message is in hand, or passed, no other item is taken
    pub waits : (k : ℕ) (x : Host) (y : Conn) (lane : LaneCert) →
        IsOpen k x y lane → (y.hand ≢ []) ⊎ (y.passed ≢ None) → Makes (Accept k) w
    -- The frame's number: a stale frame is dropped with all its messages, and a line says so; a fresh one's messages
    -- are in hand, and its number is the inlet's last.
    pub takes : (k i number : ℕ) (x : Host) (y : Conn) (lane : LaneCert) (messages : List Message) (last : Inlet) →
        IsOpen k x y lane → y.hand ≡ [] → y.passed ≡ None → y.failed ≡ None →
        slice_get (s.items (receiving_host plan k).key (receiving_host plan k).inlets (arrived w (conn_plan plan k).source y)) y.taken
        ≡ Some (Framed number messages) →
        inlet_of (receiving_host plan k) lane ≡ Some i → slice_get x.inlets i ≡ Some last →
        IfRuleFails (unless (is_above number last) Stale ∷ [])
        (λ rule. Makes (Accept k) (with_conn w k (with_line (StaleLine number) (record y { taken = suc y.taken }))))
        (Makes (Accept k) (with_conn (with_host w (conn_plan plan k).host (record x { inlets = set i (Some number) x.inlets })) k
        (with_line (FrameLine number (length messages)) (record y { taken = suc y.taken; hand = messages }))))
    -- The receiving exporter's rules of the first message in hand, and then the mailbox's: a line of a drop, or the
    -- message is passed; the others wait.
    pub judges : (k : ℕ) (x : Host) (y : Conn) (lane : LaneCert) (m : Message) (others : List Message) →
        IsOpen k x y lane → y.hand ≡ m ∷ others → y.passed ≡ None →
        IfRuleFails (arriving s (receiving_host plan k) x.desk lane m ++ entering (receiving_host plan k) m.slot m.label)
        (λ rule. Makes (Deliver k) (with_conn w k (with_line (DropLine rule m.slot) (record y { hand = others }))))
        (Makes (Deliver k) (with_conn w k (with_line (PassLine m.slot) (record y {
          hand = others;
          passed = Some (record { slot = m.slot; mail = mail_of lane.exporter m });
        }))))

  -- BOX
  pub record BoxChecked : Type 0 where
    -- A send to the own host, by the process's rules and the mailbox's: a note of refusal, or the message is last in
    -- the mailbox, or the mailbox's entry says that it found no room; the sender notes `sent` either way.
    pub judges : (h p : ℕ) (x : Host) (y : Process) (to slot reg : ℕ) (label own clear : List Category) (m : Message) →
        IsAt h p x y (ops.Send to slot reg label own clear) →
        m ≡ message_of (host_plan plan h) y to slot reg label own clear →
        same_key m.to (host_plan plan h).key ≡ true →
        IfRuleFails (sending (host_plan plan h) y m ++ entering (host_plan plan h) m.slot m.label)
        (λ rule. Makes (Step h p) (with_host w h (with_proc x p (noted (notes.Refused rule) y))))
        ((b : ℕ) × (box_of (host_plan plan h) m.slot ≡ Some b) × ((z : Mailbox) → slice_get x.boxes b ≡ Some z →
        IfRuleFails (unless (nat_lt (length z.waiting) (box_plan (host_plan plan h) b).room) BoxFull ∷ [])
        (λ rule. Makes (Step h p) (with_host w h (record (with_proc x p (noted notes.Sent y)) {
          boxes = set b (found_full (mail_of (host_plan plan h).key m) z) x.boxes;
        })))
        (Makes (Step h p) (with_host w h (record (with_proc x p (noted notes.Sent y)) {
          boxes = set b (put_into (mail_of (host_plan plan h).key m) z) x.boxes;
        })))))
    -- A message that a connection passed goes into the mailbox for which it was judged, where it finds room; the
    -- connection doesn't learn whether.
    pub puts : (k b : ℕ) (x : Host) (y : Conn) (lane : LaneCert) (p : Passed) (z : Mailbox) →
        IsOpen k x y lane → y.passed ≡ Some p → box_of (receiving_host plan k) p.slot ≡ Some b →
        slice_get x.boxes b ≡ Some z →
        IfRuleFails (unless (nat_lt (length z.waiting) (box_plan (receiving_host plan k) b).room) BoxFull ∷ [])
        (λ rule. Makes (Deliver k) (with_conn
        (with_host w (conn_plan plan k).host (record x { boxes = set b (found_full p.mail z) x.boxes }))
        k (record y { passed = None })))
        (Makes (Deliver k) (with_conn
        (with_host w (conn_plan plan k).host (record x { boxes = set b (put_into p.mail z) x.boxes }))
        k (record y { passed = None })))

  -- TAKE
  pub record TakeChecked : Type 0 where
    -- That the mailbox is the process's own, and that its label flows to the process's: a note of refusal, or the
    -- message that waits longest is taken and the others wait on; at an empty mailbox the process waits.
    pub judges : (h p : ℕ) (x : Host) (y : Process) (reg slot : ℕ) → IsAt h p x y (ops.Take reg slot) →
        IfRuleFails (taking (host_plan plan h) p y slot)
        (λ rule. Makes (Step h p) (with_host w h (with_proc x p (noted (notes.Refused rule) y))))
        ((b : ℕ) × (box_of (host_plan plan h) slot ≡ Some b) × ((z : Mailbox) → slice_get x.boxes b ≡ Some z →
        (z.waiting ≡ [] → Makes (Step h p) w)
        × ((mail : Mail Category) (others : List (Mail Category)) → z.waiting ≡ mail ∷ others →
        Makes (Step h p) (with_host w h (record (with_proc x p (taken_after_reply reg slot (Some mail) y)) {
          boxes = set b (taken_out others z) x.boxes;
        })))))

  -- all five
  pub record Checked : Type 0 where
    pub send : SendChecked
    pub frame : FrameChecked
    pub arrival : ArrivalChecked
    pub box : BoxChecked
    pub take : TakeChecked

-- in each world, and so at each event of each run
abbrev pub EachChecked : Type 0
EachChecked = (s : Scheme) (plan : Plan) (w : World) → Checked s plan w
