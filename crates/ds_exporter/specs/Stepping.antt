-- A step of a process: what it asks, and what becomes of its host.
use Rattle.std.specs.Prelude.{◌≡◌, ◌≢◌, ◌<◌, ◌⊎◌, ◌+◌, ℕ, List, Option, None, Some, length, slice_get}
use Rattle.ds_base.specs.Marks.{Raised}
use Rattle.ds_label.specs.declared.rule.Rule.{Rule}
use Rattle.ds_label.specs.declared.category.Category.{Category}
use Rattle.ds_script.specs.declared.actor.Actor.{Actor}
use Rattle.ds_script.specs.declared.actor.ActorKind.TheVariants as kinds
use Rattle.ds_script.specs.declared.note.Note.TheVariants as notes
use Rattle.ds_script.specs.Process.{finished_process}
use Rattle.ds_msg.specs.declared.message.Message.{Message}
use Rattle.ds_model.specs.World.{Process, Mail, Host}
use Rattle.ds_model.specs.ProcessStep.{Ask, Put, Admit, ask, noted}
use Rattle.ds_model.specs.Step.{step_proc}
use Rattle.ds_model.specs.Access.{NoAccess}
use Rattle.ds_scheme.specs.TheScheme.{scheme}
use Rattle.ds_actor.specs.Asking.{CanEnd}
use Rattle.ds_exporter.specs.declared.moved.Moved.{Moved}
use Rattle.ds_exporter.specs.declared.moved.Moved.TheVariants.{Changed, Still}
use Rattle.ds_exporter.specs.declared.parts.ProcPart.{ProcPart}
use Rattle.ds_exporter.specs.HostStates.{HostProcess, HostState}
use Rattle.ds_exporter.specs.PlainHosts.{conn_at, host_of, plain_process, site_of}
use Rattle.ds_exporter.specs.Stamping.{IsUpTo}
use Rattle.ds_exporter.specs.Entering.{Enters, step_access}

abbrev pub proc_actor : (host place : ℕ) → Actor
proc_actor host place = record { kind = kinds.Proc; host = host; index = place }

-- WHAT IT ASKS

-- the process at a place asks this, by what it is
abbrev pub Asks : (place : ℕ) → HostState → (Process → Ask) → Type 0
Asks p e asked = (x : HostProcess) → slice_get e.procs p ≡ Some x
    → ask (site_of e) p (plain_process e.desk.here e.desk.desk.rows x) ≡ asked (plain_process e.desk.here e.desk.desk.rows x)

-- it asks the same whatever it is
abbrev pub always : Ask → Process → Ask
always asked x = asked

-- a message into a mailbox, or onto a lane; it notes that it sent
abbrev pub put_ask : (box : ℕ) → Mail Category → Process → Ask
put_ask box m x = Put box m (noted notes.Sent x)

abbrev pub admit_ask : (lane : ℕ) → Message → Process → Ask
admit_ask lane m x = Admit lane m (noted notes.Sent (record x { hand = None }))

-- WHAT IT IS

-- the hand of the process at a place is empty, and its script hasn't ended
abbrev pub IsFree : (place : ℕ) → HostState → Type 0
IsFree p e = (x : HostProcess) → slice_get e.procs p ≡ Some x → (x.hand ≡ None) × (x.process.course.place < length x.process.script)

-- the same of a list of processes
abbrev pub GoesOn : (place : ℕ) → List HostProcess → Type 0
GoesOn p procs = (x : HostProcess) → slice_get procs p ≡ Some x → x.process.course.place < length x.process.script

-- the process at a place hasn't ended, and there is memory for the end of its operation
abbrev pub IsReadyAt : (place : ℕ) → List ProcPart → Type 0
IsReadyAt p procs = (x : ProcPart) → slice_get procs p ≡ Some x → CanEnd x.process

-- a process that notes that it sent
abbrev pub sent_proc : HostProcess → HostProcess
sent_proc x = record x { process = finished_process (Some notes.Sent) None x.process }

-- a process whose operation was refused
abbrev pub refused_proc : Rule → HostProcess → HostProcess
refused_proc rule x = record x { process = finished_process (Some (notes.Refused rule)) None x.process }

-- WHAT BECOMES OF ITS HOST

-- the plain world's step of the process at a place
abbrev pub next_host : (place : ℕ) → HostState → Host
next_host p e = step_proc scheme (site_of e) (host_of e) p (slice_get (host_of e).procs p)

-- The host is what the plain world makes of it, and another one; what setup fixed and the connections are as they were, and the
-- histories go on by the process's entry alone: the one that the plain world's step makes.
pub record IsStepped (stamp p : ℕ) (old new : HostState) : Type 0 where
  pub host : host_of new ≡ next_host p old
  pub changed : host_of new ≢ host_of old
  pub site : site_of new ≡ site_of old
  pub conns : new.conns ≡ old.conns
  pub named : (link : List ℕ) (place : ℕ) → conn_at link place new ≡ conn_at link place old
  pub stamps : IsUpTo stamp new
  pub entered : Enters stamp (proc_actor old.host p) (step_access p old) old new

-- so it is, or there was nothing to do and to enter
abbrev pub Steps : Moved → (stamp p : ℕ) → (old new : HostState) → Type 0
Steps Changed stamp p old new = IsStepped stamp p old new
Steps Still stamp p old new = (new ≡ old) × (host_of old ≡ next_host p old) × (step_access p old ≡ NoAccess)

-- The keeper is as it was where the desk's key is at the leaf where it was; else the key is at the next leaf, and its mark was
-- raised to that one.
abbrev pub GoesAlong : (old new : HostState) → (IsSame : Type 0) → (before after : Option (List ℕ → ℕ)) → Type 0
GoesAlong old new IsSame before after =
    ((new.desk.desk.leaf ≡ old.desk.desk.leaf) × IsSame)
    ⊎ ((new.desk.desk.leaf ≡ old.desk.desk.leaf + 1) × Raised before old.desk.key.id (old.desk.desk.leaf + 1) after)
