-- What a process asks of its host, and what it has to be for that.
use Rattle.std.specs.Prelude.{◌≡◌, ℕ, ◌+◌, ◌<◌, ◌^◌, Bool, true, false, [], List, All, Option, Some, None, IsTrue, length, position, slice_get}
use Rattle.ds_label.specs.declared.category.PubKey.{PubKey}
use Rattle.ds_label.specs.declared.category.Category.{Category}
use Rattle.ds_cert.specs.declared.lane.LaneCert.{LaneCert}
use Rattle.ds_script.specs.declared.usable.Usable.{Usable}
use Rattle.ds_script.specs.Process.{Process as Numbered}
use Rattle.ds_msg.specs.declared.message.Message.{Message}
use Rattle.ds_msg.specs.Ranges.{MessageRange}
use Rattle.ds_model.specs.World.{Process}
use Rattle.ds_model.specs.Plan.{HostPlan}
use Rattle.ds_model.specs.ProcessStep.{ask_outer, lane_of, queue_at}
use Rattle.ds_map.specs.Labels.{have_names}
use Rattle.ds_actor.specs.declared.ask.ProcessAsk.{ProcessAsk}
use Rattle.ds_actor.specs.declared.ask.ProcessAsk.TheVariants as asks
use Rattle.ds_actor.specs.Usable.{IsAgreed}
use Rattle.ds_actor.specs.Sites.{SitePlan, is_lane_for, with_site}
use Rattle.ds_actor.specs.Seen.{UnderTables, proc_labels, process_of}
use Rattle.ds_actor.specs.Asks.{HasMailNames, IsAmongHosts, IsAsked, IsAskInRange, IsCopied}
use Rattle.ds_actor.specs.Asking.{HasTable}
use Rattle.ds_turn.specs.ProcRecords.{HasMemory, IsGoing, ProcRecord, RoomyProc}

-- WHAT IT HAS TO BE

-- a message in hand: its lane is there, it is in range, and the script hasn't ended
pub record IsQueueable (lanes : List LaneCert) (p : Numbered) (m : Message) : Type 0 where
  pub place : ℕ
  pub lane : position (is_lane_for m.to m.label) lanes ≡ Some place
  pub range : MessageRange m
  pub going : IsGoing p

abbrev pub HandFits : List LaneCert → Numbered → Option Message → Type 0
HandFits lanes p None = Unit {0}
HandFits lanes p (Some m) = IsQueueable lanes p m

-- A process that may step: its index is below 2^30, its script's hosts are the host's, its usable names have the numbers of a
-- table, and what is in its hand has a lane.
pub record MayStep (site : SitePlan) (r : ProcRecord) : Type 0 where
  pub index : r.who.index < 2 ^ 30
  pub scripts : All (IsAmongHosts (length site.keys)) r.process.script
  pub agreed : HasTable site.here r.process.names
  pub holds : HandFits site.lanes r.process r.hand

-- WHAT IT ASKS

-- by the operation at its place it asks this, and is that then: so it is in the model, by the names of each table that has names
-- for its numbers
abbrev pub AsksSo : SitePlan → (index : ℕ) → (old new : Numbered) → ProcessAsk → Type 0
AsksSo site index old new a = UnderTables site.here site.boxes old (λ rows. (plan : HostPlan) (hand : Option Message) →
    IsAsked site.here rows (process_of site.here rows hand old) (process_of site.here rows hand new) a
    (ask_outer (with_site site rows plan) index (process_of site.here rows hand old) (slice_get old.script old.course.place)))

-- the same of what isn't a step inside the process
abbrev pub Asks : SitePlan → ProcRecord → ProcessAsk → Type 0
Asks site r a = AsksSo site r.who.index r.process r.process a

-- with this message in its hand
abbrev pub AsksLane : SitePlan → Message → ProcessAsk → Type 0
AsksLane site m a = (here : PubKey) (rows : List Category) (plan : HostPlan) (x y : Process) →
    IsAsked here rows x y a (queue_at x m (lane_of (with_site site rows plan) m.to m.label))

-- A step inside the process made this of it.
pub record MovesTo (site : SitePlan) (r : ProcRecord) (next : Numbered) : Type 0 where
  pub asked : AsksSo site r.who.index r.process next asks.Internal
  pub script : next.script ≡ r.process.script
  pub place : next.course.place ≡ r.process.course.place + 1
  pub names : UnderTables site.here [] r.process (λ rows. IsAgreed site.here rows next.names)
  pub labels : UnderTables site.here [] r.process (λ rows. IsTrue (have_names site.here rows (proc_labels next)))
  pub agreed : HasTable site.here next.names

-- A process that is as it was asks this of its host, and there is memory for what follows.
pub record IsAsking (site : SitePlan) (r : RoomyProc) (a : ProcessAsk) : Type 0 where
  pub memory : HasMemory r
  pub going : IsGoing r.proc.process
  pub copied : IsCopied a
  pub range : IsAskInRange site a
  pub mail : UnderTables site.here [] r.proc.process (λ rows. HasMailNames site.here rows a)
  pub asked : Asks site r.proc a

-- either of these; no operation waits, and none asks for a lane
abbrev pub Answers : SitePlan → ProcRecord → RoomyProc → ProcessAsk → Type 0
Answers site old new asks.Waits = ⊥
Answers site old new (asks.Admit place message kept) = ⊥
Answers site old new asks.Internal = MovesTo site old new.proc.process × (new.proc ≡ record old { process = new.proc.process }) × (0 < new.spare)
Answers site old new a = (new.proc ≡ old) × IsAsking site new a

-- What was seen of an ask and of the usable names: there is one, and after a step inside the process they have the numbers of a
-- table where they had them before.
abbrev pub IsChecked : PubKey → (before after : List Usable) → ProcessAsk → Type 0
IsChecked here before after asks.Waits = ⊥
IsChecked here before after asks.Internal = HasTable here before → HasTable here after
IsChecked here before after _ = Unit {0}

-- whether it was a step inside the process; and an ask of its host, or a refusal
abbrev pub is_inside : ProcessAsk → Bool
is_inside asks.Internal = true
is_inside _ = false

abbrev pub IsOuter : ProcessAsk → Type 0
IsOuter asks.Waits = ⊥
IsOuter asks.Internal = ⊥
IsOuter (asks.Admit place message kept) = ⊥
IsOuter _ = Unit {0}
