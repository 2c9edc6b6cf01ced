-- What a process, a lane's worker and a connection do in turns, and when they rest.
use Rattle.std.specs.Prelude.{◌≡◌, ◌≢◌, ℕ, false, List, [], None}
use Rattle.ds_share.specs.Receipts.{next_stamp}
use Rattle.ds_share.specs.declared.desk_act.TurnFault.{TurnFault}
use Rattle.ds_share.specs.declared.desk_act.TurnFault.TheVariants as faults
use Rattle.ds_inlet.specs.Connections.{arrived_more}
use Rattle.ds_actor.specs.Sites.{SitePlan}
use Rattle.ds_turn.specs.declared.node.BoxSeat.{BoxSeat}
use Rattle.ds_turn.specs.ProcRecords.{ProcRecord}
use Rattle.ds_turn.specs.ProcTurns.{Rests, TookProcTurn}
use Rattle.ds_turn.specs.LaneRecords.{LaneRecord}
use Rattle.ds_turn.specs.LaneTurns.{TookTurn}
use Rattle.ds_turn.specs.ConnRecords.{ConnRecord, recorded}
use Rattle.ds_turn.specs.ConnTurns.{KeepsBack, TookConnTurn, arrive_event}
use Rattle.ds_turn.specs.ConnTurns as turns
use Rattle.ds_turn.specs.ConnAsks.{Asks, AsksInTurn, IsSamePlain}
use Rattle.ds_worker.specs.Runs.{IsSame, Ran, Stopped, Worked}

-- KEEPERS

-- where memory ran out at the first turn, the keeper is as it was
abbrev pub SparesKeeper : {K : Type 0} → TurnFault → (count : ℕ) → (old new : K) → Type 0
SparesKeeper fault count old new = fault ≢ faults.KeeperFault → count ≡ 0 → new ≡ old

-- PROCESSES

-- nothing is in its hand, and its script has ended, its operation leads to its own place, or its mailbox is empty
pub record ProcRests (site : SitePlan) (r : ProcRecord) : Type 0 where
  pub empty : r.hand ≡ None
  pub why : Rests site r

-- after so many turns in a phase
abbrev pub ProcWorked : SitePlan → (count : ℕ) → (old new : ProcRecord) → Type 0
ProcWorked site = Worked (TookProcTurn site) (ProcRests site)

-- and so where a fault stopped them: that turn changed nothing
abbrev pub ProcStopped : SitePlan → (count : ℕ) → (old new : ProcRecord) → Type 0
ProcStopped site = Stopped (TookProcTurn site) IsSame

-- LANES

-- nothing is in its hand
abbrev pub LaneRests : LaneRecord → Type 0
LaneRests r = r.worker.hand ≡ []

-- after so many turns in a phase
abbrev pub LaneWorked : (count : ℕ) → (old new : LaneRecord) → Type 0
LaneWorked = Worked TookTurn LaneRests

-- and so where a fault stopped them: that turn changed nothing
abbrev pub LaneStopped : (count : ℕ) → (old new : LaneRecord) → Type 0
LaneStopped = Stopped TookTurn IsSame

-- CONNECTIONS

-- A turn that made an event, and so asks the plain world's connection.
pub record ConnTurned (boxes : List BoxSeat) (a b : ConnRecord) : Type 0 where
  pub turn : TookConnTurn boxes a b
  pub asks : Asks boxes a b turn

-- Nothing is in its hand, nothing passed and nothing is there to be read; and so the plain world's connection waits.
pub record ConnRests (boxes : List BoxSeat) (r : ConnRecord) : Type 0 where
  pub why : turns.Rests r r
  pub waits : AsksInTurn boxes r r false

-- what is left where memory ran out: the plain world's connection is the same; a frame that was read may stay offered
pub record ConnLeft (a b : ConnRecord) : Type 0 where
  pub keeps : KeepsBack a b
  pub plain : IsSamePlain a.conn b.conn

-- after so many turns in a phase
abbrev pub ConnWorked : List BoxSeat → (count : ℕ) → (old new : ConnRecord) → Type 0
ConnWorked boxes = Worked (ConnTurned boxes) (ConnRests boxes)

-- and so where memory ran out
abbrev pub ConnStopped : List BoxSeat → (count : ℕ) → (old new : ConnRecord) → Type 0
ConnStopped boxes = Stopped (ConnTurned boxes) ConnLeft

-- The next bytes of its stream arrived, at a stamp above its last one and above this one.
pub record Arrives (a b : ConnRecord) : Type 0 where
  pub piece : List ℕ
  pub least : ℕ
  pub becomes : b ≡ recorded (arrived_more piece a.conn) (arrive_event a.conn.who (next_stamp a.stamp least) piece) a

-- An event of a connection is an arrival or made by a turn.
pub data ConnMoved (boxes : List BoxSeat) (a b : ConnRecord) : Type 0 where
  Arrived : Arrives a b → ConnMoved boxes a b
  Turned : ConnTurned boxes a b → ConnMoved boxes a b

-- so many of them, one after another: over many phases, with arrivals between them
abbrev pub ConnRan : List BoxSeat → (count : ℕ) → (old new : ConnRecord) → Type 0
ConnRan boxes = Ran (ConnMoved boxes)
