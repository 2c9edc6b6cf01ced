-- What is recorded where a fault stopped an actor's turns, and of so many turns, by the fault that was met.
use Rattle.std.proofs.Common.{◌≡◌, ℕ, ◌+◌, List, Option, Some, None, length, ap, subst, sym, arith}
use Rattle.std.specs.Prelude.{Ok}
use Rattle.std.proofs.lemmas.List.{length-append}
use Rattle.ds_inlet.specs.declared.offer.Offer.TheVariants as offers
use Rattle.ds_share.specs.declared.desk_act.TurnFault.{TurnFault}
use Rattle.ds_actor.specs.Sites.{SitePlan}
use Rattle.ds_turn.specs.declared.node.BoxSeat.{BoxSeat}
use Rattle.ds_turn.specs.ProcRecords.{ProcRecord}
use Rattle.ds_turn.specs.ProcTurns.{TookProcTurn}
use Rattle.ds_turn.specs.LaneRecords.{LaneRecord}
use Rattle.ds_turn.specs.LaneTurns.{TookTurn}
use Rattle.ds_turn.specs.ConnRecords.{ConnRecord}
use Rattle.ds_turn.specs.ConnTurns.{AsItWas, KeepsBack, Offers}
use Rattle.ds_worker.specs.Actors.{ConnLeft, ConnRests, ConnTurned, LaneRests, ProcRests, Turned}
use Rattle.ds_worker.specs.Logs.{Grew, Log, log_of_conn, log_of_lane, log_of_proc}
use Rattle.ds_worker.specs.Runs.{IsSame, Stopped}
use Rattle.ds_worker.specs.Tasks.{IsMade}
use Rattle.ds_worker.proofs.Growing.{conn_grows, lane_grows, proc_grows, read_who}
use Rattle.ds_worker.proofs.Logging.{GrewOne, grew_run}

module _ {X : Type 0} (Turn : X → X → Type 0) (Rest : X → Type 0) (Left : X → X → Type 0) (log : X → Log) (grows : (a b : X) → Turn a b → GrewOne (log a) (log b))
    (stays : (a b : X) → Left a b → log b ≡ log a) where
  grew_stopped : (n : ℕ) (a b : X) → Stopped Turn Left n a b → Grew n (log a) (log b)
  grew_stopped n a b s = subst (λ (x : Log). Grew n (log a) x) (sym (stays s.mid b s.left)) (grew_run Turn log grows n a s.mid s.ran)

  grew_made : (fault : Option TurnFault) (n : ℕ) (a b : X) → IsMade Turn Rest Left fault n a b → Grew n (log a) (log b)
  grew_made None n a b w = grew_run Turn log grows n a b w.ran
  grew_made (Some fault) n a b s = grew_stopped n a b s

-- a frame that stays offered is no event
conn_stays : (a b : ConnRecord) → ConnLeft a b → log_of_conn b ≡ log_of_conn a
conn_stays a b left = go left.keeps
  where
    go : KeepsBack a b → log_of_conn b ≡ log_of_conn a
    go (AsItWas same) = ap log_of_conn same
    go (Offers inlet number reads is) = λ i. record {
      who = read_who a.conn (Ok (offers.Frame inlet number)) b.conn reads i;
      stamp = ap (λ (r : ConnRecord). r.stamp) is i;
      events = ap (λ (r : ConnRecord). r.events) is i;
    }

turned_grows : (boxes : List BoxSeat) (a b : ConnRecord) → ConnTurned boxes a b → GrewOne (log_of_conn a) (log_of_conn b)
turned_grows boxes a b turn = conn_grows boxes a b (Turned turn)

pub proc_made : (site : SitePlan) (fault : Option TurnFault) (n : ℕ) (a b : ProcRecord) → IsMade (TookProcTurn site) (ProcRests site) IsSame fault n a b → Grew n (log_of_proc a) (log_of_proc b)
proc_made site fault n a b made = grew_made (TookProcTurn site) (ProcRests site) IsSame log_of_proc (proc_grows site) (λ x y same. ap log_of_proc same) fault n a b made

pub lane_made : (fault : Option TurnFault) (n : ℕ) (a b : LaneRecord) → IsMade TookTurn LaneRests IsSame fault n a b → Grew n (log_of_lane a) (log_of_lane b)
lane_made fault n a b made = grew_made TookTurn LaneRests IsSame log_of_lane lane_grows (λ x y same. ap log_of_lane same) fault n a b made

pub conn_made : (boxes : List BoxSeat) (fault : Option TurnFault) (n : ℕ) (a b : ConnRecord) → IsMade (ConnTurned boxes) (ConnRests boxes) ConnLeft fault n a b → Grew n (log_of_conn a) (log_of_conn b)
conn_made boxes fault n a b made = grew_made (ConnTurned boxes) (ConnRests boxes) ConnLeft log_of_conn (turned_grows boxes) conn_stays fault n a b made

-- HOW MANY EVENTS THERE ARE

length_grew : (n : ℕ) (a b : Log) → Grew n a b → length b.events ≡ length a.events + n
length_grew n a b g = omega (arith, ap length g.events, length-append a.events g.more, g.counted)

pub length_of_proc : (site : SitePlan) (n : ℕ) (a b : ProcRecord) → Stopped (TookProcTurn site) IsSame n a b → length b.events ≡ length a.events + n
length_of_proc site n a b s =
    length_grew n (log_of_proc a) (log_of_proc b) (grew_stopped (TookProcTurn site) (ProcRests site) IsSame log_of_proc (proc_grows site) (λ x y same. ap log_of_proc same) n a b s)

pub length_of_lane : (n : ℕ) (a b : LaneRecord) → Stopped TookTurn IsSame n a b → length b.events ≡ length a.events + n
length_of_lane n a b s = length_grew n (log_of_lane a) (log_of_lane b) (grew_stopped TookTurn LaneRests IsSame log_of_lane lane_grows (λ x y same. ap log_of_lane same) n a b s)

pub length_of_conn : (boxes : List BoxSeat) (n : ℕ) (a b : ConnRecord) → Stopped (ConnTurned boxes) ConnLeft n a b → length b.events ≡ length a.events + n
length_of_conn boxes n a b s =
    length_grew n (log_of_conn a) (log_of_conn b) (grew_stopped (ConnTurned boxes) (ConnRests boxes) ConnLeft log_of_conn (turned_grows boxes) conn_stays n a b s)

-- the events that were counted are those of the turns
pub stopped_as : {X : Type 0} (Turn Left : X → X → Type 0) (n made before now : ℕ) (a b : X) → Stopped Turn Left n a b → now ≡ before + n → made + before ≡ now → Stopped Turn Left made a b
stopped_as Turn Left n made before now a b s grew counted =
    let same : n ≡ made = omega arith in
    subst (λ (k : ℕ). Stopped Turn Left k a b) same s
