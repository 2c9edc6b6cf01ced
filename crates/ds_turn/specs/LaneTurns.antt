-- What a turn of a lane's worker does: it lifts where its hand is empty, and else the desk judges what is in hand.
use Rattle.std.specs.Prelude.{◌≡◌, ℕ, ◌<◌, List, [], length, All}
use Rattle.std.specs.List.{flat_map}
use Rattle.std.specs.Int.{w32, to_be_bytes}
use Rattle.ds_script.specs.declared.actor.Actor.{Actor}
use Rattle.ds_lane.specs.declared.batch.Waiting.{Waiting}
use Rattle.ds_lane.specs.Lanes.{WaitsOn}
use Rattle.ds_lane.specs.Workers.{Worker, dropped, framed, holding}
use Rattle.ds_share.specs.declared.desk_act.DeskReply.{DeskReply}
use Rattle.ds_share.specs.declared.desk_act.DeskReply.TheVariants.{Done, Made, Local, Attached, Found, Named, Refused}
use Rattle.ds_share.specs.Desks.{IsFrameAnswer, given_by_judge}
use Rattle.ds_share.specs.Spelling.{spelling_of_waiting}
use Rattle.ds_merge.specs.declared.recorded.Recorded.{Recorded}
use Rattle.ds_turn.specs.Records.{desk_name, entry_on, frame_event, lane_name}
use Rattle.ds_turn.specs.LaneRecords.{LaneRecord, recorded}

-- the event of a lift: the lane enters how many were lifted, and hands them out
abbrev pub lift_event : Actor → (stamp : ℕ) → List Waiting → Recorded
lift_event who stamp batch = frame_event (entry_on (lane_name who.host who.index) who stamp 3 (to_be_bytes w32 (length batch))) (flat_map spelling_of_waiting batch)

-- the event of a judgement: the desk enters a look, and hands out its answer
abbrev pub judge_event : Actor → (stamp : ℕ) → DeskReply → Recorded
judge_event who stamp reply = frame_event (entry_on (desk_name who.host) who stamp 1 []) (given_by_judge reply)

-- the worker by the desk's answer: its hand is dropped where a rule refuses it, and else it is one frame
abbrev pub judged_worker : (stamp : ℕ) → DeskReply → Worker → Worker
judged_worker stamp (Refused rule) e = dropped stamp rule e
judged_worker stamp Done e = framed stamp e
judged_worker stamp (Made bytes) e = framed stamp e
judged_worker stamp (Local number) e = framed stamp e
judged_worker stamp (Attached certs) e = framed stamp e
judged_worker stamp (Found address) e = framed stamp e
judged_worker stamp (Named label own clear) e = framed stamp e

-- Messages of the lane that waited longest went to the empty hand.
pub record Lifts (a b : LaneRecord) : Type 0 where
  pub stamp : ℕ
  pub batch : List Waiting
  pub empty : a.worker.hand ≡ []
  pub later : a.stamp < stamp
  pub some : 0 < length batch
  pub on : All (WaitsOn a.worker.cert) batch
  pub becomes : b ≡ recorded (holding batch a.worker) (lift_event a.worker.who stamp batch) a

-- What was in hand was judged, and is one frame or dropped.
pub record Checks (a b : LaneRecord) : Type 0 where
  pub stamp : ℕ
  pub reply : DeskReply
  pub some : 0 < length a.worker.hand
  pub later : a.stamp < stamp
  pub answer : IsFrameAnswer reply
  pub becomes : b ≡ recorded (judged_worker stamp reply a.worker) (judge_event a.worker.who stamp reply) a

-- A turn that made an event is one or the other.
pub data TookTurn (a b : LaneRecord) : Type 0 where
  Lifted : Lifts a b → TookTurn a b
  Checked : Checks a b → TookTurn a b
