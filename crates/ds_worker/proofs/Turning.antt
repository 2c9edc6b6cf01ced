-- What a turn keeps, and what a turn of a connection asks.
use Rattle.std.proofs.Common.{◌≡◌, ◌∙◌, Bool, true, false, List, sym, subst, ap}
use Rattle.std.specs.Bool.{MatchBool}
use Rattle.ds_cert.specs.declared.lane.LaneCert.{LaneCert}
use Rattle.ds_lane.specs.Workers.{Worker}
use Rattle.ds_share.specs.declared.desk_act.DeskReply.{DeskReply}
use Rattle.ds_share.specs.declared.desk_act.DeskReply.TheVariants as replies
use Rattle.ds_share.specs.SharedLanes.{IsSameLane}
use Rattle.ds_turn.specs.declared.node.BoxSeat.{BoxSeat}
use Rattle.ds_turn.specs.LaneRecords.{LaneRecord}
use Rattle.ds_turn.specs.LaneTurns.{Checked, Lifted, TookTurn, judged_worker}
use Rattle.ds_turn.specs.ConnRecords.{ConnRecord}
use Rattle.ds_turn.specs.ConnTurns.{Rests, TookConnTurn}
use Rattle.ds_turn.specs.ConnAsks.{AsksInTurn}
use Rattle.ds_worker.specs.Actors.{ConnRests, ConnTurned}
use Rattle.ds_worker.proofs.Running.{ran_more, ran_none, worked_all, worked_less}

-- LANES

judged_cert : (stamp : _) (reply : DeskReply) (e : Worker) → (judged_worker stamp reply e).cert ≡ e.cert
judged_cert stamp (replies.Refused rule) e = λ _. e.cert
judged_cert stamp replies.Done e = λ _. e.cert
judged_cert stamp (replies.Made bytes) e = λ _. e.cert
judged_cert stamp (replies.Local number) e = λ _. e.cert
judged_cert stamp (replies.Attached certs) e = λ _. e.cert
judged_cert stamp (replies.Found address) e = λ _. e.cert
judged_cert stamp (replies.Named label own clear) e = λ _. e.cert

cert_stays : (a b : LaneRecord) → TookTurn a b → b.worker.cert ≡ a.worker.cert
cert_stays a b (Lifted t) = ap (λ (r : LaneRecord). r.worker.cert) t.becomes
cert_stays a b (Checked t) = ap (λ (r : LaneRecord). r.worker.cert) t.becomes ∙ judged_cert t.stamp t.reply a.worker

-- a turn that made an event leaves the worker on its lane
pub same_lane : (lane : LaneCert) (a b : LaneRecord) → TookTurn a b → IsSameLane lane a.worker.cert → IsSameLane lane b.worker.cert
same_lane lane a b turn same = subst (λ (cert : LaneCert). IsSameLane lane cert) (sym (cert_stays a b turn)) same

-- so does one that made none
pub still_lane : (lane : LaneCert) (a b : LaneRecord) → b ≡ a → IsSameLane lane a.worker.cert → IsSameLane lane b.worker.cert
still_lane lane a b still same = subst (λ (r : LaneRecord). IsSameLane lane r.worker.cert) (sym still) same

-- for a loop of turns that counts them
pub ruleset lane_turns_in_a_loop = (ran_none, ran_more, worked_less, worked_all, same_lane, still_lane)

-- CONNECTIONS

rests_here : (boxes : List BoxSeat) (a b : ConnRecord) → Rests a b → AsksInTurn boxes a b false → ConnRests boxes a
rests_here boxes a b rests waits = record { why = subst (λ (x : ConnRecord). Rests a x) rests.same rests; waits = waits }

pub by_made : (boxes : List BoxSeat) (a b : ConnRecord) (made : Bool) → MatchBool made (TookConnTurn boxes a b) (Rests a b) → AsksInTurn boxes a b made
    → MatchBool made (ConnTurned boxes a b) ((b ≡ a) × ConnRests boxes a)
by_made boxes a b true turn asks = record { turn = turn; asks = asks turn }
by_made boxes a b false rests waits = (rests.same, rests_here boxes a b rests waits)
