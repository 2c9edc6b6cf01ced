-- Each turn is one event more in its actor's log.
use Rattle.std.proofs.Common.{◌≡◌, ℕ, ◌+◌, ◌<◌, Bool, true, false, List, [], ◌∷◌, Option, Some, None, refl, subst, ap, ◌∙◌, arith}
use Rattle.std.specs.Prelude.{Result, Ok, Err}
use Rattle.std.specs.Option.{is_none}
use Rattle.ds_label.specs.declared.rule.Rule.{Rule}
use Rattle.ds_msg.specs.declared.message.Message.{Message}
use Rattle.ds_msg.specs.declared.local.LocalMessage.{LocalMessage}
use Rattle.ds_frame.specs.declared.item.Failure.{Failure}
use Rattle.ds_frame.specs.declared.item.ReadEnd.{ReadEnd}
use Rattle.ds_frame.specs.declared.item.ReadEnd.TheVariants as ends
use Rattle.ds_frame.specs.Fields.{ReadFault, Open, Broken}
use Rattle.ds_model.specs.Scheme.{Item, Hello, Framed}
use Rattle.ds_script.specs.Process.{Process as Numbered}
use Rattle.ds_lane.specs.Workers.{Worker}
use Rattle.ds_inlet.specs.Hosts.{seen_reading}
use Rattle.ds_inlet.specs.declared.offer.Offer.{Offer}
use Rattle.ds_inlet.specs.declared.offer.Offer.TheVariants as offers
use Rattle.ds_inlet.specs.OfferedFrames.{OfferedFrame}
use Rattle.ds_inlet.specs.Connections.{Connection, ReadStep, passed_from, read_step, reading_step, refused_from, seen_step, settled, settled_as, step_unless_failed, step_unless_offered}
use Rattle.ds_merge.specs.declared.recorded.Recorded.{Recorded}
use Rattle.ds_share.specs.declared.desk_act.DeskReply.{DeskReply}
use Rattle.ds_share.specs.declared.desk_act.DeskReply.TheVariants as replies
use Rattle.ds_share.specs.Desks.{given_by_judge}
use Rattle.ds_share.specs.Receipts.{next_stamp}
use Rattle.ds_actor.specs.Sites.{SitePlan}
use Rattle.ds_turn.specs.declared.node.BoxSeat.{BoxSeat}
use Rattle.ds_turn.specs.ProcRecords.{ProcRecord, stepped}
use Rattle.ds_turn.specs.ProcEvents.{desk_event, lone_event, put_event, queue_event, take_event}
use Rattle.ds_turn.specs.ProcTurns.{TookProcTurn, Queued, Ran, Moved, WasRefused, Put, Took, Acted, Judged}
use Rattle.ds_turn.specs.LaneRecords.{LaneRecord}
use Rattle.ds_turn.specs.LaneRecords as lanes
use Rattle.ds_turn.specs.LaneTurns.{Checked, Lifted, TookTurn, judge_event, judged_worker, lift_event}
use Rattle.ds_turn.specs.ConnRecords.{ConnRecord, recorded}
use Rattle.ds_turn.specs.ConnTurns.{TookConnTurn, after_verdict, arrival_event, arrive_event, count_event, read_event}
use Rattle.ds_turn.specs.ConnTurns as turns
use Rattle.ds_worker.specs.Actors.{Arrived, ConnMoved, Turned}
use Rattle.ds_worker.specs.Logs.{IsEventOf, log_of_conn, log_of_lane, log_of_proc}
use Rattle.ds_worker.proofs.Logging.{GrewOne}

next_later : (n : ℕ) → n < n + 1
next_later n = omega arith

-- PROCESSES

proc_one : (a b : ProcRecord) (next : Numbered) (hand : Option Message) (event : Recorded) → b ≡ stepped next hand event a → a.stamp < event.stamp → IsEventOf a.who event
    → GrewOne (log_of_proc a) (log_of_proc b)
proc_one a b next hand event becomes later own = record {
  event = event;
  who = ap (λ (r : ProcRecord). r.who) becomes;
  events = ap (λ (r : ProcRecord). r.events) becomes;
  stamp = ap (λ (r : ProcRecord). r.stamp) becomes;
  later = later;
  own = own;
}

pub proc_grows : (site : SitePlan) (a b : ProcRecord) → TookProcTurn site a b → GrewOne (log_of_proc a) (log_of_proc b)
proc_grows site a b (Queued t) = proc_one a b _ _ (queue_event a.who t.cert.lane t.stamp t.act t.message) t.becomes t.later (record { actor = refl; entry = (refl, refl) })
proc_grows site a b (Ran t) = proc_one a b _ _ (lone_event a) t.becomes (next_later a.stamp) (record { actor = refl; entry = tt })
proc_grows site a b (Moved t) = proc_one a b _ _ (lone_event a) t.becomes (next_later a.stamp) (record { actor = refl; entry = tt })
proc_grows site a b (WasRefused t) = proc_one a b _ _ (lone_event a) t.becomes (next_later a.stamp) (record { actor = refl; entry = tt })
proc_grows site a b (Put t) = proc_one a b _ _ (put_event a.who t.seat.slot t.stamp t.act t.message) t.becomes t.later (record { actor = refl; entry = (refl, refl) })
proc_grows site a b (Took t) = proc_one a b _ _ (take_event a.who t.seat.slot t.stamp t.message) t.becomes t.later (record { actor = refl; entry = (refl, refl) })
proc_grows site a b (Acted t) = proc_one a b _ _ (desk_event a.who t.stamp t.act t.body t.given) t.becomes t.later (record { actor = refl; entry = (refl, refl) })
proc_grows site a b (Judged t) = proc_one a b _ _ (desk_event a.who t.stamp 1 [] (given_by_judge t.reply)) t.becomes t.later (record { actor = refl; entry = (refl, refl) })

-- LANES

judged_who : (stamp : ℕ) (reply : DeskReply) (e : Worker) → (judged_worker stamp reply e).who ≡ e.who
judged_who stamp (replies.Refused rule) e = refl
judged_who stamp replies.Done e = refl
judged_who stamp (replies.Made bytes) e = refl
judged_who stamp (replies.Local number) e = refl
judged_who stamp (replies.Attached certs) e = refl
judged_who stamp (replies.Found address) e = refl
judged_who stamp (replies.Named label own clear) e = refl

lane_one : (a b : LaneRecord) (next : Worker) (event : Recorded) → b ≡ lanes.recorded next event a → next.who ≡ a.worker.who → a.stamp < event.stamp → IsEventOf a.worker.who event
    → GrewOne (log_of_lane a) (log_of_lane b)
lane_one a b next event becomes who later own = record {
  event = event;
  who = ap (λ (r : LaneRecord). r.worker.who) becomes ∙ who;
  events = ap (λ (r : LaneRecord). r.events) becomes;
  stamp = ap (λ (r : LaneRecord). r.stamp) becomes;
  later = later;
  own = own;
}

pub lane_grows : (a b : LaneRecord) → TookTurn a b → GrewOne (log_of_lane a) (log_of_lane b)
lane_grows a b (Lifted t) = lane_one a b _ (lift_event a.worker.who t.stamp t.batch) t.becomes refl t.later (record { actor = refl; entry = (refl, refl) })
lane_grows a b (Checked t) =
    lane_one a b _ (judge_event a.worker.who t.stamp t.reply) t.becomes (judged_who t.stamp t.reply a.worker) t.later (record { actor = refl; entry = (refl, refl) })

-- CONNECTIONS

seen_who : (k : Connection) (x : Item) (rest : List ℕ) → (seen_step k x rest).conn.who ≡ k.who
seen_who k (Hello lane) rest = refl
seen_who k (Framed number messages) rest = refl

reading_who : (k : Connection) (r : Result (Item × List ℕ) ReadFault) → (reading_step k r).conn.who ≡ k.who
reading_who k (Ok x) = seen_who k x.0 x.1
reading_who k (Err Open) = refl
reading_who k (Err (Broken cause offset)) = refl

failed_who : (k : Connection) (o : Option Failure) → (step_unless_failed o k).conn.who ≡ k.who
failed_who k None = reading_who k (seen_reading k.here k.inlets k.reader.lane k.reader.rest)
failed_who k (Some failure) = refl

offered_who : (k : Connection) (o : Option OfferedFrame) → (step_unless_offered o k).conn.who ≡ k.who
offered_who k None = failed_who k k.reader.failure
offered_who k (Some o) = refl

-- a call of read leaves the actor
pub read_who : (k : Connection) (r : Result Offer ReadEnd) (m : Connection) → read_step k ≡ record { answer = r; conn = m } → m.who ≡ k.who
read_who k r m e = subst (λ (t : ReadStep). t.conn.who ≡ k.who) e (offered_who k k.offered)

settled_who : (k : Connection) (b : Bool) (o : Option OfferedFrame) → (settled_as b o k).who ≡ k.who
settled_who k true None = refl
settled_who k false None = refl
settled_who k true (Some o) = refl
settled_who k false (Some o) = refl

passed_who : (k : Connection) (mail : LocalMessage) (hand : List Message) → (passed_from mail hand k).who ≡ k.who
passed_who k mail [] = refl
passed_who k mail (m ∷ rest) = refl

refused_who : (k : Connection) (rule : Rule) (hand : List Message) → (refused_from rule hand k).who ≡ k.who
refused_who k rule [] = refl
refused_who k rule (m ∷ rest) = refl

verdict_who : (k : Connection) (v : Result LocalMessage Rule) → (after_verdict v k).who ≡ k.who
verdict_who k (Ok mail) = passed_who k mail k.hand
verdict_who k (Err rule) = refused_who k rule k.hand

conn_one : (a b : ConnRecord) (next : Connection) (event : Recorded) → b ≡ recorded next event a → next.who ≡ a.conn.who → a.stamp < event.stamp → IsEventOf a.conn.who event
    → GrewOne (log_of_conn a) (log_of_conn b)
conn_one a b next event becomes who later own = record {
  event = event;
  who = ap (λ (r : ConnRecord). r.conn.who) becomes ∙ who;
  events = ap (λ (r : ConnRecord). r.events) becomes;
  stamp = ap (λ (r : ConnRecord). r.stamp) becomes;
  later = later;
  own = own;
}

turn_grows : (boxes : List BoxSeat) (a b : ConnRecord) → TookConnTurn boxes a b → GrewOne (log_of_conn a) (log_of_conn b)
turn_grows boxes a b (turns.Greeted t) =
    conn_one a b t.next (read_event a.conn.who (a.stamp + 1)) t.becomes (read_who a.conn (Ok offers.Hello) t.next t.reads) (next_later a.stamp) (record { actor = refl; entry = tt })
turn_grows boxes a b (turns.Broke t) =
    conn_one a b t.next (read_event a.conn.who (a.stamp + 1)) t.becomes (read_who a.conn (Err (ends.BadFrame t.cause t.place)) t.next t.reads) (next_later a.stamp) (record { actor = refl; entry = tt })
turn_grows boxes a b (turns.Counted t) =
    let read : t.next.who ≡ a.conn.who = read_who a.conn (Ok (offers.Frame t.inlet t.number)) t.next t.reads in
    conn_one a b (settled (is_none t.counts.told) t.next) (count_event t.next.who t.counts.stamp t.inlet t.number t.counts.told) t.counts.becomes
    (settled_who t.next (is_none t.counts.told) t.next.offered ∙ read) t.counts.later (record { actor = read; entry = (refl, refl) })
turn_grows boxes a b (turns.Put t) =
    conn_one a b (record a.conn { passed = None }) (turns.put_event a.conn.who t.stamp t.slot t.act t.mail) t.becomes refl t.later (record { actor = refl; entry = (refl, refl) })
turn_grows boxes a b (turns.Judged t) =
    conn_one a b (after_verdict t.verdict a.conn) (arrival_event a.conn.who t.receipt.stamp t.judged.reply) t.becomes (verdict_who a.conn t.verdict) t.judged.answers.later
    (record { actor = refl; entry = (refl, refl) })

arrival_later : (n least : ℕ) → n < next_stamp n least
arrival_later n least = omega arith

pub conn_grows : (boxes : List BoxSeat) (a b : ConnRecord) → ConnMoved boxes a b → GrewOne (log_of_conn a) (log_of_conn b)
conn_grows boxes a b (Arrived t) =
    conn_one a b _ (arrive_event a.conn.who (next_stamp a.stamp t.least) t.piece) t.becomes refl (arrival_later a.stamp t.least) (record { actor = refl; entry = tt })
conn_grows boxes a b (Turned t) = turn_grows boxes a b t.turn
