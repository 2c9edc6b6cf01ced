-- What a turn of a process did, from what its parts did.
use Rattle.std.proofs.Common.{◌≡◌, ℕ, ◌<◌, Bool, true, false, ◌&&◌, List, [], Option, Some, None, is_some, slice_get, refl, sym, ap, ◌∙◌, subst, arith}
use Rattle.std.specs.Prelude.{◌^◌, nat_le, position}
use Rattle.std.proofs.lemmas.Bool.Decides.{nat_tests}
use Rattle.ds_label.specs.declared.category.PubKey.{PubKey}
use Rattle.ds_cert.specs.declared.lane.LaneCert.{LaneCert}
use Rattle.ds_script.specs.Process.{Process as Numbered}
use Rattle.ds_msg.specs.declared.message.Message.{Message}
use Rattle.ds_model.specs.Keys.{same_key}
use Rattle.ds_model.specs.ProcessStep.{queue_at}
use Rattle.ds_merge.specs.declared.recorded.Recorded.{Recorded}
use Rattle.ds_share.specs.declared.receipt.Receipt.{Receipt}
use Rattle.ds_share.specs.declared.desk_act.DeskReply.{DeskReply}
use Rattle.ds_share.specs.declared.desk_act.DeskReply.TheVariants as replies
use Rattle.ds_share.specs.Desks.{IsSendAnswer, MayAct, SaysOfJudging, given_by_judge}
use Rattle.ds_actor.specs.declared.ask.DeskRequest.{DeskRequest}
use Rattle.ds_actor.specs.declared.ask.DeskRequest.TheVariants as requests
use Rattle.ds_actor.specs.declared.ask.ProcessAsk.TheVariants as asks
use Rattle.ds_actor.specs.Asks.{IsAskInRange}
use Rattle.ds_actor.specs.Sites.{SitePlan, is_lane_for}
use Rattle.ds_actor.proofs.Sites.{same_lane}
use Rattle.ds_turn.specs.ProcRecords.{IsGoing, ProcRecord, stepped}
use Rattle.ds_turn.specs.ProcEvents.{desk_event}
use Rattle.ds_turn.specs.ProcAsks.{Asks, HandFits}
use Rattle.ds_turn.specs.ProcCerts.{IsInRange, IsVerdict, number_at}
use Rattle.ds_turn.specs.ProcTurns.{Admits, Judges, Queues, act_for, judged_hand, judged_process}

-- a message out of the hand came to its lane
pub queues : (site : SitePlan) (a r l b : ProcRecord) (m : Message) (place : ℕ) (cert : LaneCert) → r ≡ a → l ≡ record r { hand = None } → r.hand ≡ Some m
    → slice_get site.lanes place ≡ Some cert → position (is_lane_for m.to m.label) site.lanes ≡ Some place → Admits cert.lane m l b → Queues site a b
queues site a r l b m place cert same laid held there found did =
    let is : l ≡ record a { hand = None } = laid ∙ (λ i. record (same i) { hand = None }) in
    let now : Admits cert.lane m (record a { hand = None }) b = subst (λ (z : ProcRecord). Admits cert.lane m z b) is did in
    record {
      message = m;
      place = place;
      cert = cert;
      stamp = now.stamp;
      act = now.act;
      hand = ap (λ (z : ProcRecord). z.hand) (sym same) ∙ held;
      lane = there;
      asked = λ here rows plan x y. ap (queue_at x m) (same_lane site rows plan m.to m.label ∙ found);
      later = now.later;
      came = now.came;
      becomes = now.becomes;
    }

-- what the desk may be asked
home_numbers : (b : Bool) (limit n : ℕ) → n < limit → (b && nat_le limit n) ≡ false
home_numbers false limit n less = refl
home_numbers true limit n less = grind (arith, nat_tests)

pub may_act : (site : SitePlan) (here : PubKey) (request : DeskRequest) (reg host : ℕ) → IsAskInRange site (asks.PublicAct request reg host) → MayAct here (act_for request)
may_act site here (requests.Delegating c to from until) reg host range = tt
may_act site here (requests.Importing bytes) reg host range = tt
may_act site here (requests.Mapping c) reg host range = home_numbers (same_key c.creator here) (2 ^ 62) c.number range

-- what comes to the hand has a lane
holds : (lanes : List LaneCert) (p : Numbered) (m : Message) (place : Option ℕ) (reply : DeskReply) → IsGoing p → place ≡ position (is_lane_for m.to m.label) lanes
    → IsSendAnswer (number_at lanes place) reply → IsInRange m reply → HandFits lanes p (judged_hand m reply None)
holds lanes p m place (replies.Attached certs) going found answer range = go place found answer.1
  where
    go : (o : Option ℕ) → o ≡ position (is_lane_for m.to m.label) lanes → is_some (number_at lanes o) ≡ true → HandFits lanes p (Some (record m { certs = certs }))
    go (Some at) e is = record { place = at; lane = sym e; range = range; going = going }
    go None e is = absurd cc
holds lanes p m place replies.Done going found answer range = tt
holds lanes p m place (replies.Made bytes) going found answer range = tt
holds lanes p m place (replies.Local number) going found answer range = tt
holds lanes p m place (replies.Found address) going found answer range = tt
holds lanes p m place (replies.Named label own clear) going found answer range = tt
holds lanes p m place (replies.Refused rule) going found answer range = tt

-- a judge's answer to a send is a verdict
pub verdict : (lane : Option ℕ) (reply : DeskReply) → IsSendAnswer lane reply → IsVerdict reply
verdict lane (replies.Attached certs) answer = answer.0
verdict lane (replies.Refused rule) answer = tt
verdict lane replies.Done answer = answer
verdict lane (replies.Made bytes) answer = answer
verdict lane (replies.Local number) answer = answer
verdict lane (replies.Found address) answer = answer
verdict lane (replies.Named label own clear) answer = answer

-- the desk judged a message
pub judges : (site : SitePlan) (a b : ProcRecord) (m : Message) (place : Option ℕ) (reply : DeskReply) (r : Receipt) (event : Recorded) → a.hand ≡ None → IsGoing a.process
    → Asks site a (asks.AsksJudgement m) → place ≡ position (is_lane_for m.to m.label) site.lanes → a.stamp < r.stamp → SaysOfJudging (IsSendAnswer (number_at site.lanes place)) reply r.act r.body r.given
    → event ≡ desk_event a.who r.stamp r.act r.body r.given → IsInRange m reply → b ≡ stepped (judged_process reply a.process) (judged_hand m reply a.hand) event a → Judges site a b
judges site a b m place reply r event empty going ask found later says made range became =
    let is : event ≡ desk_event a.who r.stamp 1 [] (given_by_judge reply) = made ∙ (λ i. desk_event a.who r.stamp (says.1.0 i) (says.1.1 i) (says.1.2 i)) in
    record {
      message = m;
      reply = reply;
      stamp = r.stamp;
      empty = empty;
      asked = ask;
      later = later;
      answer = verdict (number_at site.lanes place) reply says.0;
      holds = holds site.lanes a.process m place reply going found says.0 range;
      becomes = became ∙ (λ i. stepped (judged_process reply a.process) (judged_hand m reply (empty i)) (is i) a);
    }
