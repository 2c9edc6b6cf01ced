-- A turn of a process, from what its parts did.
use Rattle.std.proofs.Common.{◌≡◌, ℕ, ◌<◌, Bool, true, false, cond, [], Option, Some, None, slice_get, refl, sym, ap, ◌∙◌, subst}
use Rattle.std.specs.Prelude.{Result, Ok, Err, All, IfOk, OnErr, length}
use Rattle.std.specs.Bool.{MatchBool}
use Rattle.ds_label.specs.declared.rule.Rule.{Rule}
use Rattle.ds_label.specs.declared.category.Category.{Category}
use Rattle.ds_label.specs.Numbers.{by_number}
use Rattle.ds_script.specs.Process.{Process as Numbered, granted_process}
use Rattle.ds_msg.specs.declared.message.Message.{Message}
use Rattle.ds_msg.specs.declared.local.LocalMessage.{LocalMessage}
use Rattle.ds_model.specs.ProcessRules.{can_grant}
use Rattle.ds_merge.specs.declared.recorded.Recorded.{Recorded}
use Rattle.ds_share.specs.Desks.{given_by_judge}
use Rattle.ds_share.specs.declared.desk_act.TurnFault.{TurnFault}
use Rattle.ds_share.specs.declared.desk_act.DeskReply.{DeskReply}
use Rattle.ds_share.specs.declared.desk_act.DeskReply.TheVariants as replies
use Rattle.ds_actor.specs.declared.ask.ProcessAsk.{ProcessAsk}
use Rattle.ds_actor.specs.declared.ask.ProcessAsk.TheVariants as asks
use Rattle.ds_actor.specs.declared.ask.DeskRequest.{DeskRequest}
use Rattle.ds_actor.specs.declared.ask.DeskRequest.TheVariants as requests
use Rattle.ds_actor.specs.Sites.{BoxSite, SitePlan}
use Rattle.ds_actor.specs.Asks.{IsAmongHosts}
use Rattle.ds_actor.specs.Asking.{HasTable}
use Rattle.ds_turn.specs.ProcRecords.{ProcRecord, RoomyProc, stepped}
use Rattle.ds_turn.specs.ProcEvents.{desk_event, lone_event, put_event, queue_event, take_event}
use Rattle.ds_turn.specs.ProcAsks.{Answers, Asks, HandFits, IsAsking, IsOuter, MayStep, MovesTo, is_inside}
use Rattle.ds_turn.specs.ProcTurns.{Moves, Puts, PutsInto, RanOrStays, Refuses, Rests, Takes, TakesFrom, TookProcTurn, acted_process, delegated_process, imported_process, judged_hand, judged_process, mapped_process, refused_process, sent_process}
use Rattle.ds_turn.specs.ProcTurns.{Queued, Ran, Moved, WasRefused, Put, Took, Acted, Judged, Waits}
use Rattle.ds_actor.specs.Replying.{took_process}

-- WHAT WAS ASKED

pub outer_ask : (site : SitePlan) (old : ProcRecord) (new : RoomyProc) (a : ProcessAsk) → Answers site old new a → is_inside a ≡ false → (new.proc ≡ old) × IsAsking site new a × IsOuter a
outer_ask site old new asks.Waits is out = absurd is
outer_ask site old new asks.Internal is out = absurd cc
outer_ask site old new (asks.Refused rule) is out = (is.0, is.1, tt)
outer_ask site old new (asks.Put place message copy) is out = (is.0, is.1, tt)
outer_ask site old new (asks.Admit place message copy) is out = absurd is
outer_ask site old new (asks.TakeFrom place reg slot) is out = (is.0, is.1, tt)
outer_ask site old new (asks.PublicAct request reg host) is out = (is.0, is.1, tt)
outer_ask site old new (asks.AsksJudgement message) is out = (is.0, is.1, tt)

-- a step inside the process, and its event
inside_ask : (site : SitePlan) (old : ProcRecord) (new : RoomyProc) (a : ProcessAsk) → Answers site old new a → is_inside a ≡ true
    → MovesTo site old new.proc.process × (new.proc ≡ record old { process = new.proc.process }) × (0 < new.spare)
inside_ask site old new asks.Waits is inside = absurd is
inside_ask site old new asks.Internal is inside = is
inside_ask site old new (asks.Refused rule) is inside = absurd cc
inside_ask site old new (asks.Put place message copy) is inside = absurd cc
inside_ask site old new (asks.Admit place message copy) is inside = absurd is
inside_ask site old new (asks.TakeFrom place reg slot) is inside = absurd cc
inside_ask site old new (asks.PublicAct request reg host) is inside = absurd cc
inside_ask site old new (asks.AsksJudgement message) is inside = absurd cc

pub inside_spare : (site : SitePlan) (old : ProcRecord) (new : RoomyProc) (a : ProcessAsk) → Answers site old new a → is_inside a ≡ true → 0 < new.spare
inside_spare site old new a is inside = (inside_ask site old new a is inside).2

pub moved : (site : SitePlan) (old b : ProcRecord) (new : RoomyProc) (a : ProcessAsk) → old.hand ≡ None → Answers site old new a → is_inside a ≡ true
    → b ≡ stepped new.proc.process new.proc.hand (lone_event new.proc) new.proc → TookProcTurn site old b
moved site old b new a empty is inside became =
    let went = inside_ask site old new a is inside in
    let next = new.proc.process in
    let done : Moves site old b = record {
      next = next;
      empty = empty;
      moves = went.0;
      becomes = became ∙ ((λ i. stepped next (went.1 i).hand (lone_event (went.1 i)) (went.1 i)) ∙ ap (λ (hand : Option Message). stepped next hand (lone_event old) old) empty);
    } in
    Moved done

pub refused : (site : SitePlan) (r : RoomyProc) (b : ProcRecord) (a : ProcessAsk) (rule : Rule) → r.proc.hand ≡ None → a ≡ asks.Refused rule → IsAsking site r a
    → b ≡ stepped (refused_process rule r.proc.process) r.proc.hand (lone_event r.proc) r.proc → TookProcTurn site r.proc b
refused site r b a rule empty is asking became =
    let done : Refuses site r.proc b = record {
      rule = rule;
      empty = empty;
      asked = subst (λ (k : ProcessAsk). Asks site r.proc k) is asking.asked;
      becomes = became ∙ ap (λ (hand : Option Message). stepped (refused_process rule r.proc.process) hand (lone_event r.proc) r.proc) empty;
    } in
    WasRefused done

-- MAILBOXES

pub puts : (site : SitePlan) (r : RoomyProc) (b : ProcRecord) (place : ℕ) (seat : BoxSite) (message copy : LocalMessage) → r.proc.hand ≡ None → IsAsking site r (asks.Put place message copy)
    → slice_get site.boxes place ≡ Some seat → PutsInto seat.slot message r.proc b → Puts site r.proc b
puts site r b place seat message copy empty asking there did = record {
  place = place;
  seat = seat;
  message = message;
  stamp = did.stamp;
  act = did.act;
  empty = empty;
  box = there;
  asked = subst (λ (m : LocalMessage). Asks site r.proc (asks.Put place message m)) asking.copied asking.asked;
  named = λ rows table agreed named. asking.mail rows table agreed named;
  later = did.later;
  came = did.came;
  becomes = did.becomes ∙ ap (λ (hand : Option Message). stepped (sent_process r.proc.process) hand (put_event r.proc.who seat.slot did.stamp did.act message) r.proc) empty;
}

pub takes : (site : SitePlan) (r : RoomyProc) (b : ProcRecord) (made : Bool) (place reg slot : ℕ) (seat : BoxSite) → r.proc.hand ≡ None → IsAsking site r (asks.TakeFrom place reg slot)
    → slice_get site.boxes place ≡ Some seat → MatchBool made (TakesFrom seat.slot reg slot r.proc b) (b ≡ r.proc)
    → MatchBool made (Takes site r.proc b) ((b ≡ r.proc) × Rests site r.proc)
takes site r b true place reg slot seat empty asking there did = record {
  place = place;
  seat = seat;
  reg = reg;
  slot = slot;
  message = did.message;
  stamp = did.stamp;
  empty = empty;
  box = there;
  asked = asking.asked;
  later = did.later;
  becomes = did.becomes ∙ ap (λ (hand : Option Message). stepped (took_process reg slot did.message r.proc.process) hand (take_event r.proc.who seat.slot did.stamp did.message) r.proc) empty;
}
takes site r b false place reg slot seat empty asking there did = (did, Waits place reg slot asking.asked)

-- a take is a turn
pub took : (site : SitePlan) (a b : ProcRecord) (made : Bool) → MatchBool made (Takes site a b) ((b ≡ a) × Rests site a) → MatchBool made (TookProcTurn site a b) ((b ≡ a) × Rests site a)
took site a b true did = Took did
took site a b false did = did

-- a turn of a process that was as it is
pub turned : (site : SitePlan) (a r b : ProcRecord) (made : Bool) → r ≡ a → MatchBool made (TookProcTurn site r b) ((b ≡ r) × Rests site r) → MatchBool made (TookProcTurn site a b) ((b ≡ a) × Rests site a)
turned site a r b made same did = subst (λ (z : ProcRecord). MatchBool made (TookProcTurn site z b) ((b ≡ z) × Rests site z)) same did

-- with its hand
pub with_hand : (site : SitePlan) (a b : ProcRecord) (made : Bool) → a.hand ≡ None → MatchBool made (TookProcTurn site a b) ((b ≡ a) × Rests site a)
    → MatchBool made (TookProcTurn site a b) ((b ≡ a) × (a.hand ≡ None) × Rests site a)
with_hand site a b true empty did = did
with_hand site a b false empty did = (did.0, empty, did.1)

-- IT MAY STEP AGAIN

took_script : (reg slot : ℕ) (m : LocalMessage) (p : Numbered) → (took_process reg slot m p).script ≡ p.script
took_script reg slot m p = go (can_grant by_number p.own p.clear m.own m.clear)
  where
    go : (b : Bool) → (cond b (granted_process m.own m.clear p) p).script ≡ p.script
    go true = refl
    go false = refl

took_names : (reg slot : ℕ) (m : LocalMessage) (p : Numbered) → (took_process reg slot m p).names ≡ p.names
took_names reg slot m p = go (can_grant by_number p.own p.clear m.own m.clear)
  where
    go : (b : Bool) → (cond b (granted_process m.own m.clear p) p).names ≡ p.names
    go true = refl
    go false = refl

delegated_script : (c : Category) (reg host : ℕ) (reply : DeskReply) (p : Numbered) → (delegated_process c reg host reply p).script ≡ p.script
delegated_script c reg host replies.Done p = refl
delegated_script c reg host (replies.Made bytes) p = refl
delegated_script c reg host (replies.Local number) p = refl
delegated_script c reg host (replies.Attached certs) p = refl
delegated_script c reg host (replies.Found address) p = refl
delegated_script c reg host (replies.Named label own clear) p = refl
delegated_script c reg host (replies.Refused rule) p = refl

imported_script : (reply : DeskReply) (p : Numbered) → (imported_process reply p).script ≡ p.script
imported_script replies.Done p = refl
imported_script (replies.Made bytes) p = refl
imported_script (replies.Local number) p = refl
imported_script (replies.Attached certs) p = refl
imported_script (replies.Found address) p = refl
imported_script (replies.Named label own clear) p = refl
imported_script (replies.Refused rule) p = refl

mapped_script : (c : Category) (reply : DeskReply) (p : Numbered) → (mapped_process c reply p).script ≡ p.script
mapped_script c replies.Done p = refl
mapped_script c (replies.Made bytes) p = refl
mapped_script c (replies.Local number) p = refl
mapped_script c (replies.Attached certs) p = refl
mapped_script c (replies.Found address) p = refl
mapped_script c (replies.Named label own clear) p = refl
mapped_script c (replies.Refused rule) p = refl

acted_script : (request : DeskRequest) (reg host : ℕ) (reply : DeskReply) (p : Numbered) → (acted_process request reg host reply p).script ≡ p.script
acted_script (requests.Delegating c to from until) reg host reply p = delegated_script c reg host reply p
acted_script (requests.Importing bytes) reg host reply p = imported_script reply p
acted_script (requests.Mapping c) reg host reply p = mapped_script c reply p

module _ (site : SitePlan) (a : ProcRecord) (may : MayStep site a) where
  -- where its script is the same, its names have a table, and what is in its hand has a lane
  steps_on : (next : Numbered) (hand : Option Message) (event : Recorded) → next.script ≡ a.process.script → HasTable site.here next.names → HandFits site.lanes next hand → MayStep site (stepped next hand event a)
  steps_on next hand event script table fits = record {
    index = may.index;
    scripts = subst (λ ops. All (IsAmongHosts (length site.keys)) ops) (sym script) may.scripts;
    agreed = table;
    holds = fits;
  }

  judged_on : (m : Message) (reply : DeskReply) (event : Recorded) → HandFits site.lanes a.process (judged_hand m reply None) → MayStep site (stepped (judged_process reply a.process) (judged_hand m reply None) event a)
  judged_on m replies.Done event fits = steps_on a.process None event refl may.agreed tt
  judged_on m (replies.Made bytes) event fits = steps_on a.process None event refl may.agreed tt
  judged_on m (replies.Local number) event fits = steps_on a.process None event refl may.agreed tt
  judged_on m (replies.Attached certs) event fits = steps_on a.process (Some (record m { certs = certs })) event refl may.agreed fits
  judged_on m (replies.Found address) event fits = steps_on a.process None event refl may.agreed tt
  judged_on m (replies.Named label own clear) event fits = steps_on a.process None event refl may.agreed tt
  judged_on m (replies.Refused rule) event fits = steps_on (refused_process rule a.process) None event refl may.agreed tt

  still_steps : (b : ProcRecord) → TookProcTurn site a b → MayStep site b
  still_steps b (Queued q) = subst (MayStep site) (sym q.becomes) (steps_on (sent_process a.process) None (queue_event a.who q.cert.lane q.stamp q.act q.message) refl may.agreed tt)
  still_steps b (Ran r) = subst (MayStep site) (sym r.becomes) (steps_on (record a.process { course = r.course }) None (lone_event a) refl may.agreed tt)
  still_steps b (Moved m) = subst (MayStep site) (sym m.becomes) (steps_on m.next None (lone_event a) m.moves.script m.moves.agreed tt)
  still_steps b (WasRefused r) = subst (MayStep site) (sym r.becomes) (steps_on (refused_process r.rule a.process) None (lone_event a) refl may.agreed tt)
  still_steps b (Put p) = subst (MayStep site) (sym p.becomes) (steps_on (sent_process a.process) None (put_event a.who p.seat.slot p.stamp p.act p.message) refl may.agreed tt)
  still_steps b (Took t) = subst (MayStep site) (sym t.becomes) (steps_on (took_process t.reg t.slot t.message a.process) None (take_event a.who t.seat.slot t.stamp t.message)
      (took_script t.reg t.slot t.message a.process) (subst (HasTable site.here) (sym (took_names t.reg t.slot t.message a.process)) may.agreed) tt)
  still_steps b (Acted d) = subst (MayStep site) (sym d.becomes) (steps_on (acted_process d.request d.reg d.host d.reply a.process) None (desk_event a.who d.stamp d.act d.body d.given)
      (acted_script d.request d.reg d.host d.reply a.process) d.agreed tt)
  still_steps b (Judged j) = subst (MayStep site) (sym j.becomes) (judged_on j.message j.reply (desk_event a.who j.stamp 1 [] (given_by_judge j.reply)) j.holds)

  pub steps_again : (b : ProcRecord) (result : Result Bool TurnFault) → IfOk result (λ made. MatchBool made (TookProcTurn site a b) ((b ≡ a) × (a.hand ≡ None) × Rests site a))
      → OnErr result (b ≡ a) → MayStep site b
  steps_again b (Ok true) ok err = still_steps b ok
  steps_again b (Ok false) ok err = subst (MayStep site) (sym ok.0) may
  steps_again b (Err fault) ok err = subst (MayStep site) (sym err) may

-- where no operation was inside it the process is the same
pub not_ran : (a b : ProcRecord) (ran : Option Bool) → RanOrStays a b ran → ran ≡ None → b ≡ a
not_ran a b (Some true) did e = absurd cc
not_ran a b (Some false) did e = did.0
not_ran a b None did e = did.0
