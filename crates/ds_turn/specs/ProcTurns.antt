-- What a turn of a process does.
use Rattle.std.specs.Prelude.{◌≡◌, ◌≢◌, ℕ, ◌<◌, ◌≤◌, ◌⊎◌, Bool, true, false, [], List, Option, Some, None, IsTrue, length, slice_get}
use Rattle.ds_label.specs.declared.rule.Rule.{Rule}
use Rattle.ds_label.specs.declared.category.Category.{Category}
use Rattle.ds_cert.specs.declared.lane.LaneCert.{LaneCert}
use Rattle.ds_script.specs.declared.note.Note.TheVariants as notes
use Rattle.ds_script.specs.Inner.{Course, inner}
use Rattle.ds_script.specs.Process.{Process as Numbered, finished_process}
use Rattle.ds_msg.specs.declared.message.Message.{Message}
use Rattle.ds_msg.specs.declared.local.LocalMessage.{LocalMessage}
use Rattle.ds_map.specs.Labels.{have_names}
use Rattle.ds_share.specs.declared.desk_act.DeskAct.{DeskAct}
use Rattle.ds_share.specs.declared.desk_act.DeskAct.TheVariants as acts
use Rattle.ds_share.specs.declared.desk_act.DeskReply.{DeskReply}
use Rattle.ds_share.specs.declared.desk_act.DeskReply.TheVariants as replies
use Rattle.ds_share.specs.Desks.{SaysOf, given_by_judge}
use Rattle.ds_actor.specs.declared.ask.DeskRequest.{DeskRequest}
use Rattle.ds_actor.specs.declared.ask.DeskRequest.TheVariants as requests
use Rattle.ds_actor.specs.declared.ask.ProcessAsk.TheVariants as asks
use Rattle.ds_actor.specs.Sites.{BoxSite, SitePlan}
use Rattle.ds_actor.specs.Seen.{UnderTables, mail_labels}
use Rattle.ds_actor.specs.Asking.{HasTable}
use Rattle.ds_actor.specs.Replying.{took_process}
use Rattle.ds_turn.specs.ProcRecords.{ProcRecord, stepped}
use Rattle.ds_turn.specs.ProcCerts.{IsVerdict}
use Rattle.ds_turn.specs.ProcEvents.{desk_event, lone_event, put_event, queue_event, take_event}
use Rattle.ds_turn.specs.ProcAsks.{Asks, AsksLane, HandFits, MovesTo}

-- WHAT IT BECOMES

abbrev pub sent_process : Numbered → Numbered
sent_process p = finished_process (Some notes.Sent) None p

abbrev pub refused_process : Rule → Numbered → Numbered
refused_process rule p = finished_process (Some (notes.Refused rule)) None p

-- by the desk's reply to a delegation for a host, an import and a mapping
abbrev pub delegated_process : Category → (reg host : ℕ) → DeskReply → Numbered → Numbered
delegated_process c reg host (replies.Made bytes) p = finished_process (Some (notes.Delegated c host)) (Some (reg, bytes)) p
delegated_process c reg host (replies.Refused rule) p = refused_process rule p
delegated_process c reg host _ p = p

abbrev pub imported_process : DeskReply → Numbered → Numbered
imported_process replies.Done p = finished_process (Some notes.Imported) None p
imported_process (replies.Refused rule) p = refused_process rule p
imported_process _ p = p

abbrev pub mapped_process : Category → DeskReply → Numbered → Numbered
mapped_process c (replies.Local number) p = finished_process (Some (notes.Mapped c number)) None p
mapped_process c (replies.Refused rule) p = refused_process rule p
mapped_process c _ p = p

abbrev pub acted_process : DeskRequest → (reg host : ℕ) → DeskReply → Numbered → Numbered
acted_process (requests.Delegating c to from until) reg host = delegated_process c reg host
acted_process (requests.Importing bytes) reg host = imported_process
acted_process (requests.Mapping c) reg host = mapped_process c

-- by the judge's answer to a message
abbrev pub judged_process : DeskReply → Numbered → Numbered
judged_process (replies.Refused rule) p = refused_process rule p
judged_process _ p = p

-- what is in its hand then: the message with the certificates that go with it
abbrev pub judged_hand : Message → DeskReply → Option Message → Option Message
judged_hand m (replies.Attached certs) hand = Some (record m { certs = certs })
judged_hand m _ hand = hand

-- the desk's act for a request
abbrev pub act_for : DeskRequest → DeskAct
act_for (requests.Delegating c to from until) = acts.Delegate c to from until
act_for (requests.Importing bytes) = acts.Import bytes
act_for (requests.Mapping c) = acts.MapForeign c

-- what the desk may answer to each
abbrev pub IsDelegationAnswer : DeskReply → Type 0
IsDelegationAnswer (replies.Made bytes) = length bytes ≤ 2704
IsDelegationAnswer (replies.Refused rule) = Unit {0}
IsDelegationAnswer _ = ⊥

abbrev pub IsImportAnswer : DeskReply → Type 0
IsImportAnswer replies.Done = Unit {0}
IsImportAnswer (replies.Refused rule) = Unit {0}
IsImportAnswer _ = ⊥

abbrev pub IsMappingAnswer : DeskReply → Type 0
IsMappingAnswer (replies.Local number) = Unit {0}
IsMappingAnswer (replies.Refused rule) = Unit {0}
IsMappingAnswer _ = ⊥

abbrev pub IsAnswerTo : DeskRequest → DeskReply → Type 0
IsAnswerTo (requests.Delegating c to from until) = IsDelegationAnswer
IsAnswerTo (requests.Importing bytes) = IsImportAnswer
IsAnswerTo (requests.Mapping c) = IsMappingAnswer

-- the bytes of a delegation go into a register, which is below 8
abbrev pub IsRegisterFor : DeskRequest → (reg : ℕ) → Type 0
IsRegisterFor (requests.Delegating c to from until) reg = reg < 8
IsRegisterFor (requests.Importing bytes) reg = Unit {0}
IsRegisterFor (requests.Mapping c) reg = Unit {0}

-- WHAT IT DID

-- This message, which was in its hand, came to the lane with this number.
pub record Admits (number : ℕ) (message : Message) (a b : ProcRecord) : Type 0 where
  pub stamp : ℕ
  pub act : ℕ
  pub later : a.stamp < stamp
  pub came : (act ≡ 1) ⊎ (act ≡ 2)
  pub becomes : b ≡ stepped (sent_process a.process) a.hand (queue_event a.who number stamp act message) a

-- The message in its hand came to its lane, which had room for it or dropped it.
pub record Queues (site : SitePlan) (a b : ProcRecord) : Type 0 where
  pub message : Message
  pub place : ℕ
  pub cert : LaneCert
  pub stamp : ℕ
  pub act : ℕ
  pub hand : a.hand ≡ Some message
  pub lane : slice_get site.lanes place ≡ Some cert
  pub asked : AsksLane site message (asks.Admit place message message)
  pub later : a.stamp < stamp
  pub came : (act ≡ 1) ⊎ (act ≡ 2)
  pub becomes : b ≡ stepped (sent_process a.process) None (queue_event a.who cert.lane stamp act message) a

-- An operation inside it led to another place.
pub record Runs (a b : ProcRecord) : Type 0 where
  pub course : Course
  pub empty : a.hand ≡ None
  pub ran : inner a.process.script a.process.course ≡ Some course
  pub moved : course.place ≢ a.process.course.place
  pub becomes : b ≡ stepped (record a.process { course = course }) None (lone_event a) a

-- so it was, or the operation leads to its own place; or there is none inside it
abbrev pub RanOrStays : (a b : ProcRecord) → Option Bool → Type 0
RanOrStays a b (Some true) = Runs a b
RanOrStays a b (Some false) = (b ≡ a) × (inner a.process.script a.process.course ≡ Some a.process.course)
RanOrStays a b None = (b ≡ a) × (inner a.process.script a.process.course ≡ None)

-- Its label changed, or it made a category.
pub record Moves (site : SitePlan) (a b : ProcRecord) : Type 0 where
  pub next : Numbered
  pub empty : a.hand ≡ None
  pub moves : MovesTo site a next
  pub becomes : b ≡ stepped next None (lone_event a) a

-- Its operation was refused.
pub record Refuses (site : SitePlan) (a b : ProcRecord) : Type 0 where
  pub rule : Rule
  pub empty : a.hand ≡ None
  pub asked : Asks site a (asks.Refused rule)
  pub becomes : b ≡ stepped (refused_process rule a.process) None (lone_event a) a

-- This message of it came to the mailbox with this slot.
pub record PutsInto (slot : ℕ) (message : LocalMessage) (a b : ProcRecord) : Type 0 where
  pub stamp : ℕ
  pub act : ℕ
  pub later : a.stamp < stamp
  pub came : (act ≡ 1) ⊎ (act ≡ 2)
  pub becomes : b ≡ stepped (sent_process a.process) a.hand (put_event a.who slot stamp act message) a

-- Its message came to a mailbox, which had room for it or dropped it.
pub record Puts (site : SitePlan) (a b : ProcRecord) : Type 0 where
  pub place : ℕ
  pub seat : BoxSite
  pub message : LocalMessage
  pub stamp : ℕ
  pub act : ℕ
  pub empty : a.hand ≡ None
  pub box : slice_get site.boxes place ≡ Some seat
  pub asked : Asks site a (asks.Put place message message)
  pub named : UnderTables site.here [] a.process (λ rows. IsTrue (have_names site.here rows (mail_labels message)))
  pub later : a.stamp < stamp
  pub came : (act ≡ 1) ⊎ (act ≡ 2)
  pub becomes : b ≡ stepped (sent_process a.process) None (put_event a.who seat.slot stamp act message) a

-- It took a message from the mailbox with this slot, into a register; its operation names that slot.
pub record TakesFrom (id reg slot : ℕ) (a b : ProcRecord) : Type 0 where
  pub message : LocalMessage
  pub stamp : ℕ
  pub later : a.stamp < stamp
  pub becomes : b ≡ stepped (took_process reg slot message a.process) a.hand (take_event a.who id stamp message) a

-- It took a message from a mailbox.
pub record Takes (site : SitePlan) (a b : ProcRecord) : Type 0 where
  pub place : ℕ
  pub seat : BoxSite
  pub reg : ℕ
  pub slot : ℕ
  pub message : LocalMessage
  pub stamp : ℕ
  pub empty : a.hand ≡ None
  pub box : slice_get site.boxes place ≡ Some seat
  pub asked : Asks site a (asks.TakeFrom place reg slot)
  pub later : a.stamp < stamp
  pub becomes : b ≡ stepped (took_process reg slot message a.process) None (take_event a.who seat.slot stamp message) a

-- The desk did its public act, or refused it.
pub record Acts (site : SitePlan) (a b : ProcRecord) : Type 0 where
  pub request : DeskRequest
  pub reg : ℕ
  pub host : ℕ
  pub reply : DeskReply
  pub stamp : ℕ
  pub act : ℕ
  pub body : List ℕ
  pub given : List ℕ
  pub empty : a.hand ≡ None
  pub asked : Asks site a (asks.PublicAct request reg host)
  pub later : a.stamp < stamp
  pub says : SaysOf (act_for request) reply act body given
  pub agreed : HasTable site.here (acted_process request reg host reply a.process).names
  pub becomes : b ≡ stepped (acted_process request reg host reply a.process) None (desk_event a.who stamp act body given) a

-- The desk judged its message to another host: that came to its hand, or was refused.
pub record Judges (site : SitePlan) (a b : ProcRecord) : Type 0 where
  pub message : Message
  pub reply : DeskReply
  pub stamp : ℕ
  pub empty : a.hand ≡ None
  pub asked : Asks site a (asks.AsksJudgement message)
  pub later : a.stamp < stamp
  pub answer : IsVerdict reply
  pub holds : HandFits site.lanes a.process (judged_hand message reply None)
  pub becomes : b ≡ stepped (judged_process reply a.process) (judged_hand message reply None) (desk_event a.who stamp 1 [] (given_by_judge reply)) a

-- A turn that made an event is one of these.
pub data TookProcTurn (site : SitePlan) (a b : ProcRecord) : Type 0 where
  Queued : Queues site a b → TookProcTurn site a b
  Ran : Runs a b → TookProcTurn site a b
  Moved : Moves site a b → TookProcTurn site a b
  WasRefused : Refuses site a b → TookProcTurn site a b
  Put : Puts site a b → TookProcTurn site a b
  Took : Takes site a b → TookProcTurn site a b
  Acted : Acts site a b → TookProcTurn site a b
  Judged : Judges site a b → TookProcTurn site a b

-- WHY IT DID NOTHING

-- its script has ended, its operation leads to its own place, or the mailbox from which it takes is empty
pub data Rests (site : SitePlan) (a : ProcRecord) : Type 0 where
  Ended : a.process.course.place ≡ length a.process.script → Rests site a
  Stays : inner a.process.script a.process.course ≡ Some a.process.course → Rests site a
  Waits : (place reg slot : ℕ) → Asks site a (asks.TakeFrom place reg slot) → Rests site a
