-- A process in two parts: what it asks of at most one shared object, and what it becomes by the answer.
-- Where it may not learn the answer, what it becomes stands in what it asks: a sender learns nothing of room.
use Rattle.std.specs.Prelude.{ℕ, suc, ◌==◌, ◌&&◌, Bool, List, [], ◌∷◌, ◌++◌, Option, Some, None, length, position, slice_get, if◌then◌else◌}
use Rattle.ds_label.specs.declared.category.Kind.{Kind}
use Rattle.ds_label.specs.declared.category.Category.{Category}
use Rattle.ds_label.specs.declared.category.PubKey.{PubKey}
use Rattle.ds_label.specs.declared.rule.Rule.{Rule}
use Rattle.ds_label.specs.declared.rule.Rule.TheVariants.{NoBox, NotKnown, NotHeld}
use Rattle.ds_label.specs.Flow.{has, with_member, union, same_label}
use Rattle.ds_label.specs.Names.{by_name}
use Rattle.ds_script.specs.declared.op.Op.{Op}
use Rattle.ds_script.specs.declared.op.Op.TheVariants as ops
use Rattle.ds_script.specs.declared.note.Note.{Note}
use Rattle.ds_script.specs.declared.note.Note.TheVariants as notes
use Rattle.ds_script.specs.Inner.{Course, register, inner, finished}
use Rattle.ds_msg.specs.declared.message.Message.{Message}
use Rattle.ds_model.specs.Keys.{same_key, key_of}
use Rattle.ds_model.specs.FirstRule.{unless, first_rule}
use Rattle.ds_model.specs.ProcessRules.{may_send, may_take, may_relabel, may_publish, may_make, can_grant, mailbox_rule}
use Rattle.ds_model.specs.Mapping.{is_known, next_category}
use Rattle.ds_model.specs.ExporterRules.{known_rule}
use Rattle.ds_model.specs.Plan.{HostPlan, box_plan}
use Rattle.ds_model.specs.Desk.{Act, Delegating, Importing, Mapping, Reply, Done, Made, Local, Refuse}
use Rattle.ds_model.specs.World.{Process, Mail}

-- Nothing; a step inside the process; a message into a mailbox of its host; a judged message onto a lane; the oldest
-- message of a mailbox into a register; a public act, with the register and the host for a delegation; or that the desk
-- judges a message to another host.
pub data Ask : Type 0 where
  Waits : Ask
  Internal : Process → Ask
  Put : (box : ℕ) → Mail Category → Process → Ask
  Admit : (lane : ℕ) → Message → Process → Ask
  TakeFrom : (box register slot : ℕ) → Ask
  PublicAct : Act → (register host : ℕ) → Ask
  AsksJudgement : Message → Ask

-- the end of an operation: its note, and the next place
abbrev pub noted : Note → Process → Process
noted note x = record x { course = finished (Some note) None x.course }

-- with a register's new bytes
abbrev pub noted_with : Note → ℕ → List ℕ → Process → Process
noted_with note reg bytes x = record x { course = finished (Some note) (Some (reg, bytes)) x.course }

-- a refused operation changes nothing but the place and the notes
abbrev pub refused : Rule → Process → Ask
refused rule x = Internal (noted (notes.Refused rule) x)

-- the categories of the process's host, and those of its own list, are the ones that it may use
abbrev pub usable : HostPlan → Process → Category → Bool
usable plan x c = is_known plan.key x.names c

-- the first category of a message's label, ownership and clearance that the process may not use
abbrev pub usable_rule : HostPlan → Process → (label own clear : List Category) → Option Rule
usable_rule plan x label own clear = known_rule plan.key x.names label own clear

-- a name joins the list unless it is there
abbrev pub with_name : Category → List Category → List Category
with_name c names = if has by_name c names then names else names ++ c ∷ []

-- MAILBOXES OF THE OWN HOST

-- the place of the mailbox with this slot
abbrev pub box_of : HostPlan → (slot : ℕ) → Option ℕ
box_of plan slot = position (λ b. b.slot == slot) plan.boxes

-- the label of a mailbox that may not be there
abbrev pub label_of : HostPlan → Option ℕ → Option (List Category)
label_of plan None = None
label_of plan (Some b) = Some (box_plan plan b).label

-- a mailbox for a message, or the rule that it breaks
pub data Target : Type 0 where
  Not : Rule → Target
  Into : (box : ℕ) → Target

-- the mailbox, unless a rule fails
abbrev pub target : Option ℕ → Option Rule → Target
target place (Some rule) = Not rule
target None None = Not NoBox
target (Some b) None = Into b

-- the mailbox rule of the mailbox with this slot, for a message with this label
abbrev pub judge_box : HostPlan → (slot : ℕ) → (label : List Category) → Target
judge_box plan slot label = target (box_of plan slot) (mailbox_rule by_name (label_of plan (box_of plan slot)) label)

-- SENDS

-- the message of a send: its receiver is the key of the host with that number, and it carries no certificate yet
abbrev pub message_of : HostPlan → Process → (host slot reg : ℕ) → (label own clear : List Category) → Message
message_of plan x host slot reg label own clear = record { to = key_of plan.keys host; slot = slot; label = label; own = own; clear = clear; certs = []; payload = register reg x.course }

-- the process's own rules for a message: each category is usable, and then the process may send it
abbrev pub send_rule : HostPlan → Process → Message → Option Rule
send_rule plan x m = first_rule (
    usable_rule plan x m.label m.own m.clear
    ∷ may_send by_name x.label x.own x.clear m.label m.own m.clear
    ∷ [])

-- what a mailbox keeps of a message from this exporter
abbrev pub mail_of : PubKey → Message → Mail Category
mail_of from m = record { from = from; label = m.label; own = m.own; clear = m.clear; payload = m.payload }

-- a send to the own host: the process's rules, then the mailbox's; the sender notes `sent` and moves on, whatever the room
abbrev pub send_here : HostPlan → Process → Message → Option Rule → Target → Ask
send_here plan x m (Some rule) target = refused rule x
send_here plan x m None (Not rule) = refused rule x
send_here plan x m None (Into b) = Put b (mail_of plan.key m) (noted notes.Sent x)

-- a send to another host: the process's rules, then the desk judges
abbrev pub send_away : Process → Message → Option Rule → Ask
send_away x m (Some rule) = refused rule x
send_away x m None = AsksJudgement m

-- either of these, by the receiver's key
abbrev pub send : HostPlan → Process → Message → Ask
send plan x m =
    if same_key m.to plan.key
    then send_here plan x m (send_rule plan x m) (judge_box plan m.slot m.label)
    else send_away x m (send_rule plan x m)

-- TAKES

-- the mailbox is the process's own, and it may take from it
abbrev pub take_rule : HostPlan → (proc : ℕ) → Process → Option ℕ → Option Rule
take_rule plan p x None = Some NoBox
take_rule plan p x (Some b) = first_rule (
    unless (p == (box_plan plan b).owner) NoBox
    ∷ may_take by_name (box_plan plan b).label x.label x.own
    ∷ [])

-- a refusal, or the take
abbrev pub take_from : Process → (reg slot : ℕ) → Option ℕ → Option Rule → Ask
take_from x reg slot place (Some rule) = refused rule x
take_from x reg slot None None = Waits
take_from x reg slot (Some b) None = TakeFrom b reg slot

-- LABELS AND CATEGORIES

-- a refusal, or the new label
abbrev pub relabel : Process → List Category → Option Rule → Ask
relabel x label (Some rule) = refused rule x
relabel x label None = Internal (noted (notes.SetLabel label) (record x { label = label }))

-- the category that the process makes next
abbrev pub new_category : HostPlan → (proc : ℕ) → Process → Kind → Category
new_category plan p x kind = next_category plan.key p x.made kind

-- a made category is owned and usable
abbrev pub make : Process → Category → Option Rule → Ask
make x c (Some rule) = refused rule x
make x c None = Internal (noted (notes.NewCat c) (record x { own = with_member by_name c x.own; names = with_name c x.names; made = suc x.made }))

-- PUBLIC ACTS

-- whether the process may act in public
abbrev pub publish_rule : Process → Option Rule
publish_rule x = may_publish by_name x.label x.own

-- a refusal, or the act
abbrev pub publish : Process → Act → (reg host : ℕ) → Option Rule → Ask
publish x act reg host (Some rule) = refused rule x
publish x act reg host None = PublicAct act reg host

-- THE STEP

-- an operation that isn't one of the five inside the process
abbrev pub ask_outer : HostPlan → (proc : ℕ) → Process → Option Op → Ask
ask_outer plan p x (Some (ops.Send host slot reg label own clear)) = send plan x (message_of plan x host slot reg label own clear)
ask_outer plan p x (Some (ops.Take reg slot)) = take_from x reg slot (box_of plan slot) (take_rule plan p x (box_of plan slot))
ask_outer plan p x (Some (ops.SetLabel label)) = relabel x label (first_rule (usable_rule plan x label [] [] ∷ may_relabel by_name x.label x.own x.clear label ∷ []))
ask_outer plan p x (Some (ops.NewCat kind)) = make x (new_category plan p x kind) (may_make by_name x.own x.made (new_category plan p x kind))
ask_outer plan p x (Some (ops.Delegate reg c host from until)) = publish x (Delegating c (key_of plan.keys host) from until) reg host
    (first_rule (unless (usable plan x c) (NotKnown c) ∷ unless (has by_name c x.own) NotHeld ∷ publish_rule x ∷ []))
ask_outer plan p x (Some (ops.Map c)) = publish x (Mapping c) 0 0 (publish_rule x)
ask_outer plan p x (Some (ops.Import reg)) = publish x (Importing (register reg x.course)) 0 0 (publish_rule x)
ask_outer plan p x _ = Waits

-- what an operation inside the process makes of it
abbrev pub ask_inner : HostPlan → (proc : ℕ) → Process → Option Course → Ask
ask_inner plan p x (Some course) = Internal (record x { course = course })
ask_inner plan p x None = ask_outer plan p x (slice_get x.script x.course.place)

-- the place of the lane to this exporter with exactly this label
abbrev pub lane_of : HostPlan → PubKey → (label : List Category) → Option ℕ
lane_of plan to label = position (λ l. same_key l.cert.receiver to && same_label by_name l.cert.label label) plan.lanes

-- A judged message goes onto its lane without being judged again, and `sent` is noted whether there is room or not.
abbrev pub queue_at : Process → Message → Option ℕ → Ask
queue_at x m None = Waits
queue_at x m (Some l) = Admit l m (noted notes.Sent (record x { hand = None }))

-- with a judged message in hand it is queued; else the operation at the place is done
abbrev pub ask_hand : HostPlan → (proc : ℕ) → Process → Option Message → Ask
ask_hand plan p x (Some m) = queue_at x m (lane_of plan m.to m.label)
ask_hand plan p x None = ask_inner plan p x (inner x.script x.course)

-- what the process with this number asks
abbrev pub ask : HostPlan → (proc : ℕ) → Process → Ask
ask plan p x = ask_hand plan p x x.hand

-- WHAT IT BECOMES BY THE ANSWER

-- a taken message's ownership and clearance join the process's, both or neither
abbrev pub granted : Mail Category → Process → Process
granted m x =
    if can_grant by_name x.own x.clear m.own m.clear
    then record x { own = union by_name x.own m.own; clear = union by_name x.clear m.clear }
    else x

-- the oldest message of the mailbox; on an empty one the process waits
abbrev pub taken_after_reply : (reg slot : ℕ) → Option (Mail Category) → Process → Process
taken_after_reply reg slot None x = x
taken_after_reply reg slot (Some m) x = noted_with (notes.Took slot (length m.payload) (can_grant by_name x.own x.clear m.own m.clear)) reg m.payload (granted m x)

-- the end of a public act, by its kind and the desk's reply; a reply of another act can't come

-- a delegation: the certificate's bytes go into the register
abbrev pub delegated_course : (reg host : ℕ) → Category → Reply → Course → Course
delegated_course reg host c (Made bytes) course = finished (Some (notes.Delegated c host)) (Some (reg, bytes)) course
delegated_course reg host c (Refuse rule) course = finished (Some (notes.Refused rule)) None course
delegated_course reg host c _ course = course

-- an import
abbrev pub imported_course : Reply → Course → Course
imported_course Done course = finished (Some notes.Imported) None course
imported_course (Refuse rule) course = finished (Some (notes.Refused rule)) None course
imported_course _ course = course

-- a mapping: the note has the category's number on this host
abbrev pub mapped_course : Category → Reply → Course → Course
mapped_course c (Local number) course = finished (Some (notes.Mapped c number)) None course
mapped_course c (Refuse rule) course = finished (Some (notes.Refused rule)) None course
mapped_course c _ course = course

-- the course after an act of either kind
abbrev pub act_course : (reg host : ℕ) → Act → Reply → Course → Course
act_course reg host (Delegating c to from until) reply course = delegated_course reg host c reply course
act_course reg host (Importing bytes) reply course = imported_course reply course
act_course reg host (Mapping c) reply course = mapped_course c reply course

-- a mapped category is usable
abbrev pub act_names : Act → Reply → List Category → List Category
act_names (Mapping c) (Local number) names = with_name c names
act_names _ _ names = names

-- the process after its public act
abbrev pub act_after_reply : (reg host : ℕ) → Act → Reply → Process → Process
act_after_reply reg host act reply x = record x { course = act_course reg host act reply x.course; names = act_names act reply x.names }

-- the judgement of a message to another host, and the certificates that go with it
abbrev pub judged_after_reply : Message → List (List ℕ) → Option Rule → Process → Process
judged_after_reply m certs (Some rule) x = noted (notes.Refused rule) x
judged_after_reply m certs None x = record x { hand = Some (record m { certs = certs }) }
