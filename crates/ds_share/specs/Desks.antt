-- What a shared desk's acts enter, answer and hand out.
use Rattle.std.specs.Prelude.{◌≡◌, ℕ, ◌<◌, ◌≤◌, false, true, List, [], ◌++◌, length, Option, Some, None, is_some}
use Rattle.std.specs.Int.{w8, w64, to_be_bytes}
use Rattle.ds_label.specs.declared.category.PubKey.{PubKey}
use Rattle.ds_label.specs.declared.category.Category.{Category}
use Rattle.ds_label.specs.declared.rule.Rule.{Rule}
use Rattle.ds_label.specs.declared.rule.Rule.TheVariants.{PeerNotTrusted, SenderNotTrusted, NotKnown}
use Rattle.ds_label.specs.Rules.{rule_number}
use Rattle.ds_script.specs.Replay.{last_of}
use Rattle.ds_cert.specs.declared.address.Address.{Address}
use Rattle.ds_cert.specs.Spelling.{spelling_of_category, spelling_of_cert, spelling_of_delegation}
use Rattle.ds_msg.specs.Ranges.{AreShort, CertsFit}
use Rattle.ds_msg.specs.Spelling.{spelling_of_certs}
use Rattle.ds_chain.specs.Addresses.{find_address}
use Rattle.ds_model.specs.Scheme.{Scheme}
use Rattle.ds_model.specs.Plan.{HostPlan}
use Rattle.ds_model.specs.ExporterRules.{attach, judge_send, receiver_rule, sender_rule}
use Rattle.ds_model.specs.Desk.{Desk, Ticked, Looked, Delegating, Importing, Mapping, Reply, DeskEntry as Change}
use Rattle.ds_model.specs.Desk as model
use Rattle.ds_map.specs.Labels.{numbered}
use Rattle.ds_map.specs.Table.{is_stray}
use Rattle.ds_flow.specs.Chains.{flow_scheme}
use Rattle.ds_desk.specs.declared.act.DeskChange.{DeskChange}
use Rattle.ds_desk.specs.declared.act.DeskChange.TheVariants as changes
use Rattle.ds_desk.specs.Desks.{DeskView, act_of, stamp_of}
use Rattle.ds_desk.specs.Replies.{entry_for, reply_for}
use Rattle.ds_share.specs.declared.receipt.Receipt.{Receipt}
use Rattle.ds_share.specs.declared.desk_act.DeskAct.{DeskAct}
use Rattle.ds_share.specs.declared.desk_act.DeskAct.TheVariants as acts
use Rattle.ds_share.specs.declared.desk_act.DeskReply.{DeskReply}
use Rattle.ds_share.specs.declared.desk_act.DeskReply.TheVariants as replies
use Rattle.ds_share.specs.Receipts.{next_stamp}
use Rattle.ds_share.specs.Spelling.{spelling_of_numbers}

-- the number of an entry's act
abbrev pub act_number : DeskChange → ℕ
act_number changes.Look = 1
act_number (changes.Tick to) = 2
act_number (changes.Delegated d) = 3
act_number (changes.Imported c) = 4
act_number (changes.Mapped c) = 5
act_number (changes.Refused rule) = 6

-- what an entry says beside it: the moment, the certificate, the category, or the rule's number
abbrev pub act_body : DeskChange → List ℕ
act_body changes.Look = []
act_body (changes.Tick to) = to_be_bytes w64 to
act_body (changes.Delegated d) = spelling_of_delegation d
act_body (changes.Imported c) = spelling_of_cert c
act_body (changes.Mapped c) = spelling_of_category c
act_body (changes.Refused rule) = to_be_bytes w8 (rule_number rule)

-- a rule's category, where it carries one
abbrev pub category_of_rule : Rule → List ℕ
category_of_rule (PeerNotTrusted c) = spelling_of_category c
category_of_rule (SenderNotTrusted c) = spelling_of_category c
category_of_rule (NotKnown c) = spelling_of_category c
category_of_rule _ = []

-- a rule by which a judge refuses: its number and its category
abbrev pub spelling_of_rule : Rule → List ℕ
spelling_of_rule rule = to_be_bytes w8 (rule_number rule) ++ category_of_rule rule

-- ---- what an act of the desk enters and answers

-- the entry that it makes: a judgement is a look
abbrev pub change_for : Scheme → HostPlan → DeskView → DeskAct → Change
change_for s plan k (acts.Tick to) = Ticked to
change_for s plan k (acts.Delegate c to from until) = entry_for s plan k (Delegating c to from until)
change_for s plan k (acts.Import cert) = entry_for s plan k (Importing cert)
change_for s plan k (acts.MapForeign c) = entry_for s plan k (Mapping c)
change_for s plan k acts.Look = Looked
change_for s plan k (acts.JudgeSend lane to label own clear) = Looked
change_for s plan k (acts.JudgeFrame to label) = Looked
change_for s plan k (acts.JudgeArrive lane m) = Looked

-- an answer of the model's desk
abbrev pub answer_of : Reply → DeskReply
answer_of model.Done = replies.Done
answer_of (model.Made bytes) = replies.Made bytes
answer_of (model.Local n) = replies.Local n
answer_of (model.Refuse rule) = replies.Refused rule

-- refused by the first rule that fails; where none does it is this answer
abbrev pub judged : Option Rule → DeskReply → DeskReply
judged None passed = passed
judged (Some rule) passed = replies.Refused rule

-- where a certificate says that an exporter is reached
abbrev pub address_in : Option Address → List ℕ
address_in None = []
address_in (Some a) = a.address

-- what it answers
abbrev pub answer_for : Scheme → HostPlan → DeskView → DeskAct → DeskReply
answer_for s plan k (acts.Tick to) = replies.Done
answer_for s plan k (acts.Delegate c to from until) = answer_of (reply_for s plan k (Delegating c to from until))
answer_for s plan k (acts.Import cert) = answer_of (reply_for s plan k (Importing cert))
answer_for s plan k (acts.MapForeign c) = answer_of (reply_for s plan k (Mapping c))
answer_for s plan k acts.Look = replies.Done
answer_for s plan k (acts.JudgeSend lane to label own clear) =
    judged (judge_send (flow_scheme s) lane k.desk.addresses k.desk.store k.desk.moment to label)
    (replies.Attached (attach (flow_scheme s) k.desk.store k.desk.moment k.here label own clear))
answer_for s plan k (acts.JudgeFrame to label) =
    judged (sender_rule (flow_scheme s) k.desk.addresses k.desk.store k.desk.moment to label)
    (replies.Found (address_in (find_address k.desk.addresses k.desk.moment to)))
answer_for s plan k (acts.JudgeArrive lane m) =
    judged (receiver_rule (flow_scheme s) k.desk.store k.desk.rows k.desk.moment k.here lane m)
    (replies.Named (numbered k.here k.desk.rows m.label) (numbered k.here k.desk.rows m.own) (numbered k.here k.desk.rows m.clear))

-- what a judgement hands out
abbrev pub given_by_judge : DeskReply → List ℕ
given_by_judge (replies.Attached certs) = to_be_bytes w8 0 ++ spelling_of_certs certs
given_by_judge (replies.Found address) = to_be_bytes w8 0
given_by_judge (replies.Named label own clear) = to_be_bytes w8 0 ++ spelling_of_numbers label ++ spelling_of_numbers own ++ spelling_of_numbers clear
given_by_judge (replies.Refused rule) = spelling_of_rule rule
given_by_judge replies.Done = []
given_by_judge (replies.Made bytes) = []
given_by_judge (replies.Local n) = []

-- what any other act hands out: a category's number where it was mapped
abbrev pub given_by_desk : DeskReply → List ℕ
given_by_desk (replies.Local n) = to_be_bytes w64 n
given_by_desk replies.Done = []
given_by_desk (replies.Made bytes) = []
given_by_desk (replies.Attached certs) = []
given_by_desk (replies.Found address) = []
given_by_desk (replies.Named label own clear) = []
given_by_desk (replies.Refused rule) = []

abbrev pub given_for : DeskAct → DeskReply → List ℕ
given_for (acts.Tick to) = given_by_desk
given_for (acts.Delegate c to from until) = given_by_desk
given_for (acts.Import cert) = given_by_desk
given_for (acts.MapForeign c) = given_by_desk
given_for acts.Look = given_by_desk
given_for (acts.JudgeSend lane to label own clear) = given_by_judge
given_for (acts.JudgeFrame to label) = given_by_judge
given_for (acts.JudgeArrive lane m) = given_by_judge

-- the stamp of the desk's last entry, or of the last one before its opening
abbrev pub last_of_desk : DeskView → ℕ
last_of_desk k = last_of stamp_of k.opening.before k.history

-- the receipt of this change of the desk, made at the caller's stamp, by which that was handed out
abbrev pub desk_receipt : DeskView → (caller : ℕ) → Change → (given : List ℕ) → Receipt
desk_receipt k caller change given =
    record {
      stamp = next_stamp (last_of_desk k) caller;
      place = length k.history;
      act = act_number (act_of change);
      body = act_body (act_of change);
      given = given;
    }

-- A category that is to be mapped is none that the host made with a number that no home category has.
abbrev pub MayAct : PubKey → DeskAct → Type 0
MayAct here (acts.MapForeign c) = is_stray here c ≡ false
MayAct here (acts.Tick to) = Unit {0}
MayAct here (acts.Delegate c to from until) = Unit {0}
MayAct here (acts.Import cert) = Unit {0}
MayAct here acts.Look = Unit {0}
MayAct here (acts.JudgeSend lane to label own clear) = Unit {0}
MayAct here (acts.JudgeFrame to label) = Unit {0}
MayAct here (acts.JudgeArrive lane m) = Unit {0}

-- no delegation: any other act leaves the keeper as it is
abbrev pub SparesKeeper : DeskAct → Type 0
SparesKeeper (acts.Delegate c to from until) = ⊥
SparesKeeper (acts.Tick to) = Unit {0}
SparesKeeper (acts.Import cert) = Unit {0}
SparesKeeper (acts.MapForeign c) = Unit {0}
SparesKeeper acts.Look = Unit {0}
SparesKeeper (acts.JudgeSend lane to label own clear) = Unit {0}
SparesKeeper (acts.JudgeFrame to label) = Unit {0}
SparesKeeper (acts.JudgeArrive lane m) = Unit {0}

-- ---- what a caller knows of the receipt

-- the number of the entry's act, what it says and what was handed out
abbrev pub Says : (number : ℕ) → (body given : List ℕ) → (act : ℕ) → (spelled handed : List ℕ) → Type 0
Says number body given act spelled handed = (act ≡ number) × (spelled ≡ body) × (handed ≡ given)

-- of a delegation: it was made, and its spelling is the entry's, or a rule refused it
abbrev pub SaysOfDelegating : DeskReply → ℕ → List ℕ → List ℕ → Type 0
SaysOfDelegating (replies.Made bytes) = λ act spelled handed. (length bytes ≤ 2704) × Says 3 bytes [] act spelled handed
SaysOfDelegating (replies.Refused rule) = Says 6 (to_be_bytes w8 (rule_number rule)) []
SaysOfDelegating _ = λ act spelled handed. ⊥

-- of an import of these bytes
abbrev pub SaysOfImporting : List ℕ → DeskReply → ℕ → List ℕ → List ℕ → Type 0
SaysOfImporting cert replies.Done = Says 4 cert []
SaysOfImporting cert (replies.Refused rule) = Says 6 (to_be_bytes w8 (rule_number rule)) []
SaysOfImporting cert _ = λ act spelled handed. ⊥

-- of a mapping of this category: it has that number, or a rule refused it
abbrev pub SaysOfMapping : Category → DeskReply → ℕ → List ℕ → List ℕ → Type 0
SaysOfMapping c (replies.Local n) = Says 5 (spelling_of_category c) (to_be_bytes w64 n)
SaysOfMapping c (replies.Refused rule) = Says 6 (to_be_bytes w8 (rule_number rule)) []
SaysOfMapping c _ = λ act spelled handed. ⊥

-- what a judge may answer of a send on this lane, if there is one: certificates that a message may carry, where there is one
abbrev pub IsSendAnswer : (lane : Option ℕ) → DeskReply → Type 0
IsSendAnswer lane (replies.Attached certs) = CertsFit certs × (is_some lane ≡ true)
IsSendAnswer lane (replies.Refused rule) = Unit {0}
IsSendAnswer lane _ = ⊥

-- and of a frame and an arrival

abbrev pub IsFrameAnswer : DeskReply → Type 0
IsFrameAnswer (replies.Found address) = Unit {0}
IsFrameAnswer (replies.Refused rule) = Unit {0}
IsFrameAnswer _ = ⊥

abbrev pub IsArrivalAnswer : DeskReply → Type 0
IsArrivalAnswer (replies.Named label own clear) = Unit {0}
IsArrivalAnswer (replies.Refused rule) = Unit {0}
IsArrivalAnswer _ = ⊥

-- of a tick or a look, which is done
abbrev pub SaysDone : (number : ℕ) → (body : List ℕ) → DeskReply → ℕ → List ℕ → List ℕ → Type 0
SaysDone number body reply act spelled handed = (reply ≡ replies.Done) × Says number body [] act spelled handed

-- of a judgement, which may be answered so
abbrev pub SaysOfJudging : (DeskReply → Type 0) → DeskReply → ℕ → List ℕ → List ℕ → Type 0
SaysOfJudging IsAnswer reply act spelled handed = IsAnswer reply × Says 1 [] (given_by_judge reply) act spelled handed

-- of an act that was answered so
abbrev pub SaysOf : DeskAct → DeskReply → ℕ → List ℕ → List ℕ → Type 0
SaysOf (acts.Tick to) = SaysDone 2 (to_be_bytes w64 to)
SaysOf (acts.Delegate c to from until) = SaysOfDelegating
SaysOf (acts.Import cert) = SaysOfImporting cert
SaysOf (acts.MapForeign c) = SaysOfMapping c
SaysOf acts.Look = SaysDone 1 []
SaysOf (acts.JudgeSend lane to label own clear) = SaysOfJudging (IsSendAnswer lane)
SaysOf (acts.JudgeFrame to label) = SaysOfJudging IsFrameAnswer
SaysOf (acts.JudgeArrive lane m) = SaysOfJudging IsArrivalAnswer

-- A receipt of this act of the desk, which was answered so.
pub record IsReceiptOfAct (caller : ℕ) (act : DeskAct) (reply : DeskReply) (r : Receipt) : Type 0 where
  pub later : caller < r.stamp
  pub says : SaysOf act reply r.act r.body r.given

-- the certificates of an answer are short enough to be spelled
abbrev pub HasShortCerts : DeskReply → Type 0
HasShortCerts (replies.Attached certs) = AreShort certs
HasShortCerts _ = Unit {0}
