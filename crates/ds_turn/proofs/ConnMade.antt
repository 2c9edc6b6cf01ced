-- A turn of a connection, by what its calls answered.
use Rattle.std.proofs.Common.{◌≡◌, ℕ, true, List, [], ◌∷◌, Option, Some, None, slice_get, refl, sym, ap, subst, ◌∙◌}
use Rattle.std.specs.Prelude.{is_some, Result, Ok, Err, OnErr}
use Rattle.ds_label.specs.declared.rule.Rule.{Rule}
use Rattle.ds_cert.specs.declared.lane.LaneCert.{LaneCert}
use Rattle.ds_msg.specs.declared.message.Message.{Message}
use Rattle.ds_msg.specs.declared.local.LocalMessage.{LocalMessage}
use Rattle.ds_frame.specs.declared.cause.Cause.{Cause}
use Rattle.ds_frame.specs.declared.item.Failure.{Failure}
use Rattle.ds_frame.specs.declared.item.ReadEnd.{ReadEnd}
use Rattle.ds_frame.specs.declared.item.ReadEnd.TheVariants as ends
use Rattle.ds_inlet.specs.declared.offer.Offer.{Offer}
use Rattle.ds_inlet.specs.declared.offer.Offer.TheVariants as offers
use Rattle.ds_inlet.specs.OfferedFrames.{OfferedFrame}
use Rattle.ds_inlet.specs.Connections.{Connection, ReadStep, Reads, read_step, step_unless_failed, step_unless_offered}
use Rattle.ds_share.specs.declared.desk_act.DeskAct.TheVariants as acts
use Rattle.ds_share.specs.declared.desk_act.DeskReply.{DeskReply}
use Rattle.ds_share.specs.declared.receipt.Receipt.{Receipt}
use Rattle.ds_share.specs.Desks.{IsReceiptOfAct}
use Rattle.ds_turn.specs.declared.node.BoxSeat.{BoxSeat}
use Rattle.ds_turn.specs.Records.{desk_name, entry_on}
use Rattle.ds_turn.specs.ConnRecords.{ConnRecord, recorded, with_conn}
use Rattle.ds_turn.specs.ConnTurns.{HasNothing, IsBroken, IsJudged, IsVerdict, Judges, KeepsBack, Offers, Rests, after_verdict, conn_event}

pub on_err : {X E : Type 0} (P : Type 0) (r : Result X E) → P → OnErr r P
on_err P (Ok x) p = tt
on_err P (Err e) p = p

-- A FRAME THAT STAYS OFFERED

offers_same : (a m b : ConnRecord) (inlet number : ℕ) → Reads a.conn (Ok (offers.Frame inlet number)) m.conn → m ≡ with_conn m.conn a → b ≡ m → KeepsBack a b
offers_same a m b inlet number reads is same =
    subst (λ (x : ConnRecord). KeepsBack a x) (sym same) (Offers inlet number reads is)

pub keeps_offer : (a r m b : ConnRecord) (offer : Offer) (inlet number : ℕ) → r ≡ a → offer ≡ offers.Frame inlet number → Reads r.conn (Ok offer) m.conn → m ≡ with_conn m.conn r → b ≡ m → KeepsBack a b
keeps_offer a r m b offer inlet number ready told reads is same =
    let named : Reads r.conn (Ok (offers.Frame inlet number)) m.conn = subst (λ (o : Offer). Reads r.conn (Ok o) m.conn) told reads in
    subst (λ (x : ConnRecord). KeepsBack x b) ready (offers_same r m b inlet number named is same)

-- A STREAM THAT WAS BROKEN BEFORE

record IsStill (k m : Connection) : Type 0 where
  pub nothing : HasNothing k
  pub same : m ≡ k

some_failure : (k m : Connection) (cause : Cause) (place : ℕ) (f : Option Failure) → is_some f ≡ true → k.reader.failure ≡ f → k.offered ≡ None → step_unless_failed f k ≡ record { answer = Err (ends.BadFrame cause place); conn = m } → IsStill k m
some_failure k m cause place None some is free e = absurd cc
some_failure k m cause place (Some failure) some is free e = record {
  nothing = IsBroken failure is (ap (λ (o : Option OfferedFrame). step_unless_offered o k) free ∙ ap (λ (o : Option Failure). step_unless_failed o k) is);
  same = sym (ap (λ (t : ReadStep). t.conn) e);
}

not_both : (offer : Offer) (end : ReadEnd) (one two : Result Offer ReadEnd) → one ≡ Ok offer → two ≡ Err end → one ≡ two → ⊥
not_both offer end one two left right e = absurd cc

no_offer : (k m : Connection) (cause : Cause) (place : ℕ) (o : Option OfferedFrame) → is_some k.reader.failure ≡ true → k.offered ≡ o → step_unless_offered o k ≡ record { answer = Err (ends.BadFrame cause place); conn = m } → IsStill k m
no_offer k m cause place None some is e = some_failure k m cause place k.reader.failure some refl is e
no_offer k m cause place (Some o) some is e = absurd (not_both (offers.Frame o.inlet o.number) (ends.BadFrame cause place) _ _ refl refl (ap (λ (t : ReadStep). t.answer) e))

still_broken : (a m : ConnRecord) (cause : Cause) (place : ℕ) → a.conn.hand ≡ [] → a.conn.passed ≡ None → is_some a.conn.reader.failure ≡ true
    → read_step a.conn ≡ record { answer = Err (ends.BadFrame cause place); conn = m.conn } → m ≡ with_conn m.conn a → Rests a m
still_broken a m cause place hand free some reads is =
    let still = no_offer a.conn m.conn cause place a.conn.offered some refl reads in
    record { hand = hand; free = free; nothing = still.nothing; same = is ∙ ap (λ (k : Connection). with_conn k a) still.same }

pub rests_broken : (a r m : ConnRecord) (end : ReadEnd) (cause : Cause) (place : ℕ) → r ≡ a → a.conn.hand ≡ [] → a.conn.passed ≡ None → is_some a.conn.reader.failure ≡ true
    → end ≡ ends.BadFrame cause place → Reads r.conn (Err end) m.conn → m ≡ with_conn m.conn r → Rests a m
rests_broken a r m end cause place ready hand free some told reads is =
    let named : Reads r.conn (Err (ends.BadFrame cause place)) m.conn = subst (λ (e : ReadEnd). Reads r.conn (Err e) m.conn) told reads in
    let here : Reads a.conn (Err (ends.BadFrame cause place)) m.conn = subst (λ (x : ConnRecord). Reads x.conn (Err (ends.BadFrame cause place)) m.conn) ready named in
    still_broken a m cause place hand free some here (is ∙ ap (with_conn m.conn) ready)

-- A MESSAGE THAT IS JUDGED

first_of : (ms : List Message) (m : Message) → slice_get ms 0 ≡ Some m → (rest : List Message) × (ms ≡ m ∷ rest)
first_of [] m e = absurd cc
first_of (x ∷ xs) m e = (xs, ap (λ (y : Message). y ∷ xs) (one x m e))
  where
    one : (x m : Message) → Some x ≡ Some m → x ≡ m
    one x m e = cc

pub judged_is : (boxes seats : List BoxSeat) (a : ConnRecord) (k l : Connection) (stamp : ℕ) (receipt : Receipt) (verdict : Result LocalMessage Rule) (lane : LaneCert) (m : Message) (reply : DeskReply)
    → k ≡ a.conn → l ≡ a.conn → stamp ≡ a.stamp → seats ≡ boxes → slice_get k.hand 0 ≡ Some m → l.reader.lane ≡ Some lane
    → IsReceiptOfAct stamp (acts.JudgeArrive lane m) reply receipt → IsVerdict seats lane m reply verdict → IsJudged boxes a receipt verdict
judged_is boxes seats a k l stamp receipt verdict lane m reply one two at there front known answers says =
    let hand = first_of k.hand m front in
    record {
      lane = lane;
      known = sym (ap (λ (x : Connection). x.reader.lane) two) ∙ known;
      front = m;
      rest = hand.0;
      hand = sym (ap (λ (x : Connection). x.hand) one) ∙ hand.1;
      reply = reply;
      answers = subst (λ (n : ℕ). IsReceiptOfAct n (acts.JudgeArrive lane m) reply receipt) at answers;
      says = subst (λ (xs : List BoxSeat). IsVerdict xs lane m reply verdict) there says;
    }

judges_now : (boxes : List BoxSeat) (a b : ConnRecord) (receipt : Receipt) (verdict : Result LocalMessage Rule) → a.conn.passed ≡ None → IsJudged boxes a receipt verdict
    → b ≡ recorded (after_verdict verdict a.conn) (conn_event 5 (entry_on (desk_name a.conn.who.host) a.conn.who receipt.stamp receipt.act receipt.body) receipt.given) a
    → Judges boxes a b
judges_now boxes a b receipt verdict free judged is =
    let says = judged.answers.says in
    record {
      free = free;
      receipt = receipt;
      verdict = verdict;
      judged = judged;
      becomes = is ∙ (λ i. recorded (after_verdict verdict a.conn) (conn_event 5 (entry_on (desk_name a.conn.who.host) a.conn.who receipt.stamp (says.1.0 i) (says.1.1 i)) (says.1.2 i)) a);
    }

pub judges_is : (boxes : List BoxSeat) (a r b : ConnRecord) (receipt : Receipt) (verdict : Result LocalMessage Rule) → r ≡ a → a.conn.passed ≡ None → IsJudged boxes r receipt verdict
    → b ≡ recorded (after_verdict verdict r.conn) (conn_event 5 (entry_on (desk_name r.conn.who.host) r.conn.who receipt.stamp receipt.act receipt.body) receipt.given) r
    → Judges boxes a b
judges_is boxes a r b receipt verdict ready free judged is =
    judges_now boxes a b receipt verdict free (subst (λ (x : ConnRecord). IsJudged boxes x receipt verdict) ready judged)
    (subst (λ (x : ConnRecord). b ≡ recorded (after_verdict verdict x.conn) (conn_event 5 (entry_on (desk_name x.conn.who.host) x.conn.who receipt.stamp receipt.act receipt.body) receipt.given) x) ready is)
