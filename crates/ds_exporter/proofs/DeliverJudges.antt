-- A host of which a connection's first message was judged.
use Rattle.std.proofs.Common.{◌≡◌, ℕ, ◌<◌, ◌≤◌, List, [], map, ◌∷◌, Option, Some, None, length, slice_get, option_map, refl, sym, ap, ◌∙◌, subst, arith}
use Rattle.std.specs.Prelude.{◌≢◌, Result, Ok, Err}
use Rattle.ds_label.specs.declared.rule.Rule.{Rule}
use Rattle.ds_cert.specs.declared.lane.LaneCert.{LaneCert}
use Rattle.ds_script.specs.declared.actor.Actor.{Actor}
use Rattle.ds_msg.specs.declared.message.Message.{Message}
use Rattle.ds_msg.specs.declared.local.LocalMessage.{LocalMessage}
use Rattle.ds_model.specs.Lists.{at}
use Rattle.ds_model.specs.Desk.{Looked}
use Rattle.ds_model.specs.Plan.{HostPlan}
use Rattle.ds_model.specs.World.{Conn, Mail, Passed}
use Rattle.ds_label.specs.declared.category.Category.{Category}
use Rattle.ds_model.specs.ConnectionStep.{AsksArrival, deliver_from, delivery_after_reply, judge_delivery, passed_of, peer}
use Rattle.ds_model.specs.Step.{HostAndConn}
use Rattle.ds_model.specs.Access.{InDesk}
use Rattle.ds_model.proofs.Places.{at_here, at_other}
use Rattle.ds_desk.specs.Desks.{DeskView, IsReplay, entered}
use Rattle.ds_inlet.specs.Connections.{Connection, passed_from, passed_on, refused_from}
use Rattle.ds_inlet.specs.PlainConnections.{plain_conn}
use Rattle.ds_inlet.proofs.PlainCalls.{plain_drop, plain_pass}
use Rattle.ds_scheme.specs.TheScheme.{scheme}
use Rattle.ds_exporter.specs.HostStates.{HostState}
use Rattle.ds_exporter.specs.PlainHosts.{arrived_of, conn_at, conn_of, ends_of, host_of, plain_passed, site_of}
use Rattle.ds_exporter.specs.Conditions.{IsFit}
use Rattle.ds_exporter.specs.Stamping.{IsBefore, IsUpTo, last_of_desk}
use Rattle.ds_exporter.specs.Delivering.{IsJudged, IsJudgedAt, IsVerdict, after_verdict}
use Rattle.ds_exporter.specs.Entering.{Enters, deliver_access}
use Rattle.ds_exporter.proofs.Entering.{enters_at_desk, enters_by}
use Rattle.ds_exporter.proofs.Places.{map_kept_at, some_is, there_is}
use Rattle.ds_exporter.proofs.Tables.{fits_desk}
use Rattle.ds_exporter.proofs.Stamps.{below_more}
use Rattle.ds_exporter.proofs.OneConn.{Keeps, conn_stands, fits_conn}
use Rattle.ds_exporter.proofs.DeliverAsks.{asks_judgement, delivery_is, peer_read}
use Rattle.ds_exporter.proofs.DeliverPuts.{deliver_touches, delivered, delivered_is, plan_is}

-- THE CONNECTION AFTER A VERDICT

abbrev after_as : Result LocalMessage Rule → List Message → Connection → Connection
after_as (Ok mail) hand k = passed_from mail hand k
after_as (Err rule) hand k = refused_from rule hand k

-- the rule of a verdict, if one fails
abbrev rule_of : Result LocalMessage Rule → Option Rule
rule_of (Ok mail) = None
rule_of (Err rule) = Some rule

-- what passed before, or passes now
abbrev passes_as : Result LocalMessage Rule → Message → Connection → Option (ℕ × LocalMessage)
passes_as (Ok mail) front k = Some (front.slot, mail)
passes_as (Err rule) front k = k.passed

arrived_verdict : (verdict : Result LocalMessage Rule) (k : Connection) (hand : List Message) → (after_as verdict hand k).arrived ≡ k.arrived
arrived_verdict (Ok mail) k [] = refl
arrived_verdict (Ok mail) k (m ∷ hand) = refl
arrived_verdict (Err rule) k [] = refl
arrived_verdict (Err rule) k (m ∷ hand) = refl

by_hand : (verdict : Result LocalMessage Rule) (k : Connection) (hand : List Message) → k.hand ≡ hand → after_verdict verdict k ≡ after_as verdict hand k
by_hand (Ok mail) k hand e = ap (λ (ms : List Message). passed_from mail ms k) e
by_hand (Err rule) k hand e = ap (λ (ms : List Message). refused_from rule ms k) e

module _ (e : HostState) (k : Connection) (lane : LaneCert) (known : k.reader.lane ≡ Some lane) (front : Message) (rest : List Message) where
  no_hello : k.reader.lane ≡ None → ⊥
  no_hello none = no (sym known ∙ none)
    where
      no : Some lane ≡ None → ⊥
      no q = cc

  keeps_verdict : (verdict : Result LocalMessage Rule) → IsVerdict e.desk e.boxes lane front verdict → Keeps e k (after_as verdict (front ∷ rest) k)
  keeps_verdict (Ok mail) says = record { who = refl; here = refl; inlets = refl; named = λ n. says.named; passed = λ p. says.box; hello = λ first none. absurd (no_hello none) }
  keeps_verdict (Err rule) says = record { who = refl; here = refl; inlets = refl; named = λ n. n; passed = λ p. p; hello = λ first none. absurd (no_hello none) }

  -- by names it is the plain world's
  plain_verdict : (hand : k.hand ≡ front ∷ rest) (verdict : Result LocalMessage Rule) → IsVerdict e.desk e.boxes lane front verdict → (link : List ℕ)
      → conn_of e.desk.here e.desk.desk.rows link (after_verdict verdict k) ≡ delivery_after_reply lane front rest (rule_of verdict) (conn_of e.desk.here e.desk.desk.rows link k)
  plain_verdict hand (Ok mail) says link =
      let passes : plain_passed e.desk.here e.desk.desk.rows (passed_on mail k).passed ≡ Some (passed_of lane front) =
      ap (λ (ms : List Message). plain_passed e.desk.here e.desk.desk.rows (passed_from mail ms k).passed) hand ∙ ap (λ (m : Mail Category). Some (record { slot = front.slot; mail = m })) says.names in
      ap (λ (p : Option Passed). plain_conn link p (passed_on mail k)) passes ∙ plain_pass link (plain_passed e.desk.here e.desk.desk.rows k.passed) k lane front rest mail hand
  plain_verdict hand (Err rule) says link =
      ap (λ (ms : List Message). plain_conn link (plain_passed e.desk.here e.desk.desk.rows (refused_from rule ms k).passed) (after_verdict (Err rule) k)) hand
      ∙ plain_drop link (plain_passed e.desk.here e.desk.desk.rows k.passed) k lane front rest rule hand

  -- the rule of the verdict is the plain world's
  rule_is : (verdict : Result LocalMessage Rule) → IsVerdict e.desk e.boxes lane front verdict → judge_delivery scheme (site_of e) e.desk.desk lane front ≡ rule_of verdict
  rule_is (Ok mail) says = delivery_is e lane front ∙ says.rule
  rule_is (Err rule) says = delivery_is e lane front ∙ says

-- one message of the hand is gone
hand_left : (lane : LaneCert) (front : Message) (rest : List Message) (rule : Option Rule) (c : Conn) → (delivery_after_reply lane front rest rule c).hand ≡ rest
hand_left lane front rest None c = refl
hand_left lane front rest (Some rule) c = refl

longer : {X : Type 0} (x : X) (xs : List X) → xs ≡ x ∷ xs → ⊥
longer x xs e = omega (arith, ap length e)

-- THE HOST

module _ (e : HostState) (place stamp : ℕ) (who : Actor) (k m : Connection) (stands : slice_get e.conns place ≡ Some k) (free : k.passed ≡ None) (fit : IsFit e) (is : IsJudged e.desk e.boxes k m) where
  abbrev judged_conn : Connection
  judged_conn = after_verdict is.verdict k

  abbrev with_judged : HostState
  with_judged = record e { desk = entered stamp who Looked e.desk; conns = at place (λ _. judged_conn) e.conns }

  same : record e { desk = entered stamp who Looked e.desk; conns = at place (λ _. m) e.conns } ≡ with_judged
  same = λ i. record e { desk = entered stamp who Looked e.desk; conns = at place (λ _. is.becomes i) e.conns }

  keeps : Keeps e k judged_conn
  keeps = subst (Keeps e k) (sym (by_hand is.verdict k (is.judged.front ∷ is.judged.rest) is.judged.hand)) (keeps_verdict e k is.judged.lane is.judged.known is.judged.front is.judged.rest is.verdict is.judged.says)

  fits : IsReplay (entered stamp who Looked e.desk) → IsFit with_judged
  fits replay = fits_desk (record e { conns = at place (λ _. judged_conn) e.conns }) (entered stamp who Looked e.desk)
      (fits_conn e place (λ _. judged_conn) fit (λ x h. subst (λ (y : Connection). Keeps e y judged_conn) (some_is k x (sym stands ∙ h)) keeps)) replay refl refl

  below : IsBefore stamp e → last_of_desk (entered stamp who Looked e.desk) ≤ stamp → IsUpTo stamp with_judged
  below b last =
      let more = below_more stamp e b in
      record { desk = omega (arith, last); boxes = more.boxes; lanes = more.lanes; inlets = more.inlets }

  module _ (link : List ℕ) where
    abbrev c : Conn
    c = conn_of e.desk.here e.desk.desk.rows link k

    abbrev next : Conn
    next = delivery_after_reply is.judged.lane is.judged.front is.judged.rest (judge_delivery scheme (site_of e) e.desk.desk is.judged.lane is.judged.front) c

    asks : deliver_from (site_of e) c (peer scheme (site_of e) k.arrived) ≡ AsksArrival is.judged.lane is.judged.front is.judged.rest
    asks =
        let begins = ap (λ (plan : HostPlan). peer scheme plan k.arrived) (sym (plan_is e place k fit stands)) ∙ peer_read k is.judged.read (site_of e) is.judged.lane is.judged.known in
        asks_judgement (site_of e) c (peer scheme (site_of e) k.arrived) is.judged.lane is.judged.front is.judged.rest begins (ap (plain_passed e.desk.here e.desk.desk.rows) free) is.judged.hand

    pub judged_touches : deliver_access link place e ≡ InDesk Looked
    judged_touches = deliver_touches e place link k stands (AsksArrival is.judged.lane is.judged.front is.judged.rest) asks

    conn_after : conn_at link place with_judged ≡ next
    conn_after =
        conn_stands with_judged link place judged_conn (at_here place (λ _. judged_conn) e.conns ∙ ap (option_map (λ _. judged_conn)) stands)
        ∙ (plain_verdict e k is.judged.lane is.judged.known is.judged.front is.judged.rest is.judged.hand is.verdict is.judged.says link
        ∙ ap (λ (r : Option Rule). delivery_after_reply is.judged.lane is.judged.front is.judged.rest r c) (sym (rule_is e k is.judged.lane is.judged.known is.judged.front is.judged.rest is.verdict is.judged.says)))

    ends : ends_of link place with_judged ≡ delivered e place link
    ends = ap (λ (x : Conn). record { host = host_of e; conn = x }) conn_after ∙ sym (delivered_is e place link k stands (AsksArrival is.judged.lane is.judged.front is.judged.rest) asks)

    changed : ends_of link place with_judged ≡ ends_of link place e → ⊥
    changed q = longer is.judged.front is.judged.rest
        (sym (hand_left is.judged.lane is.judged.front is.judged.rest (judge_delivery scheme (site_of e) e.desk.desk is.judged.lane is.judged.front) c)
        ∙ (ap (λ (x : Conn). x.hand) (sym conn_after ∙ (ap (λ (x : HostAndConn). x.conn) q ∙ conn_stands e link place k stands)) ∙ is.judged.hand))

-- of the connection at a place, as the code's calls say: the desk was made ready, the connection's message judged, and the desk read
module _ (e : HostState) (place stamp : ℕ) (who : Actor) (ready desk : DeskView) (conns : List Connection) (within : place < length e.conns)
    (free : (k : Connection) → slice_get e.conns place ≡ Some k → (k.passed ≡ None) × (0 < length k.hand)) (fit : IsFit e)
    (reserved : ready ≡ e.desk) (looked : desk ≡ entered stamp who Looked ready) (judged : IsJudgedAt ready e.boxes place e.conns conns) where
  abbrev after_judged : HostState
  after_judged = record e { desk = desk; conns = conns }

  looks : desk ≡ entered stamp who Looked e.desk
  looks = looked ∙ ap (entered stamp who Looked) reserved

  by_one : (P : HostState → Type 0) → ((k m : Connection) (h : slice_get e.conns place ≡ Some k) (is : IsJudged e.desk e.boxes k m) → P (with_judged e place stamp who k m h (free k h).0 fit is)) → P after_judged
  by_one P f = there_is (P after_judged) e.conns place within
      (λ k h.
      let q = subst (λ (d : DeskView). IsJudgedAt d e.boxes place e.conns conns) reserved judged k h in
      subst P (sym ((λ i. record e { desk = looks i; conns = q.1 i }) ∙ same e place stamp who k q.0 h (free k h).0 fit q.2)) (f k q.0 h q.2))

  pub fits_judged_all : IsReplay desk → IsFit after_judged
  fits_judged_all replay = by_one IsFit (λ k m h is. fits e place stamp who k m h (free k h).0 fit is (subst IsReplay looks replay))

  pub site_judged_all : site_of after_judged ≡ site_of e
  site_judged_all = ap (λ (d : DeskView). site_of (record e { desk = d; conns = conns })) looks

  pub below_judged_all : IsBefore stamp e → last_of_desk desk ≤ stamp → IsUpTo stamp after_judged
  below_judged_all b last = by_one (IsUpTo stamp) (λ k m h is. below e place stamp who k m h (free k h).0 fit is b (subst (λ (d : DeskView). last_of_desk d ≤ stamp) looks last))

  pub others_judged_all : (other : ℕ) → other ≢ place → slice_get conns other ≡ slice_get e.conns other
  others_judged_all other apart = by_one (λ (x : HostState). slice_get x.conns other ≡ slice_get e.conns other) (λ k m h is. at_other place other (λ _. after_verdict is.verdict k) e.conns apart)

  pub arrived_judged_all : map arrived_of conns ≡ map arrived_of e.conns
  arrived_judged_all = by_one (λ (x : HostState). map arrived_of x.conns ≡ map arrived_of e.conns)
      (λ k m h is. map_kept_at arrived_of place (λ _. after_verdict is.verdict k) e.conns (λ x g. ap arrived_of (by_hand is.verdict k k.hand refl) ∙ (arrived_verdict is.verdict k k.hand ∙ ap arrived_of (some_is k x (sym h ∙ g)))))

  pub ends_judged_all : (link : List ℕ) → ends_of link place after_judged ≡ delivered e place link
  ends_judged_all link = by_one (λ (x : HostState). ends_of link place x ≡ delivered e place link) (λ k m h is. ends e place stamp who k m h (free k h).0 fit is link)

  pub changed_judged_all : (link : List ℕ) → ends_of link place after_judged ≡ ends_of link place e → ⊥
  changed_judged_all link = by_one (λ (x : HostState). ends_of link place x ≡ ends_of link place e → ⊥) (λ k m h is. changed e place stamp who k m h (free k h).0 fit is link)

  pub enters_judged_all : (k : Connection) → slice_get e.conns place ≡ Some k → who ≡ k.who → (link : List ℕ) → Enters stamp k.who (deliver_access link place e) e after_judged
  enters_judged_all k h acts link =
      let q = subst (λ (d : DeskView). IsJudgedAt d e.boxes place e.conns conns) reserved judged k h in
      enters_by stamp k.who (deliver_access link place e) (InDesk Looked) e after_judged (judged_touches e place stamp who k q.0 h (free k h).0 fit q.2 link)
      (enters_at_desk stamp k.who Looked e desk conns (looks ∙ ap (λ (a : Actor). entered stamp a Looked e.desk) acts))
