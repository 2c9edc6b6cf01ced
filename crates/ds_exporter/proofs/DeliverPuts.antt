-- A host of which a connection's message was put into its mailbox.
use Rattle.std.proofs.Common.{◌≡◌, ℕ, ◌<◌, Bool, true, false, List, [], ◌∷◌, Option, Some, None, length, map, slice_get, option_map, refl, sym, ap, ◌∙◌, subst, arith}
use Rattle.std.specs.Prelude.{◌≢◌, ◌↔◌, IsTrue, is_some}
use Rattle.ds_cert.specs.declared.lane.LaneCert.{LaneCert}
use Rattle.ds_msg.specs.declared.message.Message.{Message}
use Rattle.ds_msg.specs.declared.local.LocalMessage.{LocalMessage}
use Rattle.ds_model.specs.Lists.{at}
use Rattle.ds_model.specs.Plan.{HostPlan, box_plan}
use Rattle.ds_model.specs.World.{Conn, Passed}
use Rattle.ds_model.specs.ConnectionStep.{ConnAsk, ConnWaits, PutsPassed, deliver, deliver_from, peer}
use Rattle.ds_model.specs.Step.{HostAndConn, perform_conn}
use Rattle.ds_model.specs.Access.{Access, NoAccess, access_of_conn_ask, put_access}
use Rattle.ds_model.proofs.Places.{at_here, at_other}
use Rattle.ds_inlet.specs.Accepting.{inlet_plan}
use Rattle.ds_inlet.specs.Connections.{Connection}
use Rattle.ds_scheme.specs.TheScheme.{scheme}
use Rattle.ds_exporter.specs.HostStates.{HostBox, HostState}
use Rattle.ds_exporter.specs.PlainHosts.{arrived_at, arrived_of, conn_at, conn_of, ends_of, host_of, name_of_inlet, plain_mail, plain_passed, site_of}
use Rattle.ds_exporter.specs.Conditions.{HasHelloFirst, IsConnNamed, IsFit, IsMailNamed, IsPassedNamed, LeadsTo}
use Rattle.ds_exporter.specs.Stamping.{IsBefore, IsUpTo}
use Rattle.ds_exporter.specs.Delivering.{IsPut, IsPutAt}
use Rattle.ds_exporter.specs.Entering.{Enters, deliver_access}
use Rattle.ds_exporter.proofs.Entering.{enters_beside, enters_by, enters_put}
use Rattle.ds_exporter.proofs.Places.{all_get, map_kept_at, some_is, there_is}
use Rattle.ds_exporter.proofs.OneConn.{Keeps, arrived_stands, conn_stands, fits_conn}
use Rattle.ds_exporter.proofs.BoxPuts.{below_put, fits_put, host_put, plan_put, with_put}
use Rattle.ds_exporter.proofs.DeliverAsks.{asks_nothing, asks_put, peer_read, place_is}

-- what the plain world makes of a connection that delivers
abbrev pub delivered : HostState → (place : ℕ) → (link : List ℕ) → HostAndConn
delivered e place link = perform_conn scheme (site_of e) (host_of e) (conn_at link place e) (deliver scheme (site_of e) (conn_at link place e) (arrived_at place e))

-- by the connection that stands there, and what its stream begins with
pub delivered_is : (e : HostState) (place : ℕ) (link : List ℕ) (k : Connection) → slice_get e.conns place ≡ Some k → (ask : ConnAsk)
    → deliver_from (site_of e) (conn_of e.desk.here e.desk.desk.rows link k) (peer scheme (site_of e) k.arrived) ≡ ask
    → delivered e place link ≡ perform_conn scheme (site_of e) (host_of e) (conn_of e.desk.here e.desk.desk.rows link k) ask
delivered_is e place link k stands ask is =
    let c = conn_stands e link place k stands in
    let bytes = arrived_stands e place k stands in
    (λ i. perform_conn scheme (site_of e) (host_of e) (c i) (deliver scheme (site_of e) (c i) (bytes i)))
    ∙ ap (perform_conn scheme (site_of e) (host_of e) (conn_of e.desk.here e.desk.desk.rows link k)) is

-- and what it touches
pub deliver_touches : (e : HostState) (place : ℕ) (link : List ℕ) (k : Connection) → slice_get e.conns place ≡ Some k → (ask : ConnAsk)
    → deliver_from (site_of e) (conn_of e.desk.here e.desk.desk.rows link k) (peer scheme (site_of e) k.arrived) ≡ ask
    → deliver_access link place e ≡ access_of_conn_ask (site_of e) (host_of e) ask
deliver_touches e place link k stands ask is =
    let c = conn_stands e link place k stands in
    let bytes = arrived_stands e place k stands in
    (λ i. access_of_conn_ask (site_of e) (host_of e) (deliver scheme (site_of e) (c i) (bytes i)))
    ∙ ap (access_of_conn_ask (site_of e) (host_of e)) is

-- its host reads of it what it read
pub plan_is : (e : HostState) (place : ℕ) (k : Connection) → IsFit e → slice_get e.conns place ≡ Some k → inlet_plan (site_of e) k ≡ site_of e
plan_is e place k fit stands =
    let lead = all_get (LeadsTo e.desk.here (map name_of_inlet e.inlets)) e.conns place k fit.conns stands in
    λ i. record (site_of e) { key = lead.here i; inlets = lead.inlets i }

-- a message that passed came behind a hello
behind_hello : (k : Connection) (x : ℕ × LocalMessage) (lane : Option LaneCert) → k.reader.lane ≡ lane → HasHelloFirst k → k.passed ≡ Some x → (cert : LaneCert) × (lane ≡ Some cert)
behind_hello k x (Some cert) known hello passed = (cert, refl)
behind_hello k x None known hello passed = absurd (no (sym passed ∙ (hello known).1))
  where
    no : Some x ≡ None → ⊥
    no q = cc

module _ (e : HostState) (place stamp : ℕ) (k m : Connection) (boxes : List HostBox) (stands : slice_get e.conns place ≡ Some k) (fit : IsFit e) (is : IsPut stamp k m e.boxes boxes) where
  abbrev put_at : HostState
  put_at = with_put e is.place stamp k.who is.mail

  abbrev none_left : Connection
  none_left = record k { passed = None }

  abbrev put_there : HostState
  put_there = record put_at { conns = at place (λ _. none_left) e.conns }

  -- it is the host that the code has
  same : record e { boxes = boxes; conns = at place (λ _. m) e.conns } ≡ put_there
  same = λ i. record e { boxes = is.puts i; conns = at place (λ _. is.becomes i) e.conns }

  mail_named : IsMailNamed e.desk.here e.desk.desk.rows is.mail
  mail_named = subst (IsPassedNamed e.desk.here e.desk.desk.rows) is.passed (all_get (IsConnNamed e.desk.here e.desk.desk.rows) e.conns place k fit.named_conns stands)

  fits : IsFit put_there
  fits = fits_conn put_at place (λ _. none_left) (fits_put e is.place stamp k.who is.mail mail_named fit)
      (λ x h. subst (λ (y : Connection). Keeps put_at y none_left) (some_is k x (sym stands ∙ h)) (record { who = refl; here = refl; inlets = refl; named = λ n. tt; passed = λ p. tt; hello = λ first none. ((first none).0, refl) }))

  planned : site_of put_there ≡ site_of e
  planned = plan_put e is.place stamp k.who is.mail

  below : IsBefore stamp e → IsUpTo stamp put_there
  below b =
      let more = below_put e is.place stamp k.who is.mail b in
      record { desk = more.desk; boxes = more.boxes; lanes = more.lanes; inlets = more.inlets }

  module _ (link : List ℕ) where
    abbrev c : Conn
    c = conn_of e.desk.here e.desk.desk.rows link k

    abbrev p : Passed
    p = record { slot = is.slot; mail = plain_mail e.desk.here e.desk.desk.rows is.mail }

    passed_is : c.passed ≡ Some p
    passed_is = ap (plain_passed e.desk.here e.desk.desk.rows) is.passed

    asks : deliver_from (site_of e) c (peer scheme (site_of e) k.arrived) ≡ PutsPassed is.place p.mail (record c { passed = None })
    asks =
        let hello = behind_hello k (is.slot, is.mail) k.reader.lane refl (all_get HasHelloFirst e.conns place k fit.hellos stands) is.passed in
        let begins = ap (λ (plan : HostPlan). peer scheme plan k.arrived) (sym (plan_is e place k fit stands)) ∙ peer_read k is.read (site_of e) hello.0 hello.1 in
        asks_put (site_of e) c (peer scheme (site_of e) k.arrived) hello.0 p is.place begins passed_is (place_is e is.slot ∙ is.found)

    abbrev touch : Access
    touch = put_access is.place (box_plan (site_of e) is.place).room p.mail (slice_get (host_of e).boxes is.place)

    pub enters_passed : (conns : List Connection) → Enters stamp k.who (deliver_access link place e) e (record e { boxes = boxes; conns = conns })
    enters_passed conns =
        enters_by stamp k.who (deliver_access link place e) touch e (record e { boxes = boxes; conns = conns }) (deliver_touches e place link k stands (PutsPassed is.place p.mail (record c { passed = None })) asks)
        (subst (λ (bs : List HostBox). Enters stamp k.who touch e (record e { boxes = bs; conns = conns })) (sym is.puts)
        (enters_beside stamp k.who touch e put_at e.procs conns (enters_put stamp k.who e is.place is.mail)))

    conn_after : conn_at link place put_there ≡ record c { passed = None }
    conn_after = conn_stands put_there link place none_left (at_here place (λ _. none_left) e.conns ∙ ap (option_map (λ _. none_left)) stands)

    ends : ends_of link place put_there ≡ delivered e place link
    ends = (λ i. record { host = host_put e is.place stamp k.who is.mail i; conn = conn_after i }) ∙ sym (delivered_is e place link k stands (PutsPassed is.place p.mail (record c { passed = None })) asks)

    changed : ends_of link place put_there ≡ ends_of link place e → ⊥
    changed q = no (ap (λ (k : Conn). k.passed) (sym conn_after ∙ (ap (λ (x : HostAndConn). x.conn) q ∙ conn_stands e link place k stands)) ∙ passed_is)
      where
        no : None ≡ Some p → ⊥
        no r = cc

-- of the connection at a place, as the code's call says
module _ (e : HostState) (place stamp : ℕ) (conns : List Connection) (boxes : List HostBox) (within : place < length e.conns) (fit : IsFit e) (puts : IsPutAt stamp place e.conns conns e.boxes boxes) where
  abbrev after_put : HostState
  after_put = record e { boxes = boxes; conns = conns }

  by_one : (P : HostState → Type 0) → ((k m : Connection) (h : slice_get e.conns place ≡ Some k) (is : IsPut stamp k m e.boxes boxes) → P (put_there e place stamp k m boxes h fit is)) → P after_put
  by_one P f = there_is (P after_put) e.conns place within
      (λ k h.
      let q = puts k h in
      subst P (sym (ap (λ (cs : List Connection). record e { boxes = boxes; conns = cs }) q.1 ∙ same e place stamp k q.0 boxes h fit q.2)) (f k q.0 h q.2))

  pub fits_put_all : IsFit after_put
  fits_put_all = by_one IsFit (λ k m h is. fits e place stamp k m boxes h fit is)

  pub site_put_all : site_of after_put ≡ site_of e
  site_put_all = by_one (λ (x : HostState). site_of x ≡ site_of e) (λ k m h is. planned e place stamp k m boxes h fit is)

  pub below_put_all : IsBefore stamp e → IsUpTo stamp after_put
  below_put_all b = by_one (IsUpTo stamp) (λ k m h is. below e place stamp k m boxes h fit is b)

  pub others_put_all : (other : ℕ) → other ≢ place → slice_get conns other ≡ slice_get e.conns other
  others_put_all other apart = by_one (λ (x : HostState). slice_get x.conns other ≡ slice_get e.conns other) (λ k m h is. at_other place other (λ _. record k { passed = None }) e.conns apart)

  pub arrived_put_all : map arrived_of conns ≡ map arrived_of e.conns
  arrived_put_all = by_one (λ (x : HostState). map arrived_of x.conns ≡ map arrived_of e.conns)
      (λ k m h is. map_kept_at arrived_of place (λ _. record k { passed = None }) e.conns (λ x g. ap arrived_of (some_is k x (sym h ∙ g))))

  pub ends_put_all : (link : List ℕ) → ends_of link place after_put ≡ delivered e place link
  ends_put_all link = by_one (λ (x : HostState). ends_of link place x ≡ delivered e place link) (λ k m h is. ends e place stamp k m boxes h fit is link)

  pub changed_put_all : (link : List ℕ) → ends_of link place after_put ≡ ends_of link place e → ⊥
  changed_put_all link = by_one (λ (x : HostState). ends_of link place x ≡ ends_of link place e → ⊥) (λ k m h is. changed e place stamp k m boxes h fit is link)

-- with nothing in hand and nothing passed
pub nothing_delivered : (e : HostState) (place : ℕ) (link : List ℕ) → place < length e.conns → ((k : Connection) → slice_get e.conns place ≡ Some k → (k.hand ≡ []) × (k.passed ≡ None)) → ends_of link place e ≡ delivered e place link
nothing_delivered e place link within none = there_is (ends_of link place e ≡ delivered e place link) e.conns place within
    (λ k h.
    let c = conn_of e.desk.here e.desk.desk.rows link k in
    let free = none k h in
    ap (λ (x : Conn). record { host = host_of e; conn = x }) (conn_stands e link place k h)
    ∙ sym (delivered_is e place link k h ConnWaits (asks_nothing (site_of e) c (peer scheme (site_of e) k.arrived) free.0 (ap (plain_passed e.desk.here e.desk.desk.rows) free.1))))

-- as the code asks it
pub not_passed : (passed : Option (ℕ × LocalMessage)) (b : Bool) → b ≡ is_some passed → b ≡ false → passed ≡ None
not_passed None b is none = refl
not_passed (Some x) b is none = absurd cc

pub some_left : (hand : List Message) (b : Bool) → (IsTrue b ↔ (hand ≡ [])) → b ≡ false → 0 < length hand
some_left [] b is some = absurd (no (is.1 refl))
  where
    no : b ≡ true → ⊥
    no q = cc
some_left (m ∷ rest) b is some = omega arith

-- with neither, nothing is touched
pub nothing_touched : (e : HostState) (place : ℕ) (link : List ℕ) (k : Connection) → slice_get e.conns place ≡ Some k → (k.hand ≡ []) × (k.passed ≡ None) → deliver_access link place e ≡ NoAccess
nothing_touched e place link k h free =
    let c = conn_of e.desk.here e.desk.desk.rows link k in
    deliver_touches e place link k h ConnWaits (asks_nothing (site_of e) c (peer scheme (site_of e) k.arrived) free.0 (ap (plain_passed e.desk.here e.desk.desk.rows) free.1))
