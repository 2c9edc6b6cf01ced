-- One event of a connection, with its host.
use Rattle.std.proofs.Common.{◌≡◌, ◌<◌, ℕ, zero, suc, Bool, true, List, [], ◌∷◌, ◌&&◌, Option, Some, None, slice_get, option_map, refl, sym, ◌∙◌, ap, arith, ◌⊎◌, inl, inr, eqb, eqb-true}
use Rattle.std.specs.Prelude.{if◌then◌else◌}
use Rattle.std.proofs.lemmas.List.Quantifiers.{position-Some}
use Rattle.ds_label.specs.declared.category.Category.{Category}
use Rattle.ds_label.specs.Flow.{has}
use Rattle.ds_label.specs.Names.{by_name}
use Rattle.ds_cert.specs.declared.lane.LaneCert.{LaneCert}
use Rattle.ds_msg.specs.declared.message.Message.{Message}
use Rattle.ds_model.specs.Lists.{at}
use Rattle.ds_model.specs.Keys.{same_key}
use Rattle.ds_model.specs.Scheme.{Scheme, Item, Hello, Framed, Failure}
use Rattle.ds_model.specs.Plan.{HostPlan, Plan, host_plan, box_plan, inlet_name, no_inlet}
use Rattle.ds_model.specs.Mailbox.{put}
use Rattle.ds_model.specs.Inlet.{Inlet, numbered}
use Rattle.ds_model.specs.World.{Mail, Mailbox, Conn, Host, Passed}
use Rattle.ds_model.specs.ProcessStep.{box_of}
use Rattle.ds_model.specs.ConnectionStep.{ConnAsk, ConnWaits, ConnInternal, AsksInlet, AsksArrival, PutsPassed, hello_of, peer, inlet_of, take_frame, frame_from, fail, accept_item, accept_free, accept, put_passed, deliver_to, deliver_from, deliver, judge_delivery, delivery_after_reply}
use Rattle.ds_model.specs.Step.{fresh_in, perform_conn}
use Rattle.ds_noninterference.specs.High.{is_in, high_box, high_inlet}
use Rattle.ds_noninterference.specs.Alike.{Alike, AlikeHosts}
use Rattle.ds_model.proofs.Places.{cond_case}
use Rattle.ds_noninterference.proofs.Places.{both_at, one_at}
use Rattle.ds_noninterference.proofs.Flow.{and_left, and_right, and_both, or_left, same_key_is}
use Rattle.ds_noninterference.proofs.Procs.{alike_self}

-- what holds of each thing that a connection asks, where these bytes have arrived

pub record NumberFacts (s : Scheme) (plan : HostPlan) (y : Conn) (bytes : List ℕ) (i : ℕ) (fresh stale : Conn) : Type 0 where
  pub cert : LaneCert
  pub place : ℕ
  pub number : ℕ
  pub messages : List Message
  pub read : peer s plan bytes ≡ Some cert
  pub frame : slice_get (s.items plan.key plan.inlets bytes) place ≡ Some (Framed number messages)
  pub inlet : inlet_of plan cert ≡ Some i
  pub next : place ≡ y.taken
  pub begun : 0 < y.taken
  pub fresh_same : fresh.passed ≡ y.passed
  pub stale_same : stale.passed ≡ y.passed

pub record HandFacts (plan : HostPlan) (y : Conn) (b : ℕ) (next : Conn) : Type 0 where
  pub message : Passed
  pub passed : y.passed ≡ Some message
  pub box : box_of plan message.slot ≡ Some b
  pub empty : next.passed ≡ None

abbrev pub ConnFacts : Scheme → HostPlan → Conn → List ℕ → ConnAsk → Type 0
ConnFacts s plan y bytes ConnWaits = Unit {0}
ConnFacts s plan y bytes (ConnInternal next) = (next.passed ≡ y.passed) ⊎ (next.passed ≡ None)
ConnFacts s plan y bytes (AsksInlet i n fresh stale) = NumberFacts s plan y bytes i fresh stale
ConnFacts s plan y bytes (AsksArrival cert m rest) = peer s plan bytes ≡ Some cert
ConnFacts s plan y bytes (PutsPassed b m next) = HandFacts plan y b next

-- the first item is the hello, so a frame isn't
after_hello : (s : Scheme) (plan : HostPlan) (bytes : List ℕ) (place n : ℕ) (ms : List Message) (cert : LaneCert) → peer s plan bytes ≡ Some cert → slice_get (s.items plan.key plan.inlets bytes) place ≡ Some (Framed n ms) → 0 < place
after_hello s plan bytes zero n ms cert e f = absurd (let no : None ≡ Some cert = sym (ap hello_of f) ∙ e in grind arith)
after_hello s plan bytes (suc place) n ms cert e f = omega arith

frame_facts : (s : Scheme) (plan : HostPlan) (y : Conn) (bytes : List ℕ) (n : ℕ) (ms : List Message) (o : Option LaneCert) → peer s plan bytes ≡ o → slice_get (s.items plan.key plan.inlets bytes) y.taken ≡ Some (Framed n ms) → ConnFacts s plan y bytes (frame_from plan y n ms o)
frame_facts s plan y bytes n ms None e f = tt
frame_facts s plan y bytes n ms (Some cert) e f = go (inlet_of plan cert) refl
  where
    go : (o : Option ℕ) → inlet_of plan cert ≡ o → ConnFacts s plan y bytes (take_frame y n ms o)
    go None q = tt
    go (Some i) q = record { cert = cert; place = y.taken; number = n; messages = ms; read = e; frame = f; inlet = q; next = refl; begun = after_hello s plan bytes y.taken n ms cert e f; fresh_same = refl; stale_same = refl }

fail_facts : (s : Scheme) (plan : HostPlan) (y : Conn) (bytes : List ℕ) (o : Option Failure) → ConnFacts s plan y bytes (fail y o)
fail_facts s plan y bytes None = tt
fail_facts s plan y bytes (Some fault) = inl refl

item_facts : (s : Scheme) (plan : HostPlan) (y : Conn) (bytes : List ℕ) (o : Option Item) → slice_get (s.items plan.key plan.inlets bytes) y.taken ≡ o → ConnFacts s plan y bytes (accept_item s plan y bytes o)
item_facts s plan y bytes None e = fail_facts s plan y bytes (s.ending plan.key plan.inlets bytes)
item_facts s plan y bytes (Some (Hello cert)) e = inl refl
item_facts s plan y bytes (Some (Framed n ms)) e = frame_facts s plan y bytes n ms _ refl e

free_facts : (s : Scheme) (plan : HostPlan) (y : Conn) (bytes : List ℕ) (hand : List Message) (passed : Option Passed) (failed : Option Failure) → ConnFacts s plan y bytes (accept_free s plan y bytes hand passed failed)
free_facts s plan y bytes [] None None = item_facts s plan y bytes _ refl
free_facts s plan y bytes (m ∷ hand) passed failed = tt
free_facts s plan y bytes [] (Some m) failed = tt
free_facts s plan y bytes [] None (Some fault) = tt

pub accept_facts : (s : Scheme) (plan : HostPlan) (y : Conn) (bytes : List ℕ) → ConnFacts s plan y bytes (accept s plan y bytes)
accept_facts s plan y bytes = cond_case (ConnFacts s plan y bytes) plan.silent ConnWaits (accept_free s plan y bytes y.hand y.passed y.failed) (λ _. tt) (λ _. free_facts s plan y bytes y.hand y.passed y.failed)

put_facts : (s : Scheme) (plan : HostPlan) (y : Conn) (bytes : List ℕ) (message : Passed) (m : Mail Category) (o : Option ℕ) → y.passed ≡ Some message → box_of plan message.slot ≡ o → ConnFacts s plan y bytes (put_passed y m o)
put_facts s plan y bytes message m None e q = tt
put_facts s plan y bytes message m (Some b) e q = record { message = message; passed = e; box = q; empty = refl }

to_facts : (s : Scheme) (plan : HostPlan) (y : Conn) (bytes : List ℕ) (cert : LaneCert) (hand : List Message) (o : Option Passed) → peer s plan bytes ≡ Some cert → y.passed ≡ o → ConnFacts s plan y bytes (deliver_to plan y cert hand o)
to_facts s plan y bytes cert hand (Some m) e q = put_facts s plan y bytes m m.mail _ q refl
to_facts s plan y bytes cert [] None e q = tt
to_facts s plan y bytes cert (m ∷ rest) None e q = e

from_facts : (s : Scheme) (plan : HostPlan) (y : Conn) (bytes : List ℕ) (o : Option LaneCert) → peer s plan bytes ≡ o → ConnFacts s plan y bytes (deliver_from plan y o)
from_facts s plan y bytes None e = tt
from_facts s plan y bytes (Some cert) e = to_facts s plan y bytes cert y.hand y.passed e refl

pub deliver_facts : (s : Scheme) (plan : HostPlan) (y : Conn) (bytes : List ℕ) → ConnFacts s plan y bytes (deliver s plan y bytes)
deliver_facts s plan y bytes = cond_case (ConnFacts s plan y bytes) plan.silent ConnWaits (deliver_from plan y (peer s plan bytes)) (λ _. tt) (λ _. from_facts s plan y bytes _ refl)

-- the inlet that a certificate finds is its exporter's and has its number
pub inlet_found : (plan : HostPlan) (cert : LaneCert) (i : ℕ) → inlet_of plan cert ≡ Some i → ((inlet_name plan i).exporter ≡ cert.exporter) × ((inlet_name plan i).lane ≡ cert.lane)
inlet_found plan cert i e =
    let found : (same_key (inlet_name plan i).exporter cert.exporter && (eqb (inlet_name plan i).lane cert.lane)) ≡ true = (position-Some _ plan.inlets i no_inlet e).1 in
    (same_key_is _ _ (and_left _ _ found), eqb-true _ _ (and_right _ _ found))

-- what a High connection's asks touch is High; what another's asks touch of inlets isn't

abbrev pub QuietAsk : Category → List ℕ → Plan → ℕ → ConnAsk → Type 0
QuietAsk c trusted plan r ConnWaits = Unit {0}
QuietAsk c trusted plan r (ConnInternal next) = Unit {0}
QuietAsk c trusted plan r (AsksInlet i n fresh stale) = (high_inlet c trusted plan r i ≡ true)
QuietAsk c trusted plan r (AsksArrival cert m rest) = Unit {0}
QuietAsk c trusted plan r (PutsPassed b m next) = (is_in trusted r ≡ true) × (has by_name c (box_plan (host_plan plan r) b).label ≡ true)

abbrev pub SeenAsk : Category → List ℕ → Plan → ℕ → ConnAsk → Type 0
SeenAsk c trusted plan r ConnWaits = Unit {0}
SeenAsk c trusted plan r (ConnInternal next) = Unit {0}
SeenAsk c trusted plan r (AsksInlet i n fresh stale) = (high_inlet c trusted plan r i ≡ true) → ⊥
SeenAsk c trusted plan r (AsksArrival cert m rest) = Unit {0}
SeenAsk c trusted plan r (PutsPassed b m next) = Unit {0}

module _ (s : Scheme) (c : Category) (trusted : List ℕ) (plan : Plan) (r : ℕ) where
  quiet_inlet : (x : Host) (i : ℕ) (f : Inlet → Inlet) → (high_inlet c trusted plan r i ≡ true) → AlikeHosts c trusted plan r x (record x { inlets = at i f x.inlets })
  quiet_inlet x i f high = record {
    desk = refl;
    procs = λ p. inl refl;
    boxes = λ b. inl refl;
    queues = λ l. inl refl;
    workers = λ l. inl refl;
    logs = λ l. inl refl;
    inlets = one_at (λ j a b. (a ≡ b) ⊎ (high_inlet c trusted plan r j ≡ true)) i f x.inlets (λ j n. inl refl) (inr high);
  }

  quiet_mail : (x : Host) (b : ℕ) (f : Mailbox → Mailbox) → (is_in trusted r ≡ true) → (has by_name c (box_plan (host_plan plan r) b).label ≡ true) → AlikeHosts c trusted plan r x (record x { boxes = at b f x.boxes })
  quiet_mail x b f t l = record {
    desk = refl;
    procs = λ p. inl refl;
    boxes = one_at (λ j a d. Alike (high_box c (is_in trusted r) (host_plan plan r) x.procs j) (high_box c (is_in trusted r) (host_plan plan r) x.procs j) a d) b f x.boxes (λ j n. inl refl) (inr (and_both _ _ t (or_left _ _ l), and_both _ _ t (or_left _ _ l)));
    queues = λ l. inl refl;
    workers = λ l. inl refl;
    logs = λ l. inl refl;
    inlets = λ i. inl refl;
  }

  pub quiet_conn : (x : Host) (y : Conn) (a : ConnAsk) → QuietAsk c trusted plan r a → AlikeHosts c trusted plan r x (perform_conn s (host_plan plan r) x y a).host
  quiet_conn x y ConnWaits q = alike_self c trusted plan r x
  quiet_conn x y (ConnInternal next) q = alike_self c trusted plan r x
  quiet_conn x y (AsksInlet i n fresh stale) q = quiet_inlet x i (numbered n) q
  quiet_conn x y (AsksArrival cert m rest) q = alike_self c trusted plan r x
  quiet_conn x y (PutsPassed b m next) q = quiet_mail x b (put (box_plan (host_plan plan r) b).room m) q.0 q.1

  module _ (x x' : Host) (alike : AlikeHosts c trusted plan r x x') (y : Conn) where
    pub same_host : (a : ConnAsk) → SeenAsk c trusted plan r a → AlikeHosts c trusted plan r (perform_conn s (host_plan plan r) x y a).host (perform_conn s (host_plan plan r) x' y a).host
    same_host ConnWaits q = alike
    same_host (ConnInternal next) q = alike
    same_host (AsksInlet i n fresh stale) q = record {
      desk = alike.desk;
      procs = alike.procs;
      boxes = alike.boxes;
      queues = alike.queues;
      workers = alike.workers;
      logs = alike.logs;
      inlets = both_at (λ j a b. (a ≡ b) ⊎ (high_inlet c trusted plan r j ≡ true)) (λ j a b. (a ≡ b) ⊎ (high_inlet c trusted plan r j ≡ true)) i (numbered n) (numbered n) x.inlets x'.inlets alike.inlets (λ j k e. e) same;
    }
      where
        same : {o o' : Option Inlet} → (o ≡ o') ⊎ (high_inlet c trusted plan r i ≡ true) → (option_map (numbered n) o ≡ option_map (numbered n) o') ⊎ (high_inlet c trusted plan r i ≡ true)
        same (inl e) = inl (ap (option_map (numbered n)) e)
        same (inr e) = inr e
    same_host (AsksArrival cert m rest) q = alike
    same_host (PutsPassed b m next) q = record {
      desk = alike.desk;
      procs = alike.procs;
      boxes = both_at (λ j a d. Alike (high_box c (is_in trusted r) (host_plan plan r) x.procs j) (high_box c (is_in trusted r) (host_plan plan r) x'.procs j) a d) (λ j a d. Alike (high_box c (is_in trusted r) (host_plan plan r) x.procs j) (high_box c (is_in trusted r) (host_plan plan r) x'.procs j) a d) b (put (box_plan (host_plan plan r) b).room m) (put (box_plan (host_plan plan r) b).room m) x.boxes x'.boxes alike.boxes (λ j n e. e) same;
      queues = alike.queues;
      workers = alike.workers;
      logs = alike.logs;
      inlets = alike.inlets;
    }
      where
        same : {u v : Bool} {o o' : Option Mailbox} → Alike u v o o' → Alike u v (option_map (put (box_plan (host_plan plan r) b).room m) o) (option_map (put (box_plan (host_plan plan r) b).room m) o')
        same (inl e) = inl (ap (option_map (put (box_plan (host_plan plan r) b).room m)) e)
        same (inr e) = inr e

    seen_inlet : {X : Type 0} {a b : X} (i : ℕ) → ((high_inlet c trusted plan r i ≡ true) → ⊥) → (a ≡ b) ⊎ (high_inlet c trusted plan r i ≡ true) → a ≡ b
    seen_inlet i q (inl e) = e
    seen_inlet i q (inr h) = absurd (q h)

    pub same_conn : (a : ConnAsk) → SeenAsk c trusted plan r a → (perform_conn s (host_plan plan r) x y a).conn ≡ (perform_conn s (host_plan plan r) x' y a).conn
    same_conn ConnWaits q = refl
    same_conn (ConnInternal next) q = refl
    same_conn (AsksInlet i n fresh stale) q = ap (λ o. if fresh_in n o then fresh else stale) (seen_inlet i q (alike.inlets i))
    same_conn (AsksArrival cert m rest) q = ap (λ d. delivery_after_reply cert m rest (judge_delivery s (host_plan plan r) d cert m) y) alike.desk
    same_conn (PutsPassed b m next) q = refl
