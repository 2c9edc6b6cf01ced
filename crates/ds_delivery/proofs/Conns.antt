-- What holds of each thing that a connection asks, where these bytes have arrived.
use Rattle.std.proofs.Common.{◌≡◌, ℕ, List, [], ◌∷◌, Option, Some, None, slice_get, refl}
use Rattle.ds_label.specs.declared.category.Category.{Category}
use Rattle.ds_cert.specs.declared.lane.LaneCert.{LaneCert}
use Rattle.ds_msg.specs.declared.message.Message.{Message}
use Rattle.ds_model.specs.Scheme.{Scheme, Item, Hello, Framed, Failure}
use Rattle.ds_model.specs.Plan.{HostPlan}
use Rattle.ds_model.specs.World.{Mail, Conn, Passed}
use Rattle.ds_model.specs.ProcessStep.{box_of}
use Rattle.ds_model.specs.ConnectionStep.{ConnAsk, ConnWaits, ConnInternal, AsksInlet, AsksArrival, PutsPassed, peer, inlet_of, fresh_frame, stale_frame, take_frame, frame_from, fail, accept_item, accept_free, accept, put_passed, deliver_to, deliver_from, deliver}
use Rattle.ds_model.proofs.Places.{cond_case}

-- the stream, its hand and what it passed stay
pub record SameHands (y next : Conn) : Type 0 where
  pub link : next.link ≡ y.link
  pub count : next.count ≡ y.count
  pub hand : next.hand ≡ y.hand
  pub passed : next.passed ≡ y.passed

-- a frame, after a hello
pub record NumberFacts (s : Scheme) (plan : HostPlan) (y : Conn) (bytes : List ℕ) (i number : ℕ) (fresh stale : Conn) : Type 0 where
  pub cert : LaneCert
  pub messages : List Message
  pub read : peer s plan bytes ≡ Some cert
  pub item : slice_get (s.items plan.key plan.inlets bytes) y.taken ≡ Some (Framed number messages)
  pub inlet : inlet_of plan cert ≡ Some i
  pub fresh_is : fresh ≡ fresh_frame y number messages
  pub stale_is : stale ≡ stale_frame y number

abbrev pub AcceptFacts : Scheme → HostPlan → Conn → List ℕ → ConnAsk → Type 0
AcceptFacts s plan y bytes ConnWaits = Unit {0}
AcceptFacts s plan y bytes (ConnInternal next) = SameHands y next
AcceptFacts s plan y bytes (AsksInlet i number fresh stale) = NumberFacts s plan y bytes i number fresh stale
AcceptFacts s plan y bytes (AsksArrival cert m rest) = ⊥
AcceptFacts s plan y bytes (PutsPassed b mail next) = ⊥

frame_facts : (s : Scheme) (plan : HostPlan) (y : Conn) (bytes : List ℕ) (n : ℕ) (ms : List Message) (o : Option LaneCert) → peer s plan bytes ≡ o → slice_get (s.items plan.key plan.inlets bytes) y.taken ≡ Some (Framed n ms) → AcceptFacts s plan y bytes (frame_from plan y n ms o)
frame_facts s plan y bytes n ms None e f = tt
frame_facts s plan y bytes n ms (Some cert) e f = go (inlet_of plan cert) refl
  where
    go : (o : Option ℕ) → inlet_of plan cert ≡ o → AcceptFacts s plan y bytes (take_frame y n ms o)
    go None q = tt
    go (Some i) q = record { cert = cert; messages = ms; read = e; item = f; inlet = q; fresh_is = refl; stale_is = refl }

fail_facts : (s : Scheme) (plan : HostPlan) (y : Conn) (bytes : List ℕ) (o : Option Failure) → AcceptFacts s plan y bytes (fail y o)
fail_facts s plan y bytes None = tt
fail_facts s plan y bytes (Some fault) = record { link = refl; count = refl; hand = refl; passed = refl }

item_facts : (s : Scheme) (plan : HostPlan) (y : Conn) (bytes : List ℕ) (o : Option Item) → slice_get (s.items plan.key plan.inlets bytes) y.taken ≡ o → AcceptFacts s plan y bytes (accept_item s plan y bytes o)
item_facts s plan y bytes None e = fail_facts s plan y bytes (s.ending plan.key plan.inlets bytes)
item_facts s plan y bytes (Some (Hello cert)) e = record { link = refl; count = refl; hand = refl; passed = refl }
item_facts s plan y bytes (Some (Framed n ms)) e = frame_facts s plan y bytes n ms _ refl e

free_facts : (s : Scheme) (plan : HostPlan) (y : Conn) (bytes : List ℕ) (hand : List Message) (passed : Option Passed) (failed : Option Failure) → AcceptFacts s plan y bytes (accept_free s plan y bytes hand passed failed)
free_facts s plan y bytes [] None None = item_facts s plan y bytes _ refl
free_facts s plan y bytes (m ∷ hand) passed failed = tt
free_facts s plan y bytes [] (Some m) failed = tt
free_facts s plan y bytes [] None (Some fault) = tt

pub accept_facts : (s : Scheme) (plan : HostPlan) (y : Conn) (bytes : List ℕ) → AcceptFacts s plan y bytes (accept s plan y bytes)
accept_facts s plan y bytes = cond_case (AcceptFacts s plan y bytes) plan.silent ConnWaits (accept_free s plan y bytes y.hand y.passed y.failed) (λ _. tt) (λ _. free_facts s plan y bytes y.hand y.passed y.failed)

-- a message of the hand to be judged, or the passed one to be put

pub record JudgeFacts (s : Scheme) (plan : HostPlan) (y : Conn) (bytes : List ℕ) (cert : LaneCert) (m : Message) (rest : List Message) : Type 0 where
  pub read : peer s plan bytes ≡ Some cert
  pub first : y.hand ≡ m ∷ rest
  pub free : y.passed ≡ None

pub record HandFacts (s : Scheme) (plan : HostPlan) (y : Conn) (bytes : List ℕ) (b : ℕ) (mail : Mail Category) (next : Conn) : Type 0 where
  pub cert : LaneCert
  pub left : Passed
  pub read : peer s plan bytes ≡ Some cert
  pub passed : y.passed ≡ Some left
  pub box : box_of plan left.slot ≡ Some b
  pub mail_is : mail ≡ left.mail
  pub next_is : next ≡ record y { passed = None }

abbrev pub DeliverFacts : Scheme → HostPlan → Conn → List ℕ → ConnAsk → Type 0
DeliverFacts s plan y bytes ConnWaits = Unit {0}
DeliverFacts s plan y bytes (ConnInternal next) = ⊥
DeliverFacts s plan y bytes (AsksInlet i number fresh stale) = ⊥
DeliverFacts s plan y bytes (AsksArrival cert m rest) = JudgeFacts s plan y bytes cert m rest
DeliverFacts s plan y bytes (PutsPassed b mail next) = HandFacts s plan y bytes b mail next

put_facts : (s : Scheme) (plan : HostPlan) (y : Conn) (bytes : List ℕ) (cert : LaneCert) (m : Passed) (o : Option ℕ) → peer s plan bytes ≡ Some cert → y.passed ≡ Some m → box_of plan m.slot ≡ o → DeliverFacts s plan y bytes (put_passed y m.mail o)
put_facts s plan y bytes cert m None e q box = tt
put_facts s plan y bytes cert m (Some b) e q box = record { cert = cert; left = m; read = e; passed = q; box = box; mail_is = refl; next_is = refl }

to_facts : (s : Scheme) (plan : HostPlan) (y : Conn) (bytes : List ℕ) (cert : LaneCert) (hand : List Message) (o : Option Passed) → peer s plan bytes ≡ Some cert → y.hand ≡ hand → y.passed ≡ o → DeliverFacts s plan y bytes (deliver_to plan y cert hand o)
to_facts s plan y bytes cert hand (Some m) e h q = put_facts s plan y bytes cert m (box_of plan m.slot) e q refl
to_facts s plan y bytes cert [] None e h q = tt
to_facts s plan y bytes cert (m ∷ rest) None e h q = record { read = e; first = h; free = q }

from_facts : (s : Scheme) (plan : HostPlan) (y : Conn) (bytes : List ℕ) (o : Option LaneCert) → peer s plan bytes ≡ o → DeliverFacts s plan y bytes (deliver_from plan y o)
from_facts s plan y bytes None e = tt
from_facts s plan y bytes (Some cert) e = to_facts s plan y bytes cert y.hand y.passed e refl refl

pub deliver_facts : (s : Scheme) (plan : HostPlan) (y : Conn) (bytes : List ℕ) → DeliverFacts s plan y bytes (deliver s plan y bytes)
deliver_facts s plan y bytes = cond_case (DeliverFacts s plan y bytes) plan.silent ConnWaits (deliver_from plan y (peer s plan bytes)) (λ _. tt) (λ _. from_facts s plan y bytes _ refl)
