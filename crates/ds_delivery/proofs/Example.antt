-- The example's runs meet the premises.
use Rattle.std.proofs.Common.{◌≡◌, ℕ, zero, suc, Bool, true, false, List, [], ◌∷◌, ◌++◌, ◌&&◌, Option, Some, None, slice_get, length, take, replicate, flat_map, Contains, codes, refl, sym, ◌∙◌, ap, subst, arith, eqb, eqb-true}
use Rattle.std.specs.List.{list_all}
use Rattle.std.proofs.lemmas.Slice.Eq.{bytes_eq-Decides}
use Rattle.ds_label.specs.declared.category.PubKey.{PubKey}
use Rattle.ds_msg.specs.declared.message.Message.{Message}
use Rattle.ds_model.specs.Keys.{same_key}
use Rattle.ds_model.specs.Scheme.{Item, Hello, Framed}
use Rattle.ds_model.specs.Plan.{OfLane, IsLane, LanePlan, conn_plan, host_plan, lane_plan}
use Rattle.ds_cert.specs.declared.lane.LaneCert.{LaneCert}
use Rattle.ds_model.specs.ConnectionStep.{hello_of}
use Rattle.ds_model.specs.World.{Process, Queue, Worker, Conn, Host, World}
use Rattle.ds_model.specs.Setup.{IsSetup}
use Rattle.ds_model.specs.Step.{Event, step, run}
use Rattle.ds_model.specs.Examples.OneHost.{only_key}
use Rattle.ds_model.specs.Examples.TwoHosts.{letter, letter_lane, receiving, posting}
use Rattle.ds_model.proofs.Places.{none_some, some_is}
use Rattle.ds_delivery.specs.Premises.{Written, stream_with, items_with, CanBeWritten, IsReadable}
use Rattle.ds_delivery.specs.Example.{is_letter, letter_frames, letter_items, letter_scheme, two_ways, before_both, by_lane, by_link, PremisesHold}
use Rattle.ds_delivery.proofs.Lists.{in_head, in_tail, map_in}

and_left : (a b : Bool) → (a && b) ≡ true → a ≡ true
and_left true b h = refl
and_left false b h = h

and_right : (a b : Bool) → (a && b) ≡ true → b ≡ true
and_right true b h = h
and_right false b h = absurd (grind arith)

-- a message that passes the test is the letter

no_members : {X : Type 0} (xs : List X) → eqb (length xs) 0 ≡ true → xs ≡ []
no_members [] e = refl
no_members (x ∷ xs) e = absurd (let n : suc (length xs) ≡ 0 = eqb-true (suc (length xs)) 0 e in omega arith)

key_is : (a b : PubKey) → same_key a b ≡ true → a ≡ b
key_is a b h = let k : a.0 ≡ b.0 = (bytes_eq-Decides a.0 b.0).0 h in λ i. record { 0 = k i }

is_the_letter : (m : Message) → is_letter m ≡ true → m ≡ letter
is_the_letter m e =
    let to : m.to ≡ only_key = key_is m.to only_key (and_left _ _ e) in
    let e1 = and_right _ _ e in
    let slot : m.slot ≡ 1 = eqb-true m.slot 1 (and_left _ _ e1) in
    let e2 = and_right _ _ e1 in
    let label : m.label ≡ [] = no_members m.label (and_left _ _ e2) in
    let e3 = and_right _ _ e2 in
    let own : m.own ≡ [] = no_members m.own (and_left _ _ e3) in
    let e4 = and_right _ _ e3 in
    let clear : m.clear ≡ [] = no_members m.clear (and_left _ _ e4) in
    let e5 = and_right _ _ e4 in
    let certs : m.certs ≡ [] = no_members m.certs (and_left _ _ e5) in
    let payload : m.payload ≡ codes "x" = (bytes_eq-Decides m.payload (codes "x")).0 (and_right _ _ e5) in
    λ i. record { to = to i; slot = slot i; label = label i; own = own i; clear = clear i; certs = certs i; payload = payload i }

all_letters : (ms : List Message) → ((m : Message) → Contains ms m → is_letter m ≡ true) → ms ≡ replicate (length ms) letter
all_letters [] f = refl
all_letters (m ∷ ms) f = go (is_the_letter m (f m (in_head m ms))) (all_letters ms (λ n c. f n (in_tail m ms n c)))
  where
    go : m ≡ letter → ms ≡ replicate (length ms) letter → m ∷ ms ≡ letter ∷ replicate (length ms) letter
    go p q = λ i. p i ∷ q i

-- nothing else is read

frames_only : (lane : LanePlan) (frames : List Written) → ((f : Written) → Contains frames f → CanBeWritten letter_scheme is_letter lane f) → (n j : ℕ) (item : Item) →
    slice_get (letter_frames (take n (flat_map (λ f. letter_scheme.frame lane.signing f.number f.messages) frames))) j ≡ Some item → (f : Written) × Contains frames f × (Framed f.number f.messages ≡ item)
frames_only lane [] can n j item = λ e. absurd (nothing n e)
  where
    nothing : (n : ℕ) → slice_get (letter_frames (take n [])) j ≡ Some item → ⊥
    nothing zero e = none_some item e
    nothing (suc n) e = none_some item e
frames_only lane (f ∷ frames) can n j item = go n j (frames_only lane frames (λ g c. can g (in_tail f frames g c)))
  where
    rest : List ℕ
    rest = flat_map (λ g. letter_scheme.frame lane.signing g.number g.messages) frames

    found : (n j : ℕ) → ((n j : ℕ) (item : Item) → slice_get (letter_frames (take n (flat_map (λ g. letter_scheme.frame lane.signing g.number g.messages) frames))) j ≡ Some item → (g : Written) × Contains frames g × (Framed g.number g.messages ≡ item)) →
        slice_get (Framed f.number (replicate (length f.messages) letter) ∷ letter_frames (take n (flat_map (λ g. letter_scheme.frame lane.signing g.number g.messages) frames))) j ≡ Some item → (g : Written) × Contains (f ∷ frames) g × (Framed g.number g.messages ≡ item)
    found n zero more e = (f, in_head f frames, ap (Framed f.number) (all_letters f.messages (can f (in_head f frames)).each) ∙ some_is _ item e)
    found n (suc j) more e = let m : (g : Written) × Contains frames g × (Framed g.number g.messages ≡ item) = more n j item e in (m.0, in_tail f frames m.0 m.1, m.2)

    go : (n j : ℕ) → ((n j : ℕ) (item : Item) → slice_get (letter_frames (take n (flat_map (λ g. letter_scheme.frame lane.signing g.number g.messages) frames))) j ≡ Some item → (g : Written) × Contains frames g × (Framed g.number g.messages ≡ item)) →
        slice_get (letter_frames (take n (f.number ∷ length f.messages ∷ flat_map (λ g. letter_scheme.frame lane.signing g.number g.messages) frames))) j ≡ Some item → (g : Written) × Contains (f ∷ frames) g × (Framed g.number g.messages ≡ item)
    go zero j more e = absurd (none_some item e)
    go (suc zero) j more e = absurd (none_some item e)
    go (suc (suc n)) j more e = found n j more e

stream_only : (lane : LanePlan) → lane.cert ≡ letter_lane → (frames : List Written) → ((f : Written) → Contains frames f → CanBeWritten letter_scheme is_letter lane f) → (n j : ℕ) (item : Item) →
    slice_get (letter_items (take n (stream_with letter_scheme lane frames))) j ≡ Some item → Contains (items_with lane frames) item
stream_only lane is frames can zero j item e = absurd (none_some item e)
stream_only lane is frames can (suc n) zero item e = subst (Contains (items_with lane frames)) (ap Hello is ∙ some_is _ item e) (in_head (Hello lane.cert) _)
stream_only lane is frames can (suc n) (suc j) item e =
    let m : (f : Written) × Contains frames f × (Framed f.number f.messages ≡ item) = frames_only lane frames can n j item e in
    subst (Contains (items_with lane frames)) m.2 (in_tail (Hello lane.cert) _ (Framed m.0.number m.0.messages) (map_in (λ (f : Written). Framed f.number f.messages) frames m.0 m.1))

the_lane : (h l : ℕ) → IsLane two_ways h l → (lane_plan (host_plan two_ways h) l).cert ≡ letter_lane
the_lane zero l is = absurd (omega arith)
the_lane (suc zero) zero is = refl
the_lane (suc zero) (suc l) is = absurd (omega arith)
the_lane (suc (suc h)) l is = absurd (omega arith)

scheme : IsReadable letter_scheme is_letter two_ways
scheme = record {
  stays = λ here lane bytes more e. stays lane bytes more e;
  good = λ here lane bytes e. refl;
  signed = λ here lane bytes j number messages e f. refl;
  own = λ h l is frames can here n j item e. stream_only (lane_plan (host_plan two_ways h) l) (the_lane h l is) frames can n j item e;
}
  where
    stays : (lane : LaneCert) (bytes more : List ℕ) → hello_of (slice_get (letter_items bytes) 0) ≡ Some lane → hello_of (slice_get (letter_items (bytes ++ more)) 0) ≡ Some lane
    stays lane [] more e = absurd (none_some lane e)
    stays lane (b ∷ bytes) more e = e

-- the start

setup : IsSetup letter_scheme two_ways before_both
setup = record { conn_plans = conn_plans; procs = procs; queues = queues; workers = workers; conns = conns }
  where
    conn_plans : (k h l : ℕ) → (conn_plan two_ways k).source ≡ OfLane h l → IsLane two_ways h l
    conn_plans zero h l e = let hosts : 1 ≡ h = cc in let lanes : 0 ≡ l = cc in subst (λ g. IsLane two_ways g l) hosts (subst (λ j. IsLane two_ways 1 j) lanes (omega arith))
    conn_plans (suc zero) h l e = absurd (grind arith)
    conn_plans (suc (suc k)) h l e = absurd (grind arith)

    procs : (h : ℕ) (x : Host) (p : ℕ) (y : Process) → slice_get before_both.hosts h ≡ Some x → slice_get x.procs p ≡ Some y → y.hand ≡ None
    procs zero x p y e f = one p (ap (λ (u : Host). slice_get u.procs p) (some_is _ x e) ∙ f)
      where
        one : (p : ℕ) → slice_get receiving.procs p ≡ Some y → y.hand ≡ None
        one zero f = ap (λ (u : Process). u.hand) (sym (some_is _ y f))
        one (suc p) f = absurd (none_some y f)
    procs (suc zero) x p y e f = one p (ap (λ (u : Host). slice_get u.procs p) (some_is _ x e) ∙ f)
      where
        one : (p : ℕ) → slice_get posting.procs p ≡ Some y → y.hand ≡ None
        one zero f = ap (λ (u : Process). u.hand) (sym (some_is _ y f))
        one (suc p) f = absurd (none_some y f)
    procs (suc (suc h)) x p y e f = absurd (none_some x e)

    queues : (h : ℕ) (x : Host) (l : ℕ) (q : Queue) → slice_get before_both.hosts h ≡ Some x → slice_get x.queues l ≡ Some q → q ≡ []
    queues zero x l q e f = absurd (none_some q (ap (λ (u : Host). slice_get u.queues l) (some_is _ x e) ∙ f))
    queues (suc zero) x l q e f = one l (ap (λ (u : Host). slice_get u.queues l) (some_is _ x e) ∙ f)
      where
        one : (l : ℕ) → slice_get posting.queues l ≡ Some q → q ≡ []
        one zero f = sym (some_is _ q f)
        one (suc l) f = absurd (none_some q f)
    queues (suc (suc h)) x l q e f = absurd (none_some x e)

    workers : (h : ℕ) (x : Host) (l : ℕ) (e : Worker) → slice_get before_both.hosts h ≡ Some x → slice_get x.workers l ≡ Some e → (e.hand ≡ []) × (e.stream ≡ letter_scheme.hello (lane_plan (host_plan two_ways h) l).cert)
    workers zero x l w e f = absurd (none_some w (ap (λ (u : Host). slice_get u.workers l) (some_is _ x e) ∙ f))
    workers (suc zero) x l w e f = one l (ap (λ (u : Host). slice_get u.workers l) (some_is _ x e) ∙ f)
      where
        one : (l : ℕ) → slice_get posting.workers l ≡ Some w → (w.hand ≡ []) × (w.stream ≡ 255 ∷ [])
        one zero f = (ap (λ (u : Worker). u.hand) (sym (some_is _ w f)), ap (λ (u : Worker). u.stream) (sym (some_is _ w f)))
        one (suc l) f = absurd (none_some w f)
    workers (suc (suc h)) x l w e f = absurd (none_some x e)

    conns : (k : ℕ) (y : Conn) → slice_get before_both.conns k ≡ Some y → (y.hand ≡ []) × (y.passed ≡ None)
    conns zero y e = (ap (λ (u : Conn). u.hand) (sym (some_is _ y e)), ap (λ (u : Conn). u.passed) (sym (some_is _ y e)))
    conns (suc zero) y e = (ap (λ (u : Conn). u.hand) (sym (some_is _ y e)), ap (λ (u : Conn). u.passed) (sym (some_is _ y e)))
    conns (suc (suc k)) y e = absurd (none_some y e)

-- each message in hand is the letter, at each world

hand_passes : Option Message → Bool
hand_passes None = true
hand_passes (Some m) = is_letter m

spelled : World → Bool
spelled w = list_all (λ (x : Host). list_all (λ (y : Process). hand_passes y.hand) x.procs) w.hosts

always : World → List Event → Bool
always w [] = spelled w && true
always w (e ∷ events) = spelled w && always (step letter_scheme two_ways w e) events

one_of : {X : Type 0} (test : X → Bool) (xs : List X) (i : ℕ) (x : X) → list_all test xs ≡ true → slice_get xs i ≡ Some x → test x ≡ true
one_of test [] i x a e = absurd (none_some x e)
one_of test (y ∷ xs) zero x a e = ap test (sym (some_is y x e)) ∙ and_left _ _ a
one_of test (y ∷ xs) (suc i) x a e = one_of test xs i x (and_right _ _ a) e

in_hand : (o : Option Message) (m : Message) → hand_passes o ≡ true → o ≡ Some m → is_letter m ≡ true
unfolding hand_passes
in_hand None m t e = absurd (none_some m e)
in_hand (Some n) m t e = subst (λ z. is_letter z ≡ true) (some_is n m e) t

at_world : (w : World) → spelled w ≡ true → (h : ℕ) (x : Host) (p : ℕ) (y : Process) (m : Message) → slice_get w.hosts h ≡ Some x → slice_get x.procs p ≡ Some y → y.hand ≡ Some m → is_letter m ≡ true
unfolding spelled
at_world w t h x p y m stands acts hand = in_hand y.hand m (one_of (λ (y : Process). hand_passes y.hand) x.procs p y (one_of (λ (x : Host). list_all (λ (y : Process). hand_passes y.hand) x.procs) w.hosts h x t stands) acts) hand

no_more : (e : Event) (events : List Event) → [] ≡ e ∷ events → ⊥
no_more e events p = grind arith

same_first : (d e : Event) (events others : List Event) → d ∷ events ≡ e ∷ others → d ≡ e
same_first d e events others p = cc

same_rest : (d e : Event) (events others : List Event) → d ∷ events ≡ e ∷ others → events ≡ others
same_rest d e events others p = cc

along : (events before later : List Event) (w : World) → always w events ≡ true → events ≡ before ++ later → spelled (run letter_scheme two_ways w before) ≡ true
unfolding always
along [] [] later w t e = and_left _ _ t
along (d ∷ events) [] later w t e = and_left _ _ t
along [] (f ∷ before) later w t e = absurd (no_more f (before ++ later) e)
along (d ∷ events) (f ∷ before) later w t e = subst (λ z. spelled (run letter_scheme two_ways (step letter_scheme two_ways w z) before) ≡ true) (same_first d f events (before ++ later) e)
    (along events before later (step letter_scheme two_ways w d) (and_right _ _ t) (same_rest d f events (before ++ later) e))

is_met : (events : List Event) → always before_both events ≡ true → PremisesHold events
is_met events t = record { scheme = scheme; setup = setup; spells = λ before later e h x p y m. at_world (run letter_scheme two_ways before_both before) (along events before later before_both t e) h x p y m }

pub lane_met : PremisesHold by_lane
unfolding always spelled hand_passes Rattle.ds_label.specs.Flow.flows Rattle.ds_label.specs.Flow.same_label
lane_met = is_met by_lane refl

pub link_met : PremisesHold by_link
unfolding always spelled hand_passes Rattle.ds_label.specs.Flow.flows Rattle.ds_label.specs.Flow.same_label
link_met = is_met by_link refl
