-- What a connection becomes that accepts.
use Rattle.std.proofs.Common.{inl, inr, ◌≡◌, ℕ, suc, Bool, true, false, List, [], ◌∷◌, Option, Some, None, map, slice_get, refl, sym, ap, ◌∙◌, subst, arith}
use Rattle.std.specs.Prelude.{nat_lt, option_map, is_some, Result, Ok, Err, if◌then◌else◌}
use Rattle.std.proofs.lemmas.Option.{slice_get-map}
use Rattle.ds_label.specs.declared.category.PubKey.{PubKey}
use Rattle.ds_label.specs.declared.category.Category.{Category}
use Rattle.ds_script.specs.declared.actor.Actor.{Actor}
use Rattle.ds_cert.specs.declared.lane.LaneCert.{LaneCert}
use Rattle.ds_msg.specs.declared.message.Message.{Message}
use Rattle.ds_msg.specs.declared.local.LocalMessage.{LocalMessage}
use Rattle.ds_frame.specs.declared.cause.Cause.{Cause}
use Rattle.ds_frame.specs.declared.item.Failure.{Failure}
use Rattle.ds_frame.specs.declared.item.ReadEnd.{ReadEnd}
use Rattle.ds_frame.specs.declared.item.ReadEnd.TheVariants as ends
use Rattle.ds_frame.specs.Fields.{ReadFault, Open, Broken}
use Rattle.ds_model.specs.Lists.{at}
use Rattle.ds_model.specs.Scheme.{Scheme, InletName, Item, Hello, Framed, Failure as PlainFailure}
use Rattle.ds_model.specs.Plan.{HostPlan}
use Rattle.ds_model.specs.World.{Conn, Host, Passed}
use Rattle.ds_model.specs.Inlet.{is_fresh, numbered}
use Rattle.ds_model.specs.ConnectionStep.{ConnAsk, ConnWaits, ConnInternal, AsksInlet, peer, inlet_of, take_frame, frame_from, fail, accept_item, accept_free, accept}
use Rattle.ds_model.specs.Step.{HostAndConn, fresh_in, perform_conn}
use Rattle.ds_model.specs.Access.{NoAccess, access_of_conn_ask, number_access}
use Rattle.ds_inlet.specs.declared.offer.Offer.{Offer}
use Rattle.ds_inlet.specs.declared.offer.Offer.TheVariants as offers
use Rattle.ds_inlet.specs.Hosts.{seen_reading}
use Rattle.ds_inlet.specs.Inlets.{CountedLane}
use Rattle.ds_inlet.specs.OfferedFrames.{OfferedFrame}
use Rattle.ds_inlet.specs.Connections.{Connection, ReadStep, Reads, read_step, reading_step, seen_step, step_unless_failed, step_unless_offered, IsForLane, lane_inlet_of, settled, settled_as}
use Rattle.ds_inlet.specs.PlainConnections.{plain_conn}
use Rattle.ds_inlet.specs.Accepting.{Accepts, FailsOnce, inlet_plan, inlet_scheme}
use Rattle.ds_scheme.specs.TheScheme.{scheme}
use Rattle.ds_exporter.specs.declared.moved.Moved.TheVariants.{Still, Changed}
use Rattle.ds_exporter.specs.PlainHosts.{plain_inlet, plain_passed, conn_of}
use Rattle.ds_exporter.specs.Accepting.{Accepted, KeepsPassed, IsNext, Touches, counted, met}
use Rattle.ds_exporter.proofs.Places.{map_over_at}

-- WHAT ACCEPT ASKS CHANGES THE CONNECTION

suc_is : (n : ℕ) → suc n ≡ n → ⊥
suc_is n e = omega (arith, e)

some_none : {X : Type 0} (x : X) (o : Option X) → o ≡ None → Some x ≡ o → ⊥
some_none x o none e = absurd (no (e ∙ none))
  where
    no : Some x ≡ None → ⊥
    no p = grind arith

-- a step of its own changes it, and so does either answer of an inlet
abbrev Moving : Conn → ConnAsk → Type 0
Moving k (ConnInternal next) = next ≡ k → ⊥
Moving k (AsksInlet i number fresh stale) = (fresh ≡ k → ⊥) × (stale ≡ k → ⊥)
Moving k _ = Unit {0}

module _ (s : Scheme) (plan : HostPlan) (k : Conn) (arrived : List ℕ) where
  abbrev taken_of : Conn → ℕ
  taken_of c = c.taken

  moves_frame : (number : ℕ) (messages : List Message) (o : Option ℕ) → Moving k (take_frame k number messages o)
  moves_frame number messages None = tt
  moves_frame number messages (Some i) = (λ e. suc_is k.taken (ap taken_of e), λ e. suc_is k.taken (ap taken_of e))

  moves_from : (number : ℕ) (messages : List Message) (o : Option LaneCert) → Moving k (frame_from plan k number messages o)
  moves_from number messages None = tt
  moves_from number messages (Some lane) = moves_frame number messages (inlet_of plan lane)

  moves_fail : (o : Option PlainFailure) → k.failed ≡ None → Moving k (fail k o)
  moves_fail None none = tt
  moves_fail (Some failure) none = λ e. some_none failure k.failed none (ap (λ (c : Conn). c.failed) e)

  moves_item : (o : Option Item) → k.failed ≡ None → Moving k (accept_item s plan k arrived o)
  moves_item None none = moves_fail (s.ending plan.key plan.inlets arrived) none
  moves_item (Some (Hello lane)) none = λ e. suc_is k.taken (ap taken_of e)
  moves_item (Some (Framed number messages)) none = moves_from number messages (peer s plan arrived)

  moves_free : (hand : List Message) (passed : Option Passed) (failed : Option PlainFailure) → k.failed ≡ failed → Moving k (accept_free s plan k arrived hand passed failed)
  moves_free [] None None is = moves_item (slice_get (s.items plan.key plan.inlets arrived) k.taken) is
  moves_free [] None (Some failure) is = tt
  moves_free [] (Some p) failed is = tt
  moves_free (m ∷ hand) None failed is = tt
  moves_free (m ∷ hand) (Some p) failed is = tt

  moving : Moving k (accept s plan k arrived)
  moving = go plan.silent
    where
      go : (b : Bool) → Moving k (if b then ConnWaits else accept_free s plan k arrived k.hand k.passed k.failed)
      go true = tt
      go false = moves_free k.hand k.passed k.failed refl

  -- with something in hand or passed it waits
  waits_free : (hand : List Message) (passed : Option Passed) (failed : Option PlainFailure) → ((hand ≡ []) × (passed ≡ None) → ⊥) → accept_free s plan k arrived hand passed failed ≡ ConnWaits
  waits_free [] None failed busy = absurd (busy (refl, refl))
  waits_free [] (Some p) failed busy = refl
  waits_free (m ∷ hand) None failed busy = refl
  waits_free (m ∷ hand) (Some p) failed busy = refl

  waits : ((k.hand ≡ []) × (k.passed ≡ None) → ⊥) → accept s plan k arrived ≡ ConnWaits
  waits busy = go plan.silent
    where
      go : (b : Bool) → (if b then ConnWaits else accept_free s plan k arrived k.hand k.passed k.failed) ≡ ConnWaits
      go true = refl
      go false = waits_free k.hand k.passed k.failed busy

-- OF A CONNECTION IN CODE

abbrev conn_in : HostAndConn → Conn
conn_in e = e.conn

-- it accepts as itself
abbrev asks : PubKey → List Category → HostPlan → (link : List ℕ) → Connection → ConnAsk
asks here rows plan link k = accept scheme (inlet_plan plan k) (conn_of here rows link k) k.arrived

-- with nothing passed
free_is : (here : PubKey) (rows : List Category) (link : List ℕ) (k : Connection) → k.passed ≡ None → plain_conn link None k ≡ conn_of here rows link k
free_is here rows link k none = ap (λ (p : Option (ℕ × LocalMessage)). plain_conn link (plain_passed here rows p) k) (sym none)

none_passed : (here : PubKey) (rows : List Category) (passed : Option (ℕ × LocalMessage)) → plain_passed here rows passed ≡ None → passed ≡ None
none_passed here rows None e = refl
none_passed here rows (Some x) e = absurd cc

pub accepts_busy : (k : Connection) (inlets : List CountedLane) → ((k.hand ≡ []) × (k.passed ≡ None) → ⊥) → Accepted Still k k inlets inlets
accepts_busy k inlets busy = λ here rows plan x link.
    let w = waits scheme (inlet_plan plan k) (conn_of here rows link k) k.arrived (λ free. busy (free.0, none_passed here rows k.passed free.1)) in
    (ap (λ (a : ConnAsk). perform_conn scheme (inlet_plan plan k) (record x { inlets = map plain_inlet inlets }) (conn_of here rows link k) a) (sym w), (λ still. refl, λ same. refl))

pub touches_busy : (k : Connection) (inlets : List CountedLane) → ((k.hand ≡ []) × (k.passed ≡ None) → ⊥) → Touches k inlets NoAccess
touches_busy k inlets busy = λ here rows plan x link.
    ap (access_of_conn_ask (inlet_plan plan k) (record x { inlets = map plain_inlet inlets })) (waits scheme (inlet_plan plan k) (conn_of here rows link k) k.arrived (λ free. busy (free.0, none_passed here rows k.passed free.1)))

module _ (k m : Connection) (inlets : List CountedLane) (none : k.passed ≡ None) where
  asked : (here : PubKey) (rows : List Category) (plan : HostPlan) (link : List ℕ) (a : ConnAsk) → accept scheme (inlet_plan plan k) (plain_conn link None k) k.arrived ≡ a → asks here rows plan link k ≡ a
  asked here rows plan link a is = subst (λ (c : Conn). accept scheme (inlet_plan plan k) c k.arrived ≡ a) (free_is here rows link k none) is

  -- what it touches

  pub touches_waits : ((plan : HostPlan) (link : List ℕ) → accept scheme (inlet_plan plan k) (plain_conn link None k) k.arrived ≡ ConnWaits) → Touches k inlets NoAccess
  touches_waits is = λ here rows plan x link. ap (access_of_conn_ask (inlet_plan plan k) (record x { inlets = map plain_inlet inlets })) (asked here rows plan link ConnWaits (is plan link))

  pub touches_itself : ((plan : HostPlan) (link : List ℕ) → accept scheme (inlet_plan plan k) (plain_conn link None k) k.arrived ≡ ConnInternal (plain_conn link None m)) → Touches k inlets NoAccess
  touches_itself is = λ here rows plan x link. ap (access_of_conn_ask (inlet_plan plan k) (record x { inlets = map plain_inlet inlets })) (asked here rows plan link (ConnInternal (plain_conn link None m)) (is plan link))

  pub touches_number : (place number : ℕ)
      → ((plan : HostPlan) (link : List ℕ) → accept scheme (inlet_plan plan k) (plain_conn link None k) k.arrived ≡ AsksInlet place number (plain_conn link None (settled true m)) (plain_conn link None (settled false m)))
      → Touches k inlets (number_access place number (slice_get (map plain_inlet inlets) place))
  touches_number place number is = λ here rows plan x link.
      ap (access_of_conn_ask (inlet_plan plan k) (record x { inlets = map plain_inlet inlets })) (asked here rows plan link (AsksInlet place number (plain_conn link None (settled true m)) (plain_conn link None (settled false m))) (is plan link))

  -- what becomes of both

  pub accepts_waits : ((plan : HostPlan) (link : List ℕ) → accept scheme (inlet_plan plan k) (plain_conn link None k) k.arrived ≡ ConnWaits) → m ≡ k → Accepted Still k m inlets inlets
  accepts_waits is same = λ here rows plan x link.
      let w = asked here rows plan link ConnWaits (is plan link) in (
        ap (met here rows link x inlets) same ∙ ap (λ (a : ConnAsk). perform_conn scheme (inlet_plan plan k) (record x { inlets = map plain_inlet inlets }) (conn_of here rows link k) a) (sym w),
        (λ still. ap (met here rows link x inlets) same, λ alike. refl),
      )

  pub accepts_itself : ((plan : HostPlan) (link : List ℕ) → accept scheme (inlet_plan plan k) (plain_conn link None k) k.arrived ≡ ConnInternal (plain_conn link None m)) → m.passed ≡ None → Accepted Changed k m inlets inlets
  accepts_itself is free = λ here rows plan x link.
      let a = asked here rows plan link (ConnInternal (plain_conn link None m)) (is plan link) in
      let after = free_is here rows link m free in (
        ap (λ (c : Conn). record { host = record x { inlets = map plain_inlet inlets }; conn = c }) (sym after)
            ∙ ap (λ (q : ConnAsk). perform_conn scheme (inlet_plan plan k) (record x { inlets = map plain_inlet inlets }) (conn_of here rows link k) q) (sym a),
        (
          λ still. absurd cc,
          λ same. absurd (subst (Moving (conn_of here rows link k)) a (moving scheme (inlet_plan plan k) (conn_of here rows link k) k.arrived) (after ∙ ap conn_in same)),
        ),
      )

  -- by the inlet's answer
  pub accepts_number : (place number stamp : ℕ) (who : Actor)
      → ((plan : HostPlan) (link : List ℕ) → accept scheme (inlet_plan plan k) (plain_conn link None k) k.arrived ≡ AsksInlet place number (plain_conn link None (settled true m)) (plain_conn link None (settled false m)))
      → (settled true m).passed ≡ None → (settled false m).passed ≡ None
      → Accepted Changed k (settled (fresh_in number (slice_get (map plain_inlet inlets) place)) m) inlets (at place (counted stamp who number) inlets)
  accepts_number place number stamp who is fresh_free stale_free = λ here rows plan x link.
      let a = asked here rows plan link (AsksInlet place number (plain_conn link None (settled true m)) (plain_conn link None (settled false m))) (is plan link) in
      let both = subst (Moving (conn_of here rows link k)) a (moving scheme (inlet_plan plan k) (conn_of here rows link k) k.arrived) in
      let counts = map_over_at plain_inlet place (counted stamp who number) (numbered number) inlets (λ i h. refl) in (
        go here rows link x counts (fresh_in number (slice_get (map plain_inlet inlets) place))
            ∙ ap (λ (q : ConnAsk). perform_conn scheme (inlet_plan plan k) (record x { inlets = map plain_inlet inlets }) (conn_of here rows link k) q) (sym a),
        (
          λ still. absurd cc,
          λ same. absurd (by_answer here rows link (conn_of here rows link k) both (fresh_in number (slice_get (map plain_inlet inlets) place)) (ap conn_in same)),
        ),
      )
    where
      after : (here : PubKey) (rows : List Category) (link : List ℕ) (b : Bool) → conn_of here rows link (settled b m) ≡ (if b then plain_conn link None (settled true m) else plain_conn link None (settled false m))
      after here rows link true = sym (free_is here rows link (settled true m) fresh_free)
      after here rows link false = sym (free_is here rows link (settled false m) stale_free)

      go : (here : PubKey) (rows : List Category) (link : List ℕ) (x : Host) → map plain_inlet (at place (counted stamp who number) inlets) ≡ at place (numbered number) (map plain_inlet inlets) → (b : Bool)
          → met here rows link x (at place (counted stamp who number) inlets) (settled b m)
          ≡ record { host = record x { inlets = at place (numbered number) (map plain_inlet inlets) }; conn = if b then plain_conn link None (settled true m) else plain_conn link None (settled false m) }
      go here rows link x counts b = λ i. record { host = record x { inlets = counts i }; conn = after here rows link b i }

      by_answer : (here : PubKey) (rows : List Category) (link : List ℕ) (before : Conn) → (plain_conn link None (settled true m) ≡ before → ⊥) × (plain_conn link None (settled false m) ≡ before → ⊥)
          → (b : Bool) → conn_of here rows link (settled b m) ≡ before → ⊥
      by_answer here rows link before both true e = both.0 (sym (after here rows link true) ∙ e)
      by_answer here rows link before both false e = both.1 (sym (after here rows link false) ∙ e)

-- WHAT A CALL OF READ LEAVES

-- of a frame the lane was known before; what isn't read changes nothing, nor does what was broken before
abbrev AnswerFacts : Connection → Result Offer ReadEnd → Connection → Type 0
AnswerFacts k (Ok offers.Hello) m = Unit {0}
AnswerFacts k (Ok (offers.Frame inlet number)) m = m.reader.lane ≡ k.reader.lane
AnswerFacts k (Err ends.NotYet) m = m ≡ k
AnswerFacts k (Err (ends.BadFrame cause place)) m = (failure : Failure) → k.reader.failure ≡ Some failure → m ≡ k
AnswerFacts k (Err ends.NoMemory) m = m ≡ k

pub record ReadFacts (k : Connection) (r : Result Offer ReadEnd) (m : Connection) : Type 0 where
  pub who : m.who ≡ k.who
  pub here : m.here ≡ k.here
  pub inlets : m.inlets ≡ k.inlets
  pub arrived : m.arrived ≡ k.arrived
  pub hand : m.hand ≡ k.hand
  pub passed : m.passed ≡ k.passed
  pub lane : m.reader.lane ≡ None → k.reader.lane ≡ None
  pub answer : AnswerFacts k r m

no_lane : (lane : LaneCert) (o : Option LaneCert) → Some lane ≡ None → o ≡ None
no_lane lane o e = absurd cc

not_failed : (k : Connection) (m : Connection) → k.reader.failure ≡ None → (failure : Failure) → k.reader.failure ≡ Some failure → m ≡ k
not_failed k m none failure some = absurd (some_none failure k.reader.failure none (sym some))

seen_facts : (k : Connection) (x : Item) (rest : List ℕ) → ReadFacts k (seen_step k x rest).answer (seen_step k x rest).conn
seen_facts k (Hello lane) rest = record { who = refl; here = refl; inlets = refl; arrived = refl; hand = refl; passed = refl; lane = no_lane lane k.reader.lane; answer = tt }
seen_facts k (Framed number messages) rest = record { who = refl; here = refl; inlets = refl; arrived = refl; hand = refl; passed = refl; lane = λ none. none; answer = refl }

reading_facts : (k : Connection) (r : Result (Item × List ℕ) ReadFault) → k.reader.failure ≡ None → ReadFacts k (reading_step k r).answer (reading_step k r).conn
reading_facts k (Ok x) none = seen_facts k x.0 x.1
reading_facts k (Err Open) none = record { who = refl; here = refl; inlets = refl; arrived = refl; hand = refl; passed = refl; lane = λ l. l; answer = refl }
reading_facts k (Err (Broken cause offset)) none = record { who = refl; here = refl; inlets = refl; arrived = refl; hand = refl; passed = refl; lane = λ l. l; answer = not_failed k (reading_step k (Err (Broken cause offset))).conn none }

failed_facts : (k : Connection) (o : Option Failure) → k.reader.failure ≡ o → ReadFacts k (step_unless_failed o k).answer (step_unless_failed o k).conn
failed_facts k None none = reading_facts k (seen_reading k.here k.inlets k.reader.lane k.reader.rest) none
failed_facts k (Some failure) some = record { who = refl; here = refl; inlets = refl; arrived = refl; hand = refl; passed = refl; lane = λ l. l; answer = λ f e. refl }

offered_facts : (k : Connection) (o : Option OfferedFrame) → ReadFacts k (step_unless_offered o k).answer (step_unless_offered o k).conn
offered_facts k None = failed_facts k k.reader.failure refl
offered_facts k (Some o) = record { who = refl; here = refl; inlets = refl; arrived = refl; hand = refl; passed = refl; lane = λ l. l; answer = refl }

pub read_facts : (k : Connection) (r : Result Offer ReadEnd) (m : Connection) → Reads k r m → ReadFacts k r m
read_facts k r m reads = go r reads
  where
    told : (q : Result Offer ReadEnd) → read_step k ≡ record { answer = q; conn = m } → ReadFacts k q m
    told q e = subst (λ (t : ReadStep). ReadFacts k t.answer t.conn) e (offered_facts k k.offered)

    go : (q : Result Offer ReadEnd) → Reads k q m → ReadFacts k q m
    go (Ok offer) e = told (Ok offer) e
    go (Err ends.NotYet) e = told (Err ends.NotYet) e
    go (Err (ends.BadFrame cause place)) e = told (Err (ends.BadFrame cause place)) e
    go (Err ends.NoMemory) e = subst (λ (c : Connection). ReadFacts k (Err ends.NoMemory) c) (sym e) (record { who = refl; here = refl; inlets = refl; arrived = refl; hand = refl; passed = refl; lane = λ l. l; answer = refl })

keeps_read : (k m : Connection) (r : Result Offer ReadEnd) → ReadFacts k r m → KeepsPassed k m
keeps_read k m r f = record { who = f.who; here = f.here; inlets = f.inlets; arrived = f.arrived; passed = f.passed; hello = λ first none. (f.hand ∙ (first (f.lane none)).0, f.passed ∙ (first (f.lane none)).1) }

-- after an offered frame was settled
data SettledFacts (m n : Connection) : Type 0 where
  AreSettled : n.who ≡ m.who → n.here ≡ m.here → n.inlets ≡ m.inlets → n.arrived ≡ m.arrived → n.passed ≡ m.passed → n.reader.lane ≡ m.reader.lane → SettledFacts m n

settled_facts : (m : Connection) (b : Bool) → SettledFacts m (settled b m)
settled_facts m b = go b m.offered
  where
    go : (b : Bool) (o : Option OfferedFrame) → SettledFacts m (settled_as b o m)
    go true None = AreSettled refl refl refl refl refl refl
    go false None = AreSettled refl refl refl refl refl refl
    go true (Some o) = AreSettled refl refl refl refl refl refl
    go false (Some o) = AreSettled refl refl refl refl refl refl

has_lane : (inlets : List InletName) (lane : Option LaneCert) (place : ℕ) → lane_inlet_of inlets lane ≡ Some place → lane ≡ None → ⊥
has_lane inlets None place e none = absurd cc
has_lane inlets (Some lane) place e none = absurd cc

keeps_settled : (k m : Connection) (r : Result Offer ReadEnd) (b : Bool) (place : ℕ) → ReadFacts k r m → lane_inlet_of m.inlets m.reader.lane ≡ Some place → KeepsPassed k (settled b m)
keeps_settled k m r b place f there = go (settled b m) (settled_facts m b)
  where
    go : (n : Connection) → SettledFacts m n → KeepsPassed k n
    go n (AreSettled who here inlets arrived passed lane) =
        record { who = who ∙ f.who; here = here ∙ f.here; inlets = inlets ∙ f.inlets; arrived = arrived ∙ f.arrived; passed = passed ∙ f.passed; hello = λ first none. absurd (has_lane m.inlets m.reader.lane place there (sym lane ∙ none)) }

free_settled : (m : Connection) (b : Bool) → m.passed ≡ None → (settled b m).passed ≡ None
free_settled m b none = go (settled b m) (settled_facts m b)
  where
    go : (n : Connection) → SettledFacts m n → n.passed ≡ None
    go n (AreSettled who here inlets arrived passed lane) = passed ∙ none

-- THE NEXT ITEM

keeps_all : (k : Connection) → KeepsPassed k k
keeps_all k = record { who = refl; here = refl; inlets = refl; arrived = refl; passed = refl; hello = λ h. h }

pub next_busy : (stamp : ℕ) (k : Connection) (inlets : List CountedLane) → ((k.hand ≡ []) × (k.passed ≡ None) → ⊥) → IsNext Still stamp k k inlets inlets
next_busy stamp k inlets busy = record { accepted = accepts_busy k inlets busy; keeps = keeps_all k; counts = inl (refl, touches_busy k inlets busy); still = λ s. (refl, refl) }

module _ (stamp : ℕ) (k m : Connection) (inlets : List CountedLane) (none : k.passed ≡ None) where
  -- what a call of read says of the plain world's accept
  abbrev pub Says : Result Offer ReadEnd → Type 0
  Says r = (s : Scheme) (plan : HostPlan) (link : List ℕ) → Accepts link k.reader.failure r m (accept (inlet_scheme s) (inlet_plan plan k) (plain_conn link None k) k.arrived)

  pub next_hello : Reads k (Ok offers.Hello) m → Says (Ok offers.Hello) → IsNext Changed stamp k m inlets inlets
  next_hello reads says =
      let f = read_facts k (Ok offers.Hello) m reads in
      record { accepted = accepts_itself k m inlets none (λ plan link. says scheme plan link) (f.passed ∙ none); keeps = keeps_read k m (Ok offers.Hello) f; counts = inl (refl, touches_itself k m inlets none (λ plan link. says scheme plan link)); still = λ s. absurd cc }

  pub next_frame : (place number : ℕ) → Reads k (Ok (offers.Frame place number)) m → Says (Ok (offers.Frame place number)) → lane_inlet_of m.inlets m.reader.lane ≡ Some place
      → IsNext Changed stamp k (settled (fresh_in number (slice_get (map plain_inlet inlets) place)) m) inlets (at place (counted stamp m.who number) inlets)
  next_frame place number reads says there =
      let f = read_facts k (Ok (offers.Frame place number)) m reads in
      let free = f.passed ∙ none in
      record {
        accepted = accepts_number k m inlets none place number stamp m.who (λ plan link. says scheme plan link) (free_settled m true free) (free_settled m false free);
        keeps = keeps_settled k m (Ok (offers.Frame place number)) (fresh_in number (slice_get (map plain_inlet inlets) place)) place f there;
        counts = inr (place, number, ap (λ (who : Actor). at place (counted stamp who number) inlets) f.who, touches_number k m inlets none place number (λ plan link. says scheme plan link));
        still = λ s. absurd cc;
      }

  pub next_open : Reads k (Err ends.NotYet) m → Says (Err ends.NotYet) → IsNext Still stamp k m inlets inlets
  next_open reads says =
      let f = read_facts k (Err ends.NotYet) m reads in
      record { accepted = accepts_waits k m inlets none (λ plan link. says scheme plan link) f.answer; keeps = keeps_read k m (Err ends.NotYet) f; counts = inl (refl, touches_waits k m inlets none (λ plan link. says scheme plan link)); still = λ s. (f.answer, refl) }

  pub next_fails : (cause : Cause) (place : ℕ) → is_some k.reader.failure ≡ false → Reads k (Err (ends.BadFrame cause place)) m → Says (Err (ends.BadFrame cause place)) → IsNext Changed stamp k m inlets inlets
  next_fails cause place fine reads says = go k.reader.failure refl fine
    where
      go : (o : Option Failure) → k.reader.failure ≡ o → is_some o ≡ false → IsNext Changed stamp k m inlets inlets
      go (Some failure) is t = absurd cc
      go None is t =
          let f = read_facts k (Err (ends.BadFrame cause place)) m reads in
          record {
            accepted = accepts_itself k m inlets none (λ plan link. subst (λ (o : Option Failure). FailsOnce link o m (accept scheme (inlet_plan plan k) (plain_conn link None k) k.arrived)) is (says scheme plan link)) (f.passed ∙ none);
            keeps = keeps_read k m (Err (ends.BadFrame cause place)) f;
            counts = inl (refl, touches_itself k m inlets none (λ plan link. subst (λ (o : Option Failure). FailsOnce link o m (accept scheme (inlet_plan plan k) (plain_conn link None k) k.arrived)) is (says scheme plan link)));
            still = λ s. absurd cc;
          }

-- what an inlet's call says of a number
pub fresh_at : (number : ℕ) (inlets : List CountedLane) (place : ℕ) (i : CountedLane) → slice_get inlets place ≡ Some i → is_fresh number i.number ≡ true → true ≡ fresh_in number (slice_get (map plain_inlet inlets) place)
fresh_at number inlets place i there fresh = sym (ap (fresh_in number) (slice_get-map plain_inlet inlets place ∙ ap (option_map plain_inlet) there) ∙ fresh)

pub stale_at : (number last : ℕ) (inlets : List CountedLane) (place : ℕ) (i : CountedLane) → slice_get inlets place ≡ Some i → (i.number ≡ Some last) × (nat_lt last number ≡ false) → false ≡ fresh_in number (slice_get (map plain_inlet inlets) place)
stale_at number last inlets place i there stale = sym (ap (fresh_in number) (slice_get-map plain_inlet inlets place ∙ ap (option_map plain_inlet) there) ∙ (ap (is_fresh number) stale.0 ∙ stale.1))

-- the same of an answer by what it is
module _ (stamp : ℕ) (k m : Connection) (inlets : List CountedLane) (none : k.passed ≡ None) where
  pub hello_is : (offer : Offer) → offer ≡ offers.Hello → Reads k (Ok offer) m → Says stamp k m inlets none (Ok offer) → IsNext Changed stamp k m inlets inlets
  hello_is offer is reads says = next_hello stamp k m inlets none (subst (λ (o : Offer). Reads k (Ok o) m) is reads) (subst (λ (o : Offer). Says stamp k m inlets none (Ok o)) is says)

  pub frame_is : (offer : Offer) (place number : ℕ) (n : Connection) (later : List CountedLane) → offer ≡ offers.Frame place number → Reads k (Ok offer) m → Says stamp k m inlets none (Ok offer) → IsForLane offer (lane_inlet_of m.inlets m.reader.lane)
      → n ≡ settled (fresh_in number (slice_get (map plain_inlet inlets) place)) m → later ≡ at place (counted stamp m.who number) inlets → IsNext Changed stamp k n inlets later
  frame_is offer place number n later is reads says for after counts =
      let r = subst (λ (o : Offer). Reads k (Ok o) m) is reads in
      let s = subst (λ (o : Offer). Says stamp k m inlets none (Ok o)) is says in
      let there = subst (λ (o : Offer). IsForLane o (lane_inlet_of m.inlets m.reader.lane)) is for in
      subst (λ (c : Connection). IsNext Changed stamp k c inlets later) (sym after)
      (subst (λ (is : List CountedLane). IsNext Changed stamp k (settled (fresh_in number (slice_get (map plain_inlet inlets) place)) m) inlets is) (sym counts) (next_frame stamp k m inlets none place number r s there))

  pub open_is : (end : ReadEnd) → end ≡ ends.NotYet → Reads k (Err end) m → Says stamp k m inlets none (Err end) → IsNext Still stamp k m inlets inlets
  open_is end is reads says = next_open stamp k m inlets none (subst (λ (o : ReadEnd). Reads k (Err o) m) is reads) (subst (λ (o : ReadEnd). Says stamp k m inlets none (Err o)) is says)

  pub fails_is : (end : ReadEnd) (cause : Cause) (place : ℕ) → end ≡ ends.BadFrame cause place → is_some k.reader.failure ≡ false → Reads k (Err end) m → Says stamp k m inlets none (Err end) → IsNext Changed stamp k m inlets inlets
  fails_is end cause place is fine reads says = next_fails stamp k m inlets none cause place fine (subst (λ (o : ReadEnd). Reads k (Err o) m) is reads) (subst (λ (o : ReadEnd). Says stamp k m inlets none (Err o)) is says)
