-- A change of one connection and of its host's inlets.
use Rattle.std.proofs.Common.{◌≡◌, ℕ, ◌+◌, ◌<◌, List, Some, length, map, slice_get, option_map, refl, sym, ap, ◌∙◌, subst, arith, inl, inr}
use Rattle.std.specs.Prelude.{◌≢◌, All, AllPairs}
use Rattle.ds_script.proofs.Replays.{last_of-push}
use Rattle.ds_model.specs.Lists.{at}
use Rattle.ds_model.specs.Scheme.{InletName}
use Rattle.ds_model.specs.World.{Conn}
use Rattle.ds_model.specs.Inlet.{number_entry}
use Rattle.ds_model.specs.ConnectionStep.{accept}
use Rattle.ds_model.specs.Step.{perform_conn}
use Rattle.ds_model.specs.Access.{Access, NoAccess, access_of_conn_ask, number_access}
use Rattle.ds_model.proofs.Places.{at_here, at_other, at_still}
use Rattle.ds_inlet.specs.Inlets.{CountedLane, entry_of, stamp_of}
use Rattle.ds_inlet.specs.Connections.{Connection}
use Rattle.ds_inlet.specs.Accepting.{inlet_plan}
use Rattle.ds_scheme.specs.TheScheme.{scheme}
use Rattle.ds_exporter.specs.declared.moved.Moved.{Moved}
use Rattle.ds_exporter.specs.declared.moved.Moved.TheVariants.{Still}
use Rattle.ds_exporter.specs.HostStates.{HostState}
use Rattle.ds_exporter.specs.PlainHosts.{arrived_at, arrived_of, conn_at, conn_of, ends_of, host_of, name_of_inlet, plain_inlet, site_of}
use Rattle.ds_exporter.specs.Conditions.{IsFit, IsPassedNamed, HasBox, AreTwoInlets, LeadsTo}
use Rattle.ds_exporter.specs.Stamping.{IsBefore, IsInletBefore, IsUpTo}
use Rattle.ds_exporter.specs.Moving.{Moves}
use Rattle.ds_exporter.specs.Entering.{Enters, accept_access}
use Rattle.ds_exporter.specs.Accepting.{IsCounted, IsNext, IsNextAt, KeepsPassed, Touches, counted, met}
use Rattle.ds_exporter.proofs.Entering.{enters_beside, enters_by, enters_nothing, enters_number}
use Rattle.ds_exporter.proofs.Places.{all_at_to, all_get, map_kept_at, pairs_at, some_is, there_is}
use Rattle.ds_exporter.proofs.Stamps.{all_more, below_more, below_suc}
use Rattle.ds_exporter.proofs.OneConn.{Keeps, fits_conn, conn_stands, arrived_stands}

-- COUNTED INLETS

abbrev are_two : InletName → InletName → Type 0
are_two a b = a.exporter ≡ b.exporter → a.lane ≢ b.lane

module _ (stamp : ℕ) (k : Connection) (before after : List CountedLane) where
  pub names_counted : IsCounted stamp k before after → map name_of_inlet after ≡ map name_of_inlet before
  names_counted (inl same) = ap (map name_of_inlet) same.0
  names_counted (inr (place, number, is, touch)) = ap (map name_of_inlet) is ∙ map_kept_at name_of_inlet place (counted stamp k.who number) before (λ i h. refl)

  pairs_counted : IsCounted stamp k before after → AllPairs AreTwoInlets before → AllPairs AreTwoInlets after
  pairs_counted (inl same) pairs = subst (AllPairs AreTwoInlets) (sym same.0) pairs
  pairs_counted (inr (place, number, is, touch)) pairs = subst (AllPairs AreTwoInlets) (sym is) (pairs_at are_two name_of_inlet place (counted stamp k.who number) before (λ i h. refl) pairs)

  last_counted : (number : ℕ) (i : CountedLane) → IsInletBefore (stamp + 1) (counted stamp k.who number i)
  last_counted number i =
      subst (λ (n : ℕ). n < stamp + 1) (sym (last_of-push stamp_of i.before i.history (entry_of stamp k.who (number_entry number i.number)))) (omega arith)

  below_counted : IsCounted stamp k before after → All (IsInletBefore stamp) before → All (IsInletBefore (stamp + 1)) after
  below_counted (inl same) below = subst (All (IsInletBefore (stamp + 1))) (sym same.0) (all_more (IsInletBefore stamp) (IsInletBefore (stamp + 1)) before (λ i b. below_suc stamp _ b) below)
  below_counted (inr (place, number, is, touch)) below = subst (All (IsInletBefore (stamp + 1))) (sym is)
      (all_at_to (IsInletBefore stamp) (IsInletBefore (stamp + 1)) place (counted stamp k.who number) before (λ i b. below_suc stamp _ b) (λ i h b. last_counted number i) below)

-- THE HOST

abbrev pub with_next : ℕ → Connection → List CountedLane → HostState → HostState
with_next place m inlets e = record e { conns = at place (λ _. m) e.conns; inlets = inlets }

keeps_passed : (e : HostState) (k m : Connection) → KeepsPassed k m → Keeps e k m
keeps_passed e k m keeps = record {
  who = keeps.who;
  here = keeps.here;
  inlets = keeps.inlets;
  named = λ n. subst (IsPassedNamed e.desk.here e.desk.desk.rows) (sym keeps.passed) n;
  passed = λ p. subst (HasBox e.boxes) (sym keeps.passed) p;
  hello = keeps.hello;
}

module _ (e : HostState) (place stamp : ℕ) (moved : Moved) (k m : Connection) (later : List CountedLane) (stands : slice_get e.conns place ≡ Some k) (next : IsNext moved stamp k m e.inlets later) where
  only : (x : Connection) → slice_get e.conns place ≡ Some x → x ≡ k
  only x h = some_is x k (sym h ∙ stands)

  names : map name_of_inlet later ≡ map name_of_inlet e.inlets
  names = names_counted stamp k e.inlets later next.counts

  pub fits_next : IsFit e → IsFit (with_next place m later e)
  fits_next fit =
      let f = fits_conn e place (λ _. m) fit (λ x h. subst (λ (y : Connection). Keeps e y m) (sym (only x h)) (keeps_passed e k m next.keeps)) in
      record {
        desk = f.desk;
        place = f.place;
        few = f.few;
        slots = f.slots;
        lanes = f.lanes;
        inlets = pairs_counted stamp k e.inlets later next.counts f.inlets;
        owners = f.owners;
        scripts = f.scripts;
        lane_actors = f.lane_actors;
        conn_actors = f.conn_actors;
        order = f.order;
        certs = f.certs;
        conns = subst (λ (ns : List InletName). All (LeadsTo e.desk.here ns) (at place (λ _. m) e.conns)) (sym names) f.conns;
        named_procs = f.named_procs;
        named_boxes = f.named_boxes;
        named_conns = f.named_conns;
        usable = f.usable;
        hands = f.hands;
        going = f.going;
        passed = f.passed;
        hellos = f.hellos;
      }

  pub site_next : site_of (with_next place m later e) ≡ site_of e
  site_next = ap (λ (ns : List InletName). record (site_of e) { inlets = ns }) names

  pub below_next : IsBefore stamp e → IsUpTo stamp (with_next place m later e)
  below_next b =
      let more = below_more stamp e b in
      record { desk = more.desk; boxes = more.boxes; lanes = more.lanes; inlets = below_counted stamp k e.inlets later next.counts b.inlets }

  pub still_next : moved ≡ Still → with_next place m later e ≡ e
  still_next still =
      let same = next.still still in
      let conns = at_still place (λ _. m) e.conns (λ x h. same.0 ∙ sym (only x h)) in
      λ i. record e { conns = conns i; inlets = same.1 i }

  pub arrived_next : map arrived_of (with_next place m later e).conns ≡ map arrived_of e.conns
  arrived_next = map_kept_at arrived_of place (λ _. m) e.conns (λ x h. next.keeps.arrived ∙ ap arrived_of (sym (only x h)))

  before : (link : List ℕ) → met e.desk.here e.desk.desk.rows link (host_of e) e.inlets k ≡ ends_of link place e
  before link = ap (λ (c : Conn). record { host = host_of e; conn = c }) (sym (conn_stands e link place k stands))

  after : (link : List ℕ) → met e.desk.here e.desk.desk.rows link (host_of e) later m ≡ ends_of link place (with_next place m later e)
  after link = ap (λ (c : Conn). record { host = host_of (with_next place m later e); conn = c })
      (sym (conn_stands (with_next place m later e) link place m (at_here place (λ _. m) e.conns ∙ ap (option_map (λ _. m)) stands)))

  pub moves_next : IsFit e → (link : List ℕ) → Moves moved (ends_of link place e) (ends_of link place (with_next place m later e))
      (perform_conn scheme (site_of e) (host_of e) (conn_at link place e) (accept scheme (site_of e) (conn_at link place e) (arrived_at place e)))
  moves_next fit link =
      let lead = all_get (LeadsTo e.desk.here (map name_of_inlet e.inlets)) e.conns place k fit.conns stands in
      let plan : inlet_plan (site_of e) k ≡ site_of e = λ i. record (site_of e) { key = lead.here i; inlets = lead.inlets i } in
      let c = conn_stands e link place k stands in
      let bytes = arrived_stands e place k stands in
      let performed : perform_conn scheme (inlet_plan (site_of e) k) (host_of e) (conn_of e.desk.here e.desk.desk.rows link k) (accept scheme (inlet_plan (site_of e) k) (conn_of e.desk.here e.desk.desk.rows link k) k.arrived)
      ≡ perform_conn scheme (site_of e) (host_of e) (conn_at link place e) (accept scheme (site_of e) (conn_at link place e) (arrived_at place e))
      = λ i. perform_conn scheme (plan i) (host_of e) (sym c i) (accept scheme (plan i) (sym c i) (sym bytes i)) in
      let a = next.accepted e.desk.here e.desk.desk.rows (site_of e) (host_of e) link in (
        sym (after link) ∙ (a.0 ∙ performed),
        (λ still. sym (after link) ∙ (a.1.0 still ∙ before link), λ same. a.1.1 (after link ∙ (same ∙ sym (before link)))),
      )

  -- what it touches by its link's stream is what was counted
  enters_counted : (conns : List Connection) → IsCounted stamp k e.inlets later → (access : Access) → ((touch : Access) → Touches k e.inlets touch → access ≡ touch) → Enters stamp k.who access e (record e { conns = conns; inlets = later })
  enters_counted conns (inl same) access by =
      enters_by stamp k.who access NoAccess e (record e { conns = conns; inlets = later }) (by NoAccess same.1)
      (subst (λ (inlets : List CountedLane). Enters stamp k.who NoAccess e (record e { conns = conns; inlets = inlets })) (sym same.0) (enters_beside stamp k.who NoAccess e e e.procs conns (enters_nothing stamp k.who e)))
  enters_counted conns (inr (p, number, is, touches)) access by =
      let touch = number_access p number (slice_get (map plain_inlet e.inlets) p) in
      enters_by stamp k.who access touch e (record e { conns = conns; inlets = later }) (by touch touches)
      (subst (λ (inlets : List CountedLane). Enters stamp k.who touch e (record e { conns = conns; inlets = inlets })) (sym is)
      (enters_beside stamp k.who touch e (record e { inlets = at p (counted stamp k.who number) e.inlets }) e.procs conns (enters_number stamp k.who e p number)))

  pub enters_next : IsFit e → (link : List ℕ) (conns : List Connection) → Enters stamp k.who (accept_access link place e) e (record e { conns = conns; inlets = later })
  enters_next fit link conns =
      let lead = all_get (LeadsTo e.desk.here (map name_of_inlet e.inlets)) e.conns place k fit.conns stands in
      let plan : site_of e ≡ inlet_plan (site_of e) k = λ i. record (site_of e) { key = sym lead.here i; inlets = sym lead.inlets i } in
      let c = conn_stands e link place k stands in
      let bytes = arrived_stands e place k stands in
      let same : accept_access link place e ≡ access_of_conn_ask (inlet_plan (site_of e) k) (host_of e) (accept scheme (inlet_plan (site_of e) k) (conn_of e.desk.here e.desk.desk.rows link k) k.arrived)
      = λ i. access_of_conn_ask (plan i) (host_of e) (accept scheme (plan i) (c i) (bytes i)) in
      enters_counted conns next.counts (accept_access link place e) (λ touch touches. same ∙ touches e.desk.here e.desk.desk.rows (site_of e) (host_of e) link)

-- of the connection at a place, as the code's call says
module _ (e : HostState) (place stamp : ℕ) (moved : Moved) (conns : List Connection) (later : List CountedLane) (within : place < length e.conns) (next : IsNextAt moved stamp place e.conns conns e.inlets later) where
  abbrev after_all : HostState
  after_all = record e { conns = conns; inlets = later }

  by_one : (P : HostState → Type 0) → ((k m : Connection) → slice_get e.conns place ≡ Some k → IsNext moved stamp k m e.inlets later → P (with_next place m later e)) → P after_all
  by_one P f = there_is (P after_all) e.conns place within
      (λ k h. subst (λ (cs : List Connection). P (record e { conns = cs; inlets = later })) (sym (next k h).1) (f k (next k h).0 h (next k h).2))

  pub fits_all : IsFit e → IsFit after_all
  fits_all fit = by_one IsFit (λ k m h n. fits_next e place stamp moved k m later h n fit)

  pub site_all : site_of after_all ≡ site_of e
  site_all = by_one (λ (x : HostState). site_of x ≡ site_of e) (λ k m h n. site_next e place stamp moved k m later h n)

  pub below_all : IsBefore stamp e → IsUpTo stamp after_all
  below_all b = by_one (IsUpTo stamp) (λ k m h n. below_next e place stamp moved k m later h n b)

  pub still_all : moved ≡ Still → after_all ≡ e
  still_all still = by_one (λ (x : HostState). x ≡ e) (λ k m h n. still_next e place stamp moved k m later h n still)

  pub others_all : (other : ℕ) → other ≢ place → slice_get conns other ≡ slice_get e.conns other
  others_all other apart = by_one (λ (x : HostState). slice_get x.conns other ≡ slice_get e.conns other) (λ k m h n. at_other place other (λ _. m) e.conns apart)

  pub arrived_all : map arrived_of conns ≡ map arrived_of e.conns
  arrived_all = by_one (λ (x : HostState). map arrived_of x.conns ≡ map arrived_of e.conns) (λ k m h n. arrived_next e place stamp moved k m later h n)

  pub moves_all : IsFit e → (link : List ℕ) → Moves moved (ends_of link place e) (ends_of link place after_all)
      (perform_conn scheme (site_of e) (host_of e) (conn_at link place e) (accept scheme (site_of e) (conn_at link place e) (arrived_at place e)))
  moves_all fit link = by_one (λ (x : HostState). Moves moved (ends_of link place e) (ends_of link place x)
      (perform_conn scheme (site_of e) (host_of e) (conn_at link place e) (accept scheme (site_of e) (conn_at link place e) (arrived_at place e))))
      (λ k m h n. moves_next e place stamp moved k m later h n fit link)
