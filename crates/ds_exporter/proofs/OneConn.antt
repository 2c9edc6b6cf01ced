-- A change of one connection.
use Rattle.std.proofs.Common.{◌≡◌, ℕ, suc, ◌<◌, List, [], ◌∷◌, ◌++◌, Some, length, slice_get, option_map, refl, sym, ap, ◌∙◌, subst, arith}
use Rattle.std.specs.Prelude.{◌==◌, Bool, true, map}
use Rattle.std.proofs.lemmas.Bool.Decides.{nat_tests}
use Rattle.std.proofs.lemmas.List.{append-nil}
use Rattle.std.proofs.lemmas.Option.{slice_get-map, get_or_from_slice_get}
use Rattle.ds_script.specs.declared.actor.Actor.{Actor}
use Rattle.ds_model.specs.Lists.{at}
use Rattle.ds_model.specs.ConnectionStep.{arrive}
use Rattle.ds_model.proofs.Places.{at_here, at_still}
use Rattle.ds_inlet.specs.Connections.{Connection, arrived_more}
use Rattle.ds_inlet.proofs.PlainCalls.{plain_arrival}
use Rattle.ds_exporter.specs.HostStates.{HostState}
use Rattle.ds_exporter.specs.PlainHosts.{arrived_at, arrived_of, conn_at, conn_of, name_of_inlet, no_conn, plain_passed}
use Rattle.ds_exporter.specs.Conditions.{IsFit, IsConnOf, LeadsTo, IsConnNamed, PassedHasBox, HasHelloFirst}
use Rattle.ds_exporter.specs.Stamping.{IsBefore}
use Rattle.ds_exporter.proofs.Places.{all_at, pairs_at, there_is}
use Rattle.ds_exporter.proofs.Stamps.{below_more}

-- what a connection keeps of itself in a change
pub record Keeps (e : HostState) (k m : Connection) : Type 0 where
  pub who : m.who ≡ k.who
  pub here : m.here ≡ k.here
  pub inlets : m.inlets ≡ k.inlets
  pub named : IsConnNamed e.desk.here e.desk.desk.rows k → IsConnNamed e.desk.here e.desk.desk.rows m
  pub passed : PassedHasBox e.boxes k → PassedHasBox e.boxes m
  pub hello : HasHelloFirst k → HasHelloFirst m

abbrev comes_before : Actor → Actor → Type 0
comes_before a b = a.index < b.index

abbrev who_of : Connection → Actor
who_of k = k.who

of_host : (host : ℕ) (k m : Connection) → m.who ≡ k.who → IsConnOf host k → IsConnOf host m
of_host host k m same is = record { kind = ap (λ (a : Actor). a.kind) same ∙ is.kind; at = ap (λ (a : Actor). a.host) same ∙ is.at }

pub fits_conn : (e : HostState) (i : ℕ) (f : Connection → Connection) → IsFit e → ((k : Connection) → slice_get e.conns i ≡ Some k → Keeps e k (f k)) → IsFit (record e { conns = at i f e.conns })
fits_conn e i f fit keeps = record {
  desk = fit.desk;
  place = fit.place;
  few = fit.few;
  slots = fit.slots;
  lanes = fit.lanes;
  inlets = fit.inlets;
  owners = fit.owners;
  scripts = fit.scripts;
  lane_actors = fit.lane_actors;
  conn_actors = all_at (IsConnOf e.host) i f e.conns (λ k h is. of_host e.host k (f k) (keeps k h).who is) fit.conn_actors;
  order = pairs_at comes_before who_of i f e.conns (λ k h. (keeps k h).who) fit.order;
  certs = fit.certs;
  conns = all_at (LeadsTo e.desk.here (map name_of_inlet e.inlets)) i f e.conns (λ k h is. record { here = (keeps k h).here ∙ is.here; inlets = (keeps k h).inlets ∙ is.inlets }) fit.conns;
  named_procs = fit.named_procs;
  named_boxes = fit.named_boxes;
  named_conns = all_at (IsConnNamed e.desk.here e.desk.desk.rows) i f e.conns (λ k h is. (keeps k h).named is) fit.named_conns;
  usable = fit.usable;
  hands = fit.hands;
  going = fit.going;
  passed = all_at (PassedHasBox e.boxes) i f e.conns (λ k h is. (keeps k h).passed is) fit.passed;
  hellos = all_at HasHelloFirst i f e.conns (λ k h is. (keeps k h).hello is) fit.hellos;
}

-- BYTES ARRIVE

abbrev pub with_bytes : ℕ → List ℕ → HostState → HostState
with_bytes i piece e = record e { conns = at i (arrived_more piece) e.conns }

pub fits_arrived : (e : HostState) (i : ℕ) (piece : List ℕ) → IsFit e → IsFit (with_bytes i piece e)
fits_arrived e i piece fit = fits_conn e i (arrived_more piece) fit (λ k h. record { who = refl; here = refl; inlets = refl; named = λ n. n; passed = λ p. p; hello = λ h. h })

pub below_conns : (n : ℕ) (e : HostState) (conns : List Connection) → IsBefore n e → IsBefore (suc n) (record e { conns = conns })
below_conns n e conns b = record { desk = more.desk; boxes = more.boxes; lanes = more.lanes; inlets = more.inlets }
  where
    more : IsBefore (suc n) e
    more = subst (λ m. IsBefore m e) (omega arith) (below_more n e b)

-- what stands at a place, where one does
pub conn_stands : (e : HostState) (link : List ℕ) (i : ℕ) (k : Connection) → slice_get e.conns i ≡ Some k → conn_at link i e ≡ conn_of e.desk.here e.desk.desk.rows link k
conn_stands e link i k h =
    get_or_from_slice_get (map (conn_of e.desk.here e.desk.desk.rows link) e.conns) i (conn_of e.desk.here e.desk.desk.rows link k) no_conn
    (slice_get-map (conn_of e.desk.here e.desk.desk.rows link) e.conns i ∙ ap (option_map (conn_of e.desk.here e.desk.desk.rows link)) h)

pub arrived_stands : (e : HostState) (i : ℕ) (k : Connection) → slice_get e.conns i ≡ Some k → arrived_at i e ≡ k.arrived
arrived_stands e i k h = get_or_from_slice_get (map arrived_of e.conns) i k.arrived [] (slice_get-map arrived_of e.conns i ∙ ap (option_map arrived_of) h)

plain_arrived : (e : HostState) (i : ℕ) (piece : List ℕ) (k : Connection) (link later : List ℕ) → slice_get e.conns i ≡ Some k → link ≡ (k.arrived ++ piece) ++ later
    → conn_at link i (with_bytes i piece e) ≡ arrive link (length piece) (conn_at link i e)
plain_arrived e i piece k link later stands whole =
    conn_stands (with_bytes i piece e) link i (arrived_more piece k) (at_here i (arrived_more piece) e.conns ∙ ap (option_map (arrived_more piece)) stands)
    ∙ (plain_arrival link piece later (plain_passed e.desk.here e.desk.desk.rows k.passed) k whole
    ∙ ap (arrive link (length piece)) (sym (conn_stands e link i k stands)))

pub seen_arrived : (e : HostState) (i : ℕ) (piece link later : List ℕ) → i < length e.conns → link ≡ (arrived_at i e ++ piece) ++ later
    → conn_at link i (with_bytes i piece e) ≡ arrive link (length piece) (conn_at link i e)
seen_arrived e i piece link later within whole = there_is (conn_at link i (with_bytes i piece e) ≡ arrive link (length piece) (conn_at link i e)) e.conns i within
    (λ k h. plain_arrived e i piece k link later h (whole ∙ ap (λ (bytes : List ℕ). (bytes ++ piece) ++ later) (arrived_stands e i k h)))

-- no byte changes nothing
pub no_byte : (e : HostState) (i : ℕ) → with_bytes i [] e ≡ e
no_byte e i = ap (λ (conns : List Connection). record e { conns = conns }) (at_still i (arrived_more []) e.conns (λ k h. none k))
  where
    none : (k : Connection) → arrived_more [] k ≡ k
    none k = λ j. record k { arrived = append-nil k.arrived j; reader = record k.reader { rest = append-nil k.reader.rest j } }

none_arrived : (e : HostState) (i : ℕ) (piece : List ℕ) → piece ≡ [] → with_bytes i piece e ≡ e
none_arrived e i piece none = subst (λ (p : List ℕ). with_bytes i p e ≡ e) (sym none) (no_byte e i)

-- whether there is a byte, as the code asks
no_bytes : (piece : List ℕ) (b : Bool) → b ≡ (length piece == 0) → b ≡ true → piece ≡ []
no_bytes [] b e t = refl
no_bytes (x ∷ piece) b e t = absurd (grind (arith, nat_tests))

pub still_none : (e : HostState) (i : ℕ) (piece : List ℕ) (b : Bool) → b ≡ (length piece == 0) → b ≡ true → e ≡ with_bytes i piece e
still_none e i piece b is none = sym (none_arrived e i piece (no_bytes piece b is none))

pub seen_none : (e : HostState) (i : ℕ) (piece link later : List ℕ) (b : Bool) → b ≡ (length piece == 0) → b ≡ true → i < length e.conns → link ≡ (arrived_at i e ++ piece) ++ later
    → conn_at link i e ≡ arrive link (length piece) (conn_at link i e)
seen_none e i piece link later b is none within whole = ap (conn_at link i) (still_none e i piece b is none) ∙ seen_arrived e i piece link later within whole
