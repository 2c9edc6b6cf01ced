-- An exporter's actors may take turns over what its threads share.
use Rattle.std.proofs.Common.{◌≡◌, ℕ, suc, ◌+◌, ◌<◌, ◌≤◌, Bool, true, ◌&&◌, List, [], ◌∷◌, Option, Some, None, length, map, refl, sym, ap, ◌∙◌, subst, arith}
use Rattle.std.specs.Prelude.{◌==◌, ◌^◌, position, is_some, All}
use Rattle.std.specs.List.{AllByRecursion, AllZip}
use Rattle.std.proofs.lemmas.List.Elements.{All-from_recursion, recursion_from_All, All-head, All-tail}
use Rattle.std.proofs.lemmas.Bool.Decides.{nat_tests}
use Rattle.std.proofs.lemmas.Slice.Eq.{bytes_eq-Decides}
use Rattle.ds_label.specs.declared.category.PubKey.{PubKey}
use Rattle.ds_label.specs.declared.category.Category.{Category}
use Rattle.ds_label.specs.Flow.{same_label}
use Rattle.ds_label.specs.Names.{by_name}
use Rattle.ds_label.proofs.Flows.{same_label-refl}
use Rattle.ds_label.proofs.Namings.{names}
use Rattle.ds_cert.specs.declared.lane.LaneCert.{LaneCert}
use Rattle.ds_script.specs.declared.op.Op.{Op}
use Rattle.ds_script.specs.declared.op.Op.TheVariants as ops
use Rattle.ds_script.specs.Process.{Process}
use Rattle.ds_msg.specs.declared.message.Message.{Message}
use Rattle.ds_msg.specs.declared.local.LocalMessage.{LocalMessage}
use Rattle.ds_model.specs.Keys.{same_key}
use Rattle.ds_lane.specs.Lanes.{IsOn}
use Rattle.ds_inlet.specs.Connections.{Connection}
use Rattle.ds_actor.specs.Asks.{IsAmongHosts}
use Rattle.ds_actor.specs.Sites.{BoxSite, SitePlan, is_lane_for}
use Rattle.ds_exporter.specs.declared.parts.ExporterParts.{ExporterParts}
use Rattle.ds_exporter.specs.HostStates.{HostBox, HostLane, HostProcess, HostState, state_of}
use Rattle.ds_exporter.specs.Conditions.{AreNumbered, HandHasLane, HasLane, HasMore, IsFit, IsGoing, IsLaneOf, OpReaches, Reaches, PassedHasBox, HasHelloFirst, IsNumbered}
use Rattle.ds_exporter.specs.Conditions as fit
use Rattle.ds_exporter.specs.Sites.{box_site, cert_of, fixed_in}
use Rattle.ds_exporter.specs.PlainHosts.{name_of_inlet}
use Rattle.ds_exporter.proofs.Queues.{position_seen}
use Rattle.ds_turn.specs.declared.node.Node.{Node}
use Rattle.ds_turn.specs.declared.node.BoxSeat.{BoxSeat}
use Rattle.ds_turn.specs.Nodes.{box_site as seat_site}
use Rattle.ds_turn.specs.ProcAsks.{HandFits, MayStep}
use Rattle.ds_turn.specs.ProcRecords.{ProcRecord, RoomyProc}
use Rattle.ds_turn.specs.LaneRecords.{LaneRecord, RoomyLane}
use Rattle.ds_turn.specs.ConnRecords.{ConnRecord, RoomyConn, fresh_conn}
use Rattle.ds_turn.specs.ConnTurns.{HasBox, LeadsTo}
use Rattle.ds_crew.specs.declared.crew.Crew.{Crew}
use Rattle.ds_crew.specs.Crews.{HasActorsOf, IsNodeOf, IsWorkerOf, MayTakeTurns, begun_lane, begun_proc, begun_procs, lane_in, link_in, proc_in}
use Rattle.ds_crew.proofs.Found.{found}

-- ---- processes

-- the hosts of an operation
hosts_of : (n : ℕ) (op : Op) → OpReaches n op → IsAmongHosts n op
hosts_of n (ops.Set reg text) r = tt
hosts_of n (ops.Join reg left right) r = tt
hosts_of n (ops.IfEq left right to) r = tt
hosts_of n (ops.Jump to) r = tt
hosts_of n (ops.Print reg) r = tt
hosts_of n (ops.Send host slot reg label own clear) r = r
hosts_of n (ops.Take reg slot) r = tt
hosts_of n (ops.SetLabel label) r = tt
hosts_of n (ops.NewCat kind) r = tt
hosts_of n (ops.Delegate reg category to from until) r = r
hosts_of n (ops.Map category) r = tt
hosts_of n (ops.Import reg) r = tt

-- a lane's message is for the lane
both : (a b : Bool) → a ≡ true → b ≡ true → (a && b) ≡ true
both a b p q = λ i. p i && q i

lane_is : (cert : LaneCert) (m : Message) → IsOn cert m → is_lane_for m.to m.label cert ≡ true
lane_is cert m on =
    both (same_key cert.receiver m.to) (same_label by_name cert.label m.label)
    (subst (λ (to : PubKey). same_key cert.receiver to ≡ true) (sym on.to) ((bytes_eq-Decides cert.receiver.0 cert.receiver.0).1 refl))
    (subst (λ (label : List Category). same_label by_name cert.label label ≡ true) (sym on.label) (same_label-refl by_name names cert.label))

hand_fits : (lanes : List HostLane) (p : Process) (hand : Option Message) → HasLane lanes hand → HasMore hand p.course.place (length p.script) → HandFits (map cert_of lanes) p hand
hand_fits lanes p None has more = tt
hand_fits lanes p (Some m) has more =
    let any = has.0 in
    let at = found (λ (l : HostLane). is_lane_for m.to m.label (cert_of l)) lanes any.0 any.1 any.2 any.3 (lane_is any.1.lane.cert m any.4) in
    record { place = at.0; lane = sym (position_seen cert_of (is_lane_for m.to m.label) lanes) ∙ at.1; range = any.4.range; going = more }

may_step : (e : HostState) (place : ℕ) (x : HostProcess) → place < 2 ^ 30 → Reaches (length e.keys) x → AreNumbered e.desk.here e.desk.desk.rows x → HandHasLane e.lanes x → IsGoing x
    → MayStep (fixed_in e) (begun_proc e.host place x)
may_step e place x within reaches numbered hand going = record {
  index = within;
  scripts = λ k d w. hosts_of (length e.keys) _ (reaches k d w);
  agreed = (e.desk.desk.rows, recursion_from_All (IsNumbered e.desk.here e.desk.desk.rows) x.process.names numbered);
  holds = hand_fits e.lanes x.process x.hand hand going;
}

all_may : (e : HostState) (place : ℕ) (xs : List HostProcess) → place + length xs ≤ 2 ^ 30 → All (Reaches (length e.keys)) xs → All (AreNumbered e.desk.here e.desk.desk.rows) xs → All (HandHasLane e.lanes) xs → All IsGoing xs
    → AllByRecursion (MayStep (fixed_in e)) (begun_procs e.host place xs)
all_may e place [] few reaches numbered hands going = tt
all_may e place (x ∷ xs) few reaches numbered hands going = (
  may_step e place x (omega (arith, few)) (All-head (Reaches (length e.keys)) x xs reaches) (All-head (AreNumbered e.desk.here e.desk.desk.rows) x xs numbered)
      (All-head (HandHasLane e.lanes) x xs hands) (All-head IsGoing x xs going),
  all_may e (suc place) xs (omega (arith, few)) (All-tail (Reaches (length e.keys)) x xs reaches) (All-tail (AreNumbered e.desk.here e.desk.desk.rows) x xs numbered)
      (All-tail (HandHasLane e.lanes) x xs hands) (All-tail IsGoing x xs going),
)

procs_may : (site : SitePlan) (bs : List ProcRecord) (rs : List RoomyProc) → map proc_in rs ≡ bs → AllByRecursion (MayStep site) bs → AllByRecursion (λ r. MayStep site r.proc) rs
procs_may site bs [] is may = tt
procs_may site [] (r ∷ rs) is may = absurd cc
procs_may site (b ∷ bs) (r ∷ rs) is may =
    let here : r.proc ≡ b = cc in
    let rest : map proc_in rs ≡ bs = cc in
    (subst (MayStep site) (sym here) may.0, procs_may site bs rs rest may.1)

-- ---- lanes' workers

workers_fit : (here : PubKey) (lanes : List HostLane) (ws : List RoomyLane) → map lane_in ws ≡ map begun_lane lanes → All (IsLaneOf here) lanes → AllZip IsWorkerOf (map cert_of lanes) ws
workers_fit here [] [] is fits = tt
workers_fit here [] (w ∷ ws) is fits = absurd cc
workers_fit here (l ∷ lanes) [] is fits = absurd cc
workers_fit here (l ∷ lanes) (w ∷ ws) is fits =
    let first : w.lane ≡ begun_lane l = cc in
    let rest : map lane_in ws ≡ map begun_lane lanes = cc in
    let cert : w.lane.worker.cert ≡ l.lane.cert = ap (λ (r : LaneRecord). r.worker.cert) first ∙ (All-head (IsLaneOf here) l lanes fits).one in (
      record { receiver = sym (ap (λ (c : LaneCert). c.receiver) cert); label = sym (ap (λ (c : LaneCert). c.label) cert) },
      workers_fit here lanes ws rest (All-tail (IsLaneOf here) l lanes fits),
    )

-- ---- connections

slot_is : (a b : ℕ) → a ≡ b → (a == b) ≡ true
slot_is a b e = grind (arith, nat_tests)

has_box : (boxes : List HostBox) (seats : List BoxSeat) → map seat_site seats ≡ map box_site boxes → (o : Option (ℕ × LocalMessage)) → fit.HasBox boxes o → HasBox seats o
has_box boxes seats is None has = tt
has_box boxes seats is (Some x) has =
    let test = λ (b : BoxSite). b.slot == x.0 in
    let at = found (λ (b : HostBox). test (box_site b)) boxes has.0 has.1 has.2 has.3 (slot_is has.1.slot x.0 has.4) in
    ap is_some (position_seen seat_site test seats ∙ (ap (position test) is ∙ (sym (position_seen box_site test boxes) ∙ at.1)))

leads : (e : HostState) (n : Node) → IsNodeOf e n → (k : Connection) → fit.LeadsTo e.desk.here (map name_of_inlet e.inlets) k → PassedHasBox e.boxes k → HasHelloFirst k → LeadsTo n k
leads e n node k to passed hello = record {
  here = to.here ∙ sym (ap (λ (s : SitePlan). s.here) node.seen);
  inlets = to.inlets ∙ sym node.inlets;
  passed = has_box e.boxes n.boxes.items (ap (λ (s : SitePlan). s.boxes) node.seen) k.passed passed;
  hello = hello;
}

conns_lead : (e : HostState) (n : Node) → IsNodeOf e n → (ks : List Connection) (rs : List RoomyConn) → map link_in rs ≡ map fresh_conn ks
    → All (fit.LeadsTo e.desk.here (map name_of_inlet e.inlets)) ks → All (PassedHasBox e.boxes) ks → All HasHelloFirst ks → AllByRecursion (λ r. LeadsTo n r.link.conn) rs
conns_lead e n node ks [] is to passed hello = tt
conns_lead e n node [] (r ∷ rs) is to passed hello = absurd cc
conns_lead e n node (k ∷ ks) (r ∷ rs) is to passed hello =
    let here : r.link ≡ fresh_conn k = cc in
    let rest : map link_in rs ≡ map fresh_conn ks = cc in (
      subst (LeadsTo n) (sym (ap (λ (x : ConnRecord). x.conn) here)) (leads e n node k (All-head (fit.LeadsTo e.desk.here (map name_of_inlet e.inlets)) k ks to) (All-head (PassedHasBox e.boxes) k ks passed) (All-head HasHelloFirst k ks hello)),
      conns_lead e n node ks rs rest (All-tail (fit.LeadsTo e.desk.here (map name_of_inlet e.inlets)) k ks to) (All-tail (PassedHasBox e.boxes) k ks passed) (All-tail HasHelloFirst k ks hello),
    )

-- ---- all of them

from_first : (n most : ℕ) → n ≤ most → 0 + n ≤ most
from_first n most few = omega (arith, few)

may_turn : (e : HostState) (c : Crew) → IsFit e → IsNodeOf e c.node → HasActorsOf e c → MayTakeTurns c
may_turn e c fits node actors = record {
  procs = subst (λ (s : SitePlan). All (λ (r : RoomyProc). MayStep s r.proc) c.procs.items) (sym node.seen)
      (All-from_recursion (λ (r : RoomyProc). MayStep (fixed_in e) r.proc) c.procs.items
      (procs_may (fixed_in e) (begun_procs e.host 0 e.procs) c.procs.items actors.procs (all_may e 0 e.procs (from_first (length e.procs) (2 ^ 30) fits.few) fits.scripts fits.usable fits.hands fits.going)));
  lanes = subst (λ (certs : List LaneCert). AllZip IsWorkerOf certs c.lanes.items) (sym (ap (λ (s : SitePlan). s.lanes) node.seen))
      (workers_fit e.desk.here e.lanes c.lanes.items actors.lanes fits.certs);
  conns = All-from_recursion (λ (r : RoomyConn). LeadsTo c.node r.link.conn) c.conns.items
      (conns_lead e c.node node e.conns c.conns.items actors.conns fits.conns fits.passed fits.hellos);
}

-- so it is of an exporter of these parts
pub made_turn : (e : HostState) (p : ExporterParts) (c : Crew) → state_of p ≡ e → IsFit e → IsNodeOf (state_of p) c.node → HasActorsOf (state_of p) c → MayTakeTurns c
made_turn e p c parts fits node actors = may_turn e c fits (subst (λ (x : HostState). IsNodeOf x c.node) parts node) (subst (λ (x : HostState). HasActorsOf x c) parts actors)
