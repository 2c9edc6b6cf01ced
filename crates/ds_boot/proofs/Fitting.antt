-- The parts of a host that begins fit together.
use Rattle.std.proofs.Common.{◌≡◌, ℕ, zero, suc, ◌<◌, ◌≤◌, Bool, true, false, cond, List, [], ◌∷◌, ◌++◌, length, map, Some, None, slice_get, option_map, refl, sym, ◌∙◌, ap, subst, arith, eqb, eq-eqb}
use Rattle.std.specs.Prelude.{All, nat_eq}
use Rattle.std.specs.List.{list_all, flat_map}
use Rattle.std.proofs.lemmas.Bool.{and_from, and_parts, cond-true, leb-true, ltb-true}
use Rattle.std.proofs.lemmas.List.{length-map}
use Rattle.std.proofs.lemmas.Option.{none-some, same_Some, slice_get-map, slice_get_within, get_or_from_slice_get}
use Rattle.ds_label.specs.declared.category.PubKey.{PubKey}
use Rattle.ds_label.specs.declared.category.Category.{Category}
use Rattle.ds_label.specs.Flow.{same_label}
use Rattle.ds_label.specs.Names.{by_name}
use Rattle.ds_label.proofs.Flows.{same_label-refl}
use Rattle.ds_label.proofs.Namings.{names}
use Rattle.ds_script.specs.declared.actor.Actor.{Actor}
use Rattle.ds_script.specs.declared.actor.ActorKind.TheVariants as kinds
use Rattle.ds_script.specs.declared.op.Op.{Op}
use Rattle.ds_script.specs.declared.op.Op.TheVariants.{Set, Join, IfEq, Jump, Print, Send, Take, SetLabel, NewCat, Delegate, Map, Import}
use Rattle.ds_model.specs.Desk.{Desk}
use Rattle.ds_model.specs.Mapping.{is_known, number_of}
use Rattle.ds_model.specs.Scheme.{InletName}
use Rattle.ds_desk.specs.Desks.{DeskView}
use Rattle.ds_inlet.specs.Connections.{Connection, new_connection}
use Rattle.ds_exporter.specs.HostStates.{HostLane, HostProcess}
use Rattle.ds_exporter.specs.PlainHosts.{name_of_inlet}
use Rattle.ds_exporter.specs.Conditions.{AreLaneActors, AreNumbered, AreTwoInlets, AreTwoLanes, ComesBefore, HandHasLane, HasHelloFirst, HasBox, HaveTwoSlots, IsBoxNamed, IsConnNamed, IsConnOf, IsFit, IsGoing, IsLaneOf, IsNumbered, IsOwned, IsPassedNamed, IsProcNamed, LeadsTo, OpReaches, PassedHasBox, Reaches}
use Rattle.ds_plan.specs.declared.doc.Doc.{Doc}
use Rattle.ds_plan.specs.declared.host.HostSpec.{HostSpec}
use Rattle.ds_plan.specs.declared.host.LaneSpec.{LaneSpec}
use Rattle.ds_plan.specs.declared.host.InletSpec.{InletSpec}
use Rattle.ds_plan.specs.declared.process.ProcSpec.{ProcSpec}
use Rattle.ds_plan.specs.declared.process.BoxSpec.{BoxSpec}
use Rattle.ds_plan.specs.Keys.{host_key, host_keys}
use Rattle.ds_plan.specs.Categories.{is_place}
use Rattle.ds_plan.specs.Documents.{IsDocument, are_different, has_at_most, has_host_sizes, is_silent, named_hosts, op_hosts, same_lane, script_hosts}
use Rattle.ds_setup.specs.Lists.{each}
use Rattle.ds_setup.specs.Plans.{inlets_of}
use Rattle.ds_setup.proofs.Places.{each_at, every_joined, from_each, inside, length-each, test_append, test_at, test_flat}
use Rattle.ds_setup.proofs.Facts.{key_there, leads}
use Rattle.ds_boot.specs.Desks.{IsDeskOf}
use Rattle.ds_boot.specs.Lanes.{lane_begun, lanes_begun}
use Rattle.ds_boot.specs.Parts.{box_begun, conn_actor, conn_begun, conns_to, ends_of, inlet_begun, process_begun, usable_of}
use Rattle.ds_boot.specs.Beginnings.{state_begun}
use Rattle.ds_boot.proofs.Distinct.{inlets_differ, one_host}
use Rattle.ds_boot.proofs.Named.{box_label, every_all, one_named, proc_labels, three_named}
use Rattle.ds_boot.proofs.Pairs.{Pairs, all_pairs, differ, pairs_each, pairs_joined, pairs_map}
use Rattle.ds_boot.proofs.Rows.{row_known}
use Rattle.ds_boot.proofs.Started.{every_each, every_map, map_same, map_twice}

-- ---- sizes

pub record HostSizes (h : HostSpec) : Type 0 where
  pub procs : length h.procs ≤ 32
  pub boxes : length h.boxes ≤ 64
  pub lanes : length h.lanes ≤ 32
  pub inlets : length h.inlets ≤ 64

pub host_sizes : (h : HostSpec) → has_host_sizes h ≡ true → HostSizes h
host_sizes h all =
    let i = and_parts _ _ all in
    let l = and_parts _ _ i.0 in
    let b = and_parts _ _ l.0 in
    let p = and_parts _ _ b.0 in
    let a = and_parts _ _ p.0 in
    let s = and_parts _ _ a.0 in
    let n = and_parts _ _ s.0 in
    let inl' = and_parts _ _ n.0 in
    let lns = and_parts _ _ inl'.0 in
    let bxs = and_parts _ _ lns.0 in
    let prc = and_parts (has_at_most 1024 h.map) (has_at_most 32 h.procs) bxs.0 in
    record {
      procs = leb-true (length h.procs) 32 prc.1;
      boxes = leb-true (length h.boxes) 64 bxs.1;
      lanes = leb-true (length h.lanes) 32 lns.1;
      inlets = leb-true (length h.inlets) 64 inl'.1;
    }

-- ---- scripts

op_reaches : (hosts : List HostSpec) (op : Op) → list_all (λ n. is_place n hosts) (op_hosts op) ≡ true → OpReaches (length hosts) op
op_reaches hosts (Set reg text) t = tt
op_reaches hosts (Join reg left right) t = tt
op_reaches hosts (IfEq left right to) t = tt
op_reaches hosts (Jump to) t = tt
op_reaches hosts (Print reg) t = tt
op_reaches hosts (Send host slot reg label own clear) t = ltb-true host (length hosts) (and_parts (is_place host hosts) true t).0
op_reaches hosts (Take reg slot) t = tt
op_reaches hosts (SetLabel label) t = tt
op_reaches hosts (NewCat kind) t = tt
op_reaches hosts (Delegate reg category to from until) t = ltb-true to (length hosts) (and_parts (is_place to hosts) true t).0
op_reaches hosts (Map category) t = tt
op_reaches hosts (Import reg) t = tt

-- ---- connections

record OneConn (place : ℕ) (key : PubKey) (inlets : List InletName) (number : ℕ) (k : Connection) : Type 0 where
  here : k.here ≡ key
  inlets_are : k.inlets ≡ inlets
  who : k.who ≡ record { kind = kinds.Conn; host = place; index = number }
  passed : k.passed ≡ None
  hand : k.hand ≡ []

one_conn : (place : ℕ) (key : PubKey) (inlets : List InletName) (number to i : ℕ) (k : Connection) → slice_get (conn_begun place key inlets number to) i ≡ Some k → OneConn place key inlets number k
one_conn place key inlets number to i k e = go (eqb to place) i e
  where
    go : (b : Bool) → (i : ℕ) → slice_get (cond b (new_connection (conn_actor place number) key inlets ∷ []) []) i ≡ Some k → OneConn place key inlets number k
    go true zero e = subst (OneConn place key inlets number) (same_Some (new_connection (conn_actor place number) key inlets) k e) (record { here = refl; inlets_are = refl; who = refl; passed = refl; hand = refl })
    go true (suc i) e = absurd (none-some k e)
    go false i e = absurd (none-some k e)

conn_single : (place : ℕ) (key : PubKey) (inlets : List InletName) (number to : ℕ) → Pairs ComesBefore (conn_begun place key inlets number to)
conn_single place key inlets number to i j a b lt e q = go (eqb to place) i j lt e q
  where
    go : (c : Bool) → (i j : ℕ) → i < j → slice_get (cond c (new_connection (conn_actor place number) key inlets ∷ []) []) i ≡ Some a → slice_get (cond c (new_connection (conn_actor place number) key inlets ∷ []) []) j ≡ Some b → ComesBefore a b
    go true i zero lt e q = absurd (omega (arith, lt))
    go true i (suc j) lt e q = absurd (none-some b q)
    go false i j lt e q = absurd (none-some a e)

module _ (d : Doc) (is : IsDocument d) (place : ℕ) (h : HostSpec) (there : slice_get d.hosts place ≡ Some h) (runs : is_silent h.secret ≡ false) where
  abbrev here : PubKey
  here = host_key h

  sizes : HostSizes h
  sizes = host_sizes h (test_at has_host_sizes d.hosts place h is.host_sizes there)

  -- ---- mailboxes

  two_slots : Pairs HaveTwoSlots (map (box_begun here h.map) h.boxes)
  two_slots = pairs_map HaveTwoSlots (box_begun here h.map) h.boxes (λ i j a b lt e q same.
      differ nat_eq (map (λ (b : BoxSpec). b.slot) h.boxes) i j a.slot b.slot (test_at (λ (h : HostSpec). are_different nat_eq (map (λ (b : BoxSpec). b.slot) h.boxes)) d.hosts place h is.slots there) lt
      (slice_get-map (λ (b : BoxSpec). b.slot) h.boxes i ∙ ap (option_map (λ (b : BoxSpec). b.slot)) e) (slice_get-map (λ (b : BoxSpec). b.slot) h.boxes j ∙ ap (option_map (λ (b : BoxSpec). b.slot)) q)
      (eq-eqb a.slot b.slot same) (eq-eqb b.slot a.slot (sym same)))

  owned : All (IsOwned (length (map (process_begun here h.map) h.procs))) (map (box_begun here h.map) h.boxes)
  owned = every_map (IsOwned (length (map (process_begun here h.map) h.procs))) (box_begun here h.map) h.boxes (λ i b at.
      subst (λ n. b.owner < n) (sym (length-map {B = HostProcess} h.procs (process_begun here h.map)))
      (ltb-true b.owner (length h.procs) (test_at (λ (b : BoxSpec). is_place b.owner h.procs) h.boxes i b (test_at (λ (h : HostSpec). list_all (λ (b : BoxSpec). is_place b.owner h.procs) h.boxes) d.hosts place h is.owners there) at)))

  boxes_named : All (IsBoxNamed here h.map) (map (box_begun here h.map) h.boxes)
  boxes_named = every_map (IsBoxNamed here h.map) (box_begun here h.map) h.boxes (λ i b at. record {
    label = one_named here h.map b.label (box_label d is place h there i b at).label;
    waiting = λ j e lt. absurd (omega (arith, lt));
    opening = λ j e lt. absurd (omega (arith, lt));
    history = λ j e lt. absurd (omega (arith, lt));
  })

  -- ---- processes

  reaching : All (Reaches (length (host_keys d.hosts))) (map (process_begun here h.map) h.procs)
  reaching = every_map (Reaches (length (host_keys d.hosts))) (process_begun here h.map) h.procs (λ i p at.
      let named : list_all (λ n. is_place n d.hosts) (named_hosts h) ≡ true = test_at (λ (h : HostSpec). list_all (λ n. is_place n d.hosts) (named_hosts h)) d.hosts place h is.hosts there in
      let all = (test_append (λ n. is_place n d.hosts) (map (λ (l : LaneSpec). l.to) h.lanes ++ map (λ (i : InletSpec). i.from) h.inlets) (script_hosts h) named).1 in
      let script = test_flat (λ n. is_place n d.hosts) (λ (p : ProcSpec). flat_map op_hosts p.script) h.procs i p all at in
      subst (λ n. All (OpReaches n) p.script) (sym (length-map {B = PubKey} d.hosts host_key))
      (every_all (OpReaches (length d.hosts)) p.script (λ k op here. op_reaches d.hosts op (test_flat (λ n. is_place n d.hosts) op_hosts p.script k op script here))))

  procs_named : All (IsProcNamed here h.map) (map (process_begun here h.map) h.procs)
  procs_named = every_map (IsProcNamed here h.map) (process_begun here h.map) h.procs (λ i p at.
      let l = proc_labels d is place h there i p at in
      three_named here h.map p.label p.own p.clear l.label l.own l.clear)

  numbered_so : All (AreNumbered here h.map) (map (process_begun here h.map) h.procs)
  numbered_so = every_map (AreNumbered here h.map) (process_begun here h.map) h.procs (λ i p at.
      every_map (IsNumbered here h.map) (usable_of here h.map) h.map (λ k c in_rows.
      cond-true (is_known here h.map c) (Some (number_of here h.map c)) None (subst (λ (z : Category). is_known here h.map z ≡ true) (get_or_from_slice_get h.map k c c in_rows) (row_known here h.map k c (slice_get_within h.map k c in_rows)))))

  -- ---- lanes

  two_lanes : Pairs AreTwoLanes (lanes_begun (host_keys d.hosts) place h)
  two_lanes = pairs_each AreTwoLanes (lane_begun (host_keys d.hosts) place h) h.lanes (λ i j a b lt e q receiver label.
      let x = leads d is place i h a there e in
      let y = leads d is place j h b there q in
      let to : a.to ≡ b.to = one_host d is a.to b.to x.0 y.0 x.1 y.1 (sym (key_there d.hosts a.to x.0 x.1) ∙ (receiver ∙ key_there d.hosts b.to y.0 y.1)) in
      differ same_lane h.lanes i j a b (test_at (λ (h : HostSpec). are_different same_lane h.lanes) d.hosts place h is.lanes there) lt e q (same_two a b to label) (same_two b a (sym to) (sym label)))
    where
      same_two : (a b : LaneSpec) → a.to ≡ b.to → a.label ≡ b.label → same_lane a b ≡ true
      same_two a b to label = and_from (eqb a.to b.to) (same_label by_name a.label b.label) (eq-eqb a.to b.to to)
          (subst (λ (z : List Category). same_label by_name a.label z ≡ true) label (same_label-refl by_name names a.label))

  lane_actors : AreLaneActors place (lanes_begun (host_keys d.hosts) place h)
  lane_actors i e lt =
      let x : (x : LaneSpec) × (slice_get h.lanes i ≡ Some x) = inside h.lanes i (subst (λ n. i < n) (length-each (lane_begun (host_keys d.hosts) place h) h.lanes) lt) in
      let at : slice_get (lanes_begun (host_keys d.hosts) place h) i ≡ Some (lane_begun (host_keys d.hosts) place h i x.0) = each_at (lane_begun (host_keys d.hosts) place h) h.lanes i ∙ ap (option_map (lane_begun (host_keys d.hosts) place h i)) x.1 in
      ap (λ (l : HostLane). l.worker.who) (get_or_from_slice_get (lanes_begun (host_keys d.hosts) place h) i (lane_begun (host_keys d.hosts) place h i x.0) e at)

  lanes_of_host : All (IsLaneOf here) (lanes_begun (host_keys d.hosts) place h)
  lanes_of_host = every_each (IsLaneOf here) (lane_begun (host_keys d.hosts) place h) h.lanes (λ i lane at. record { one = refl; exporter = refl })

  -- ---- connections

  abbrev conn_lists : List (List Connection)
  conn_lists = each (conn_begun place here (inlets_of d.hosts place h)) (ends_of d)

  every_conn : (P : Connection → Type 0) → ((number : ℕ) (k : Connection) → OneConn place here (inlets_of d.hosts place h) number k → P k) → All P (conns_to d place h)
  every_conn P each_is = every_all P (conns_to d place h) (every_joined P conn_lists (λ number xs at i k e.
      let m = from_each (conn_begun place here (inlets_of d.hosts place h)) (ends_of d) number xs at in
      each_is number k (one_conn place here (inlets_of d.hosts place h) number m.0 i k (subst (λ (zs : List Connection). slice_get zs i ≡ Some k) (sym m.2) e))))

  conn_order : Pairs ComesBefore (conns_to d place h)
  conn_order = pairs_joined ComesBefore conn_lists
      (λ number xs at. let m = from_each (conn_begun place here (inlets_of d.hosts place h)) (ends_of d) number xs at in subst (Pairs ComesBefore) m.2 (conn_single place here (inlets_of d.hosts place h) number m.0))
      (λ n m i j xs ys a b lt at in_later e q.
      let first = from_each (conn_begun place here (inlets_of d.hosts place h)) (ends_of d) n xs at in
      let second = from_each (conn_begun place here (inlets_of d.hosts place h)) (ends_of d) m ys in_later in
      let one = one_conn place here (inlets_of d.hosts place h) n first.0 i a (subst (λ (zs : List Connection). slice_get zs i ≡ Some a) (sym first.2) e) in
      let two = one_conn place here (inlets_of d.hosts place h) m second.0 j b (subst (λ (zs : List Connection). slice_get zs j ≡ Some b) (sym second.2) q) in
      let p : a.who.index ≡ n = ap (λ (w : Actor). w.index) one.who in
      let r : b.who.index ≡ m = ap (λ (w : Actor). w.index) two.who in
      omega (arith, lt, p, r))

  -- ---- the whole

  module _ (k : DeskView) (desk : IsDeskOf d place h k) where
    rows : k.desk.rows ≡ h.map
    rows = ap (λ (x : Desk). x.rows) desk.desk

    -- what holds under the host's table
    under : (P : PubKey → List Category → Type 0) → P here h.map → P k.here k.desk.rows
    under P p = subst (λ (key : PubKey). P key k.desk.rows) (sym desk.here) (subst (λ (rs : List Category). P here rs) (sym rows) p)

    names_are : map name_of_inlet (map inlet_begun (inlets_of d.hosts place h)) ≡ inlets_of d.hosts place h
    names_are = map_twice name_of_inlet inlet_begun (λ x. x) (inlets_of d.hosts place h) (λ i name at. refl) ∙ map_same (inlets_of d.hosts place h)

    pub fits : IsFit (state_begun d place h k)
    fits = record {
      desk = desk.replay;
      place = slice_get-map host_key d.hosts place ∙ (ap (option_map host_key) there ∙ ap (λ (key : PubKey). Some key) (sym desk.here));
      few = let size : length (map (process_begun here h.map) h.procs) ≡ length h.procs = length-map {B = HostProcess} h.procs (process_begun here h.map) in omega (arith, size, sizes.procs);
      slots = all_pairs HaveTwoSlots (map (box_begun here h.map) h.boxes) two_slots;
      lanes = all_pairs AreTwoLanes (lanes_begun (host_keys d.hosts) place h) two_lanes;
      inlets = all_pairs AreTwoInlets (map inlet_begun (inlets_of d.hosts place h)) (pairs_map AreTwoInlets inlet_begun (inlets_of d.hosts place h) (inlets_differ d is place h there runs));
      owners = owned;
      scripts = reaching;
      lane_actors = lane_actors;
      conn_actors = every_conn (IsConnOf place) (λ number c one. record { kind = ap (λ (w : Actor). w.kind) one.who; at = ap (λ (w : Actor). w.host) one.who });
      order = all_pairs ComesBefore (conns_to d place h) conn_order;
      certs = subst (λ (key : PubKey). All (IsLaneOf key) (lanes_begun (host_keys d.hosts) place h)) (sym desk.here) lanes_of_host;
      conns = every_conn (LeadsTo k.here (map name_of_inlet (map inlet_begun (inlets_of d.hosts place h)))) (λ number c one. record { here = one.here ∙ sym desk.here; inlets = one.inlets_are ∙ sym names_are });
      named_procs = under (λ key rs. All (IsProcNamed key rs) (map (process_begun here h.map) h.procs)) procs_named;
      named_boxes = under (λ key rs. All (IsBoxNamed key rs) (map (box_begun here h.map) h.boxes)) boxes_named;
      named_conns = every_conn (IsConnNamed k.here k.desk.rows) (λ number c one. subst (IsPassedNamed k.here k.desk.rows) (sym one.passed) tt);
      usable = under (λ key rs. All (AreNumbered key rs) (map (process_begun here h.map) h.procs)) numbered_so;
      hands = every_map (HandHasLane (lanes_begun (host_keys d.hosts) place h)) (process_begun here h.map) h.procs (λ i p at. tt);
      going = every_map IsGoing (process_begun here h.map) h.procs (λ i p at. tt);
      passed = every_conn (PassedHasBox (map (box_begun here h.map) h.boxes)) (λ number c one. subst (HasBox (map (box_begun here h.map) h.boxes)) (sym one.passed) tt);
      hellos = every_conn HasHelloFirst (λ number c one none. (one.hand, one.passed));
    }
