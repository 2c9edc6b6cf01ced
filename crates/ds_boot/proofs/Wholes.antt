-- What a host is made of is the state in which it begins.
use Rattle.std.proofs.Common.{◌≡◌, ℕ, ◌*◌, ◌<◌, ◌≤◌, ◌^◌, true, false, List, [], ◌∷◌, ◌++◌, length, length-append, map, Option, Some, slice_get, option_map, refl, sym, ◌∙◌, ap, subst, arith}
use Rattle.std.specs.Prelude.{All}
use Rattle.std.specs.List.{list_all, flat_map}
use Rattle.std.proofs.lemmas.Bool.{and_parts, leb-true, ltb-true}
use Rattle.std.proofs.lemmas.List.{length-map}
use Rattle.std.proofs.lemmas.Option.{none-some, same_Some, slice_get-map}
use Rattle.lms_sig.specs.declared.params.Params.{Params}
use Rattle.lms_state.specs.Signers.{Signing}
use Rattle.ds_label.specs.declared.category.PubKey.{PubKey}
use Rattle.ds_label.specs.declared.category.Category.{Category}
use Rattle.ds_model.specs.Desk.{Desk}
use Rattle.ds_model.specs.Scheme.{InletName}
use Rattle.ds_desk.specs.Desks.{DeskView}
use Rattle.ds_inlet.specs.Inlets.{CountedLane}
use Rattle.ds_inlet.specs.Connections.{Connection}
use Rattle.ds_exporter.specs.HostStates.{HostBox, HostLane, HostProcess}
use Rattle.ds_plan.specs.declared.doc.Doc.{Doc}
use Rattle.ds_plan.specs.declared.host.HostSpec.{HostSpec}
use Rattle.ds_plan.specs.declared.host.LaneSpec.{LaneSpec}
use Rattle.ds_plan.specs.declared.host.InletSpec.{InletSpec}
use Rattle.ds_plan.specs.declared.host.Secret.{Secret}
use Rattle.ds_plan.specs.declared.host.Secret.TheVariants.{Seed, Key}
use Rattle.ds_plan.specs.Keys.{host_key, host_keys, identity_of}
use Rattle.ds_plan.specs.Categories.{is_place}
use Rattle.ds_plan.specs.Documents.{IsDocument, has_at_most, has_host_sizes, has_sizes, is_silent, events_of, named_hosts, script_hosts}
use Rattle.ds_setup.specs.Lists.{each, joined}
use Rattle.ds_setup.specs.Plans.{inlets_of}
use Rattle.ds_setup.proofs.Places.{test_append, test_at}
use Rattle.ds_boot.specs.Signers.{signer_at}
use Rattle.ds_boot.specs.Desks.{IsDeskOf}
use Rattle.ds_boot.specs.Lanes.{lanes_begun}
use Rattle.ds_boot.specs.Parts.{HasInlets, box_begun, conn_begun, conns_to, ends_of, inlet_begun, lane_ends, lane_to, process_begun}
use Rattle.ds_boot.specs.Beginnings.{state_begun}
use Rattle.ds_boot.proofs.DeskFacts.{few_hosts}
use Rattle.ds_boot.proofs.Fitting.{host_sizes}
use Rattle.ds_boot.proofs.Named.{every_all}

-- what holds under a host's table, of the desk's table
pub under_desk : (d : Doc) (place : ℕ) (h : HostSpec) (k : DeskView) → IsDeskOf d place h k → (P : PubKey → List Category → Type 0) → P (host_key h) h.map → P k.table k.desk.rows
under_desk d place h k desk P p =
    let rows : k.desk.rows ≡ h.map = ap (λ (x : Desk). x.rows) desk.desk in
    let key : k.table ≡ host_key h = desk.replay.table ∙ desk.here in
    subst (λ (at : PubKey). P at k.desk.rows) (sym key) (subst (λ (rs : List Category). P (host_key h) rs) (sym rows) p)

pub state_is : (d : Doc) (place : ℕ) (h : HostSpec) (k : DeskView) (keys : List PubKey) (procs : List HostProcess) (boxes : List HostBox) (lanes : List HostLane) (inlets : List CountedLane) (conns : List Connection) (names : List InletName) →
    IsDeskOf d place h k → keys ≡ host_keys d.hosts → procs ≡ map (process_begun k.table k.desk.rows) h.procs → boxes ≡ map (box_begun k.table k.desk.rows) h.boxes → lanes ≡ lanes_begun (host_keys d.hosts) place h →
    inlets ≡ map inlet_begun names → names ≡ inlets_of d.hosts place h → conns ≡ conns_to d place h →
    record { host = place; keys = keys; desk = k; procs = procs; boxes = boxes; lanes = lanes; inlets = inlets; conns = conns } ≡ state_begun d place h k
state_is d place h k keys procs boxes lanes inlets conns names desk keys_are procs_are boxes_are lanes_are inlets_are names_are conns_are =
    let ps : procs ≡ map (process_begun (host_key h) h.map) h.procs = procs_are ∙ under_desk d place h k desk (λ key rows. map (process_begun key rows) h.procs ≡ map (process_begun (host_key h) h.map) h.procs) refl in
    let bs : boxes ≡ map (box_begun (host_key h) h.map) h.boxes = boxes_are ∙ under_desk d place h k desk (λ key rows. map (box_begun key rows) h.boxes ≡ map (box_begun (host_key h) h.map) h.boxes) refl in
    let is : inlets ≡ map inlet_begun (inlets_of d.hosts place h) = inlets_are ∙ ap (λ (ns : List InletName). map inlet_begun ns) names_are in
    λ j. record { host = place; keys = keys_are j; desk = k; procs = ps j; boxes = bs j; lanes = lanes_are j; inlets = is j; conns = conns_are j }

-- a host with a signer runs
pub runs_if : (identity : Params) (s : Secret) (leaf : ℕ) (signer : Option Signing) (x : Signing) → signer ≡ signer_at leaf (identity_of identity s) → signer ≡ Some x → is_silent s ≡ false
runs_if identity (Seed secret) leaf signer x e q = refl
runs_if identity (Key key) leaf signer x e q = absurd (none-some x (sym e ∙ q))

-- ---- how many connections there are

few_links : (d : Doc) → has_sizes d ≡ true → length d.links ≤ 16
few_links d all = leb-true (length d.links) 16 (and_parts _ (has_at_most 16 d.links) (and_parts _ (has_at_most 20000 (events_of d.events)) all).0).1

few_ends : (hosts : List HostSpec) → list_all has_host_sizes hosts ≡ true → length (flat_map lane_ends hosts) ≤ 32 * length hosts
few_ends [] all = omega arith
few_ends (h ∷ hosts) all =
    let both = and_parts (has_host_sizes h) (list_all has_host_sizes hosts) all in
    let own : length (lane_ends h) ≡ length h.lanes = length-map {B = ℕ} h.lanes lane_to in
    omega (arith, length-append (lane_ends h) (flat_map lane_ends hosts), own, (host_sizes h both.0).lanes, few_ends hosts both.1)

pub ends_count : (d : Doc) → IsDocument d → length (ends_of d) < 2 ^ 32
ends_count d is = omega (arith, length-append (flat_map lane_ends d.hosts) d.links, few_ends d.hosts is.host_sizes, few_hosts d is.sizes, few_links d is.sizes)

-- ---- what its inlets need

pub has_inlets : (d : Doc) → IsDocument d → (place : ℕ) (h : HostSpec) → slice_get d.hosts place ≡ Some h → HasInlets (length d.hosts) h
has_inlets d is place h there =
    let sizes = host_sizes h (test_at has_host_sizes d.hosts place h is.host_sizes there) in
    let named : list_all (λ n. is_place n d.hosts) (named_hosts h) ≡ true = test_at (λ (h : HostSpec). list_all (λ n. is_place n d.hosts) (named_hosts h)) d.hosts place h is.hosts there in
    let front = (test_append (λ n. is_place n d.hosts) (map (λ (l : LaneSpec). l.to) h.lanes ++ map (λ (i : InletSpec). i.from) h.inlets) (script_hosts h) named).0 in
    let all = (test_append (λ n. is_place n d.hosts) (map (λ (l : LaneSpec). l.to) h.lanes) (map (λ (i : InletSpec). i.from) h.inlets) front).1 in
    record {
      lanes = sizes.lanes;
      declared = sizes.inlets;
      from = every_all (λ (i : InletSpec). i.from < length d.hosts) h.inlets (λ i inlet at. ltb-true inlet.from (length d.hosts) (test_at (λ n. is_place n d.hosts) (map (λ (i : InletSpec). i.from) h.inlets) i inlet.from all
          (slice_get-map (λ (i : InletSpec). i.from) h.inlets i ∙ ap (option_map (λ (i : InletSpec). i.from)) at)));
    }

pub all_lanes_few : (hosts : List HostSpec) → list_all has_host_sizes hosts ≡ true → All (λ (h : HostSpec). length h.lanes ≤ 32) hosts
all_lanes_few hosts all = every_all (λ (h : HostSpec). length h.lanes ≤ 32) hosts (λ i h at. (host_sizes h (test_at has_host_sizes hosts i h all at)).lanes)

-- ---- the connections to it

pub key_is : (d : Doc) (place : ℕ) (h : HostSpec) (keys : List PubKey) (key : PubKey) → slice_get d.hosts place ≡ Some h → keys ≡ host_keys d.hosts → slice_get keys place ≡ Some key → key ≡ host_key h
key_is d place h keys key there all at =
    same_Some key (host_key h) (sym at ∙ (ap (λ (ks : List PubKey). slice_get ks place) all ∙ (slice_get-map host_key d.hosts place ∙ ap (option_map host_key) there)))

pub conns_are : (d : Doc) (place : ℕ) (h : HostSpec) (conns : List Connection) (key : PubKey) (names : List InletName) (ends : List ℕ) → key ≡ host_key h → names ≡ inlets_of d.hosts place h → ends ≡ ends_of d → conns ≡ joined (each (conn_begun place key names) ends)
    → conns ≡ conns_to d place h
conns_are d place h conns key names ends k n e is = is ∙ (λ j. joined (each (conn_begun place (k j) (n j)) (e j)))
