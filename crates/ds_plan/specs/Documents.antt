-- What a document keeps that was read, as tests on its values. Hosts are named by their places.
use Rattle.std.specs.Prelude.{◌≡◌, ℕ, suc, ◌+◌, ◌-◌, ◌^◌, ◌≤◌, List, [], ◌∷◌, ◌++◌, length, map, filter, flat_map, slice_get, All, Bool, true, false, ◌&&◌, ◌||◌, not, nat_le, nat_lt, nat_eq, bytes_eq, ◌==◌, if◌then◌else◌, Option, Some, None, is_some, sum}
use Rattle.std.specs.List.{list_all, list_any}
use Rattle.lms_sig.specs.Parameters.{leaf_count}
use Rattle.lms_sig.specs.declared.params.Params.{Params}
use Rattle.ds_label.specs.declared.category.PubKey.{PubKey}
use Rattle.ds_label.specs.declared.category.Category.{Category}
use Rattle.ds_label.specs.Flow.{has, same_label, IsRising}
use Rattle.ds_label.specs.Names.{by_name}
use Rattle.ds_script.specs.declared.op.Op.{Op}
use Rattle.ds_script.specs.declared.op.Op.TheVariants.{Send, Delegate, SetLabel, Map}
use Rattle.ds_script.specs.Fits.{IsScript}
use Rattle.ds_cert.specs.declared.cert.Cert.{Cert}
use Rattle.ds_cert.specs.declared.cert.Cert.TheVariants as certs
use Rattle.ds_cert.specs.declared.address.Address.{Address}
use Rattle.ds_cert.specs.Ranges.{is_letter}
use Rattle.ds_cert.specs.Spelling.{spelling_of_address}
use Rattle.ds_plan.specs.declared.doc.Doc.{Doc}
use Rattle.ds_plan.specs.declared.host.HostSpec.{HostSpec}
use Rattle.ds_plan.specs.declared.host.LaneSpec.{LaneSpec}
use Rattle.ds_plan.specs.declared.host.InletSpec.{InletSpec}
use Rattle.ds_plan.specs.declared.host.Secret.{Secret}
use Rattle.ds_plan.specs.declared.host.Secret.TheVariants.{Seed, Key}
use Rattle.ds_plan.specs.declared.process.ProcSpec.{ProcSpec}
use Rattle.ds_plan.specs.declared.cert.CertSpec.{CertSpec}
use Rattle.ds_plan.specs.declared.cert.CertSpec.TheVariants.{Made, Given}
use Rattle.ds_plan.specs.declared.maker.Maker.{Maker}
use Rattle.ds_plan.specs.declared.maker.Maker.TheVariants.{Anything, Processes}
use Rattle.ds_plan.specs.declared.event.Event.{Event}
use Rattle.ds_plan.specs.declared.event.Event.TheVariants.{Step, Frame, Arrive, Accept, Deliver, Tick, Inject, CopyBytes}
use Rattle.ds_plan.specs.Keys.{host_key, host_keys, same_key}
use Rattle.ds_plan.specs.Signed.{signed_address}
use Rattle.ds_plan.specs.Categories.{runs, origin, host_maker, is_place, is_known, is_made}

-- ---- limits

abbrev pub is_between : ℕ → ℕ → ℕ → Bool
is_between low high n = nat_le low n && nat_le n high

abbrev pub has_at_most : {A : Type 0} → ℕ → List A → Bool
has_at_most most items = nat_le (length items) most

-- a host's name: 1 to 32 of a to z, 0 to 9, `_`, `-`
abbrev pub is_name_byte : ℕ → Bool
is_name_byte b = is_between 97 122 b || is_between 48 57 b || (b == 95) || (b == 45)

abbrev pub is_name : List ℕ → Bool
is_name s = is_between 1 32 (length s) && list_all is_name_byte s

-- an address: 1 to 64 visible characters of ASCII
abbrev pub is_address : List ℕ → Bool
is_address s = is_between 1 64 (length s) && list_all is_letter s

-- what a certificate keeps that was read
abbrev pub is_address_in_range : Address → Bool
is_address_in_range a = is_address a.address && nat_le (length a.signature) 2508

abbrev pub is_cert_in_range : Cert → Bool
is_cert_in_range (certs.Delegation d) = nat_le (length d.signature) 2508
is_cert_in_range (certs.Address a) = is_address_in_range a

abbrev pub is_spec_in_range : CertSpec → Bool
is_spec_in_range (Made by category to from until at) = true
is_spec_in_range (Given cert at) = is_cert_in_range cert

-- a secret has 32 bytes, a key 56
abbrev pub has_secret_length : Secret → Bool
has_secret_length (Seed secret) = nat_eq (length secret) 32
has_secret_length (Key key) = nat_eq (length key.0) 56

abbrev pub is_address_if_some : Option (List ℕ) → Bool
is_address_if_some None = true
is_address_if_some (Some address) = is_address address

-- a label: at most 64 categories in strictly rising order
abbrev pub IsLabel : List Category → Type 0
IsLabel label = (length label ≤ 64) × IsRising by_name label

pub record HasLabels (h : HostSpec) : Type 0 where
  pub procs : All (λ p. IsLabel p.label × IsLabel p.own × IsLabel p.clear) h.procs
  pub boxes : All (λ b. IsLabel b.label) h.boxes
  pub lanes : All (λ l. IsLabel l.label) h.lanes

-- ---- what stands once

-- whether one of the items before is the same
abbrev pub stood : {A : Type 0} → (A → A → Bool) → List A → A → Bool
stood same before x = list_any (λ y. same y x) before

-- whether none of the items stood before, behind those that are given
abbrev pub are_new : {A : Type 0} → (A → A → Bool) → List A → List A → Bool
are_new same before [] = true
are_new same before (x ∷ xs) = not (stood same before x) && are_new same (before ++ x ∷ []) xs

abbrev pub are_different : {A : Type 0} → (A → A → Bool) → List A → Bool
are_different same items = are_new same [] items

-- one receiver and one label
abbrev pub same_lane : LaneSpec → LaneSpec → Bool
same_lane a b = (a.to == b.to) && same_label by_name a.label b.label

abbrev pub same_inlet : InletSpec → InletSpec → Bool
same_inlet a b = (a.from == b.from) && (a.lane == b.lane)

-- lanes of a host are numbered from 1
abbrev pub leads_to : ℕ → Option ℕ → Bool
leads_to here None = false
leads_to here (Some to) = to == here

abbrev pub lane_leads : ℕ → ℕ → Option (List ℕ) → Bool
lane_leads here number None = false
lane_leads here number (Some receivers) = leads_to here (slice_get receivers (number - 1))

-- the receivers of each host's lanes
abbrev pub receivers : List HostSpec → List (List ℕ)
receivers hosts = map (λ h. map (λ l. l.to) h.lanes) hosts

-- whether the lane with that number from that host leads to this one
abbrev pub comes_by_lane : List (List ℕ) → (here from number : ℕ) → Bool
comes_by_lane receivers here from number = lane_leads here number (slice_get receivers from)

abbrev pub are_inlets_new : List (List ℕ) → ℕ → HostSpec → Bool
are_inlets_new receivers here h =
    are_different same_inlet h.inlets && list_all (λ i. not (comes_by_lane receivers here i.from i.lane)) h.inlets

-- a test of each item and its place, from a place on
abbrev pub all_places : {A : Type 0} → (ℕ → A → Bool) → ℕ → List A → Bool
all_places test place [] = true
all_places test place (x ∷ xs) = test place x && all_places test (suc place) xs

-- ---- hosts and categories that are named

abbrev pub op_hosts : Op → List ℕ
op_hosts (Send host slot reg label own clear) = host ∷ []
op_hosts (Delegate reg category to from until) = to ∷ []
op_hosts _ = []

abbrev pub op_categories : Op → List Category
op_categories (Send host slot reg label own clear) = label ++ own ++ clear
op_categories (SetLabel label) = label
op_categories (Delegate reg category to from until) = category ∷ []
op_categories (Map category) = category ∷ []
op_categories _ = []

abbrev pub process_labels : ProcSpec → List Category
process_labels p = p.label ++ p.own ++ p.clear

-- the categories of labels, ownerships and clearances of a host's processes, and of its mailboxes' labels
abbrev pub state_categories : HostSpec → List Category
state_categories h = flat_map process_labels h.procs ++ flat_map (λ b. b.label) h.boxes

abbrev pub lane_categories : HostSpec → List Category
lane_categories h = flat_map (λ l. l.label) h.lanes

abbrev pub script_categories : HostSpec → List Category
script_categories h = flat_map (λ p. flat_map op_categories p.script) h.procs

abbrev pub cert_categories : CertSpec → List Category
cert_categories (Made by category to from until at) = category ∷ []
cert_categories (Given cert at) = []

abbrev pub script_hosts : HostSpec → List ℕ
script_hosts h = flat_map (λ p. flat_map op_hosts p.script) h.procs

abbrev pub cert_hosts : CertSpec → List ℕ
cert_hosts (Made by category to from until at) = by ∷ to ∷ at
cert_hosts (Given cert at) = at

-- each host that is named from a host's lanes, inlets and scripts
abbrev pub named_hosts : HostSpec → List ℕ
named_hosts h = map (λ l. l.to) h.lanes ++ map (λ i. i.from) h.inlets ++ script_hosts h

-- a host's own category, or one of its table's rows
abbrev pub is_mapped : PubKey → List Category → Category → Bool
is_mapped key rows c = same_key c.creator key || has by_name c rows

-- the rows of a table: none twice, none the host's own
abbrev pub are_rows : PubKey → List Category → Bool
are_rows key rows = are_different (λ a b. by_name.same a b) rows && list_all (λ c. not (same_key c.creator key)) rows

-- ---- setup

abbrev pub is_silent : Secret → Bool
is_silent (Seed secret) = false
is_silent (Key key) = true

abbrev pub count_of : Bool → ℕ
count_of test = if test then 1 else 0

-- the hosts that sign the document's certificates, one each
abbrev pub signer_of : CertSpec → List ℕ
signer_of (Made by category to from until at) = by ∷ []
signer_of (Given cert at) = []

abbrev pub signers_of : List CertSpec → List ℕ
signers_of certs = flat_map signer_of certs

-- its address, its lanes, and the document's certificates by this host
abbrev pub signatures : List ℕ → (here : ℕ) → (has_address : Bool) → (lanes : ℕ) → ℕ
signatures signers here has_address lanes = count_of has_address + lanes + length (filter (λ n. n == here) signers)

abbrev pub has_leaves : List ℕ → ℕ → Params → Secret → (has_address : Bool) → (lanes : ℕ) → Bool
has_leaves signers here identity secret has_address lanes =
    is_silent secret || nat_le (signatures signers here has_address lanes) (leaf_count identity.lms)

abbrev pub host_has_leaves : List ℕ → ℕ → HostSpec → Bool
host_has_leaves signers here h = has_leaves signers here h.identity h.secret (is_some h.address) (length h.lanes)

abbrev pub is_bare : HostSpec → Bool
is_bare h =
    nat_eq (length h.procs) 0 && nat_eq (length h.boxes) 0 && nat_eq (length h.lanes) 0 && nat_eq (length h.inlets) 0
    && nat_eq (length h.map) 0 && not (is_some h.address)

-- a silent host has nothing of a running one
abbrev pub is_bare_if_silent : HostSpec → Bool
is_bare_if_silent h = not (is_silent h.secret) || is_bare h

-- ---- address certificates

-- the items, each once, behind those that are given
abbrev pub each_once : {A : Type 0} → (A → A → Bool) → List A → List A → List A
each_once same before [] = before
each_once same before (x ∷ xs) = if stood same before x then each_once same before xs else each_once same (before ++ x ∷ []) xs

-- the bytes of the own address certificate, where a running host has one
abbrev pub made_address : Params → Secret → Option (List ℕ) → List (List ℕ)
made_address identity (Seed secret) (Some address) =
    if is_address address then spelling_of_address (signed_address identity (Seed secret) address) ∷ [] else []
made_address identity (Seed secret) None = []
made_address identity (Key key) address = []

abbrev pub made_addresses : List HostSpec → List (List ℕ)
made_addresses hosts = flat_map (λ h. made_address h.identity h.secret h.address) hosts

-- an address certificate of the document: its bytes, and the hosts to which it is given
pub record GivenAddress : Type 0 where
  pub bytes : List ℕ
  pub at : List ℕ

abbrev pub address_given : Cert → List ℕ → List GivenAddress
address_given (certs.Delegation d) at = []
address_given (certs.Address a) at = if is_address_in_range a then record { bytes = spelling_of_address a; at = at } ∷ [] else []

abbrev pub given_addresses : CertSpec → List GivenAddress
given_addresses (Made by category to from until at) = []
given_addresses (Given cert at) = address_given cert at

abbrev pub is_among : ℕ → List ℕ → Bool
is_among here places = list_any (λ n. n == here) places

-- the address certificates that a host has, each once: those before, and those given to it
abbrev pub kept_addresses : ℕ → List (List ℕ) → List GivenAddress → List (List ℕ)
kept_addresses here before [] = before
kept_addresses here before (g ∷ given) =
    if is_among here g.at then kept_addresses here (each_once bytes_eq before (g.bytes ∷ [])) given else kept_addresses here before given

-- a running host has room for those that setup makes and those of the document
abbrev pub has_address_room : List (List ℕ) → List GivenAddress → ℕ → HostSpec → Bool
has_address_room made given here h = is_silent h.secret || has_at_most 64 (kept_addresses here (each_once bytes_eq [] made) given)

-- ---- events

-- a running host has a process at that place
abbrev pub has_process : ℕ → Option Maker → Bool
has_process place None = false
has_process place (Some Anything) = false
has_process place (Some (Processes made)) = is_place place made

-- so many lanes
abbrev pub has_lane : ℕ → Option ℕ → Bool
has_lane number None = false
has_lane number (Some lanes) = is_between 1 lanes number

-- connections are numbered from 0: first the lanes of all hosts, each of which has so many, and then the links
abbrev pub is_conn : List ℕ → (links : ℕ) → ℕ → Bool
is_conn lanes links conn = nat_lt conn (sum lanes + links)

abbrev pub is_link : List ℕ → (links : ℕ) → ℕ → Bool
is_link lanes links conn = nat_le (sum lanes) conn && is_conn lanes links conn

-- what an event names is there: a running host's process or lane, a host, a connection, a link
abbrev pub is_event : List Maker → List ℕ → (links : ℕ) → Event → Bool
is_event makers lanes links (Step host place) = has_process place (slice_get makers host)
is_event makers lanes links (Frame host lane) = runs (slice_get makers host) && has_lane lane (slice_get lanes host)
is_event makers lanes links (Arrive conn count) = is_conn lanes links conn
is_event makers lanes links (Accept conn) = is_conn lanes links conn
is_event makers lanes links (Deliver conn) = is_conn lanes links conn
is_event makers lanes links (Tick host to) = is_place host makers
is_event makers lanes links (Inject conn bytes) = is_link lanes links conn
is_event makers lanes links (CopyBytes conn source from until) = is_link lanes links conn && is_conn lanes links source

abbrev pub events_of : Option (List Event) → List Event
events_of None = []
events_of (Some events) = events

-- ---- a document that was read

abbrev pub has_sizes : Doc → Bool
has_sizes d =
    has_at_most 16 d.hosts && is_between 1 20000 d.budget && has_at_most 256 d.certs && has_at_most 16 d.links
    && has_at_most 20000 (events_of d.events)

abbrev pub has_host_sizes : HostSpec → Bool
has_host_sizes h =
    has_at_most 1024 h.map && has_at_most 32 h.procs && has_at_most 64 h.boxes && has_at_most 32 h.lanes
    && has_at_most 64 h.inlets && is_name h.name && has_secret_length h.secret && is_address_if_some h.address
    && list_all (λ p. nat_le p.made 2147483647) h.procs
    && list_all (λ b. is_between 1 256 b.room) h.boxes && list_all (λ l. is_between 1 256 l.room && nat_lt l.until (2 ^ 64)) h.lanes
    && list_all (λ i. is_between 1 32 i.lane) h.inlets

abbrev pub lane_counts : Doc → List ℕ
lane_counts d = map (λ h. length h.lanes) d.hosts

abbrev pub makers : Doc → List Maker
makers d = map host_maker d.hosts

abbrev pub is_known_in : Doc → Category → Bool
is_known_in d c = is_known (makers d) (origin (host_keys d.hosts) c)

abbrev pub is_made_in : Doc → Category → Bool
is_made_in d c = is_made (makers d) (origin (host_keys d.hosts) c)

pub record IsDocument (d : Doc) : Type 0 where
  pub sizes : has_sizes d ≡ true
  pub host_sizes : list_all has_host_sizes d.hosts ≡ true
  pub labels : All HasLabels d.hosts
  pub given : list_all is_spec_in_range d.certs ≡ true
  pub scripts : All (λ h. All (λ p. IsScript p.script) h.procs) d.hosts
  -- names, keys, slots, lanes and inlets stand once
  pub names : are_different bytes_eq (map (λ h. h.name) d.hosts) ≡ true
  pub keys : are_different same_key (host_keys d.hosts) ≡ true
  pub slots : list_all (λ h. are_different nat_eq (map (λ b. b.slot) h.boxes)) d.hosts ≡ true
  pub lanes : list_all (λ h. are_different same_lane h.lanes) d.hosts ≡ true
  pub inlets : all_places (are_inlets_new (receivers d.hosts)) 0 d.hosts ≡ true
  -- what is named is there
  pub hosts : list_all (λ h. list_all (λ n. is_place n d.hosts) (named_hosts h)) d.hosts ≡ true
  pub cert_hosts : list_all (λ c. list_all (λ n. is_place n d.hosts) (cert_hosts c)) d.certs ≡ true
  pub links : list_all (λ n. is_place n d.hosts) d.links ≡ true
  pub owners : list_all (λ h. list_all (λ b. is_place b.owner h.procs) h.boxes) d.hosts ≡ true
  pub events : list_all (is_event (makers d) (lane_counts d) (length d.links)) (events_of d.events) ≡ true
  -- categories are of hosts and processes of the document; those of labels are made, and those that a state has are mapped
  pub known : list_all (λ h. list_all (is_known_in d) (h.map ++ state_categories h ++ lane_categories h ++ script_categories h)) d.hosts ≡ true
  pub cert_known : list_all (λ c. list_all (is_known_in d) (cert_categories c)) d.certs ≡ true
  pub made : list_all (λ h. list_all (is_made_in d) (state_categories h ++ lane_categories h)) d.hosts ≡ true
  pub mapped : list_all (λ h. list_all (is_mapped (host_key h) h.map) (state_categories h)) d.hosts ≡ true
  pub rows : list_all (λ h. are_rows (host_key h) h.map) d.hosts ≡ true
  -- what setup needs
  pub leaves : all_places (host_has_leaves (signers_of d.certs)) 0 d.hosts ≡ true
  pub addresses : all_places (has_address_room (made_addresses d.hosts) (flat_map given_addresses d.certs)) 0 d.hosts ≡ true
  pub silent : list_all is_bare_if_silent d.hosts ≡ true
  pub signers : list_all (λ n. runs (slice_get (makers d) n)) (signers_of d.certs) ≡ true
