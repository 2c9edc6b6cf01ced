-- Codes 6 to 11, and the address certificates for which a host has no room (5): each rule that a document breaks, and
-- where.
use Rattle.std.specs.Prelude.{ℕ, suc, List, [], ◌∷◌, ◌++◌, length, map, flat_map, slice_get, Bool, ◌&&◌, ◌||◌, not, nat_le, nat_lt, bytes_eq, ◌==◌, if◌then◌else◌, false, Option, Some, None, is_some, option_map}
use Rattle.std.specs.List.{list_all}
use Rattle.ds_cert.specs.declared.cert.Cert.{Cert}
use Rattle.ds_cert.specs.declared.cert.Cert.TheVariants as kinds
use Rattle.ds_cert.specs.Spelling.{spelling_of_address}
use Rattle.ds_plan.specs.declared.host.Secret.{Secret}
use Rattle.ds_plan.specs.declared.host.Secret.TheVariants.{Seed, Key}
use Rattle.ds_plan.specs.declared.maker.Maker.{Maker}
use Rattle.ds_plan.specs.Keys.{key_of, same_key}
use Rattle.ds_plan.specs.Categories.{maker, runs, is_known, is_made}
use Rattle.ds_plan.specs.Documents.{stood, comes_by_lane, is_silent, has_leaves, made_address, is_address_in_range, each_once, has_at_most, is_among, has_process, has_lane, is_conn, is_link}
use Rattle.ds_doc.specs.declared.fault.Fault.{Fault}
use Rattle.ds_doc.specs.declared.draft.Placed.{Placed}
use Rattle.ds_doc.specs.declared.draft.HostName.{HostName}
use Rattle.ds_doc.specs.declared.draft.CategoryName.{CategoryName}
use Rattle.ds_doc.specs.declared.draft.DraftOp.{DraftOp}
use Rattle.ds_doc.specs.declared.draft.DraftOp.TheVariants as ops
use Rattle.ds_doc.specs.declared.draft.DraftProc.{DraftProc}
use Rattle.ds_doc.specs.declared.draft.DraftBox.{DraftBox}
use Rattle.ds_doc.specs.declared.draft.DraftLane.{DraftLane}
use Rattle.ds_doc.specs.declared.draft.DraftInlet.{DraftInlet}
use Rattle.ds_doc.specs.declared.draft.DraftHost.{DraftHost}
use Rattle.ds_doc.specs.declared.draft.DraftCert.{DraftCert}
use Rattle.ds_doc.specs.declared.draft.DraftCert.TheVariants as certs
use Rattle.ds_doc.specs.declared.draft.DraftEvent.{DraftEvent}
use Rattle.ds_doc.specs.declared.draft.DraftEvent.TheVariants as events
use Rattle.ds_doc.specs.declared.draft.Draft.{Draft}
use Rattle.ds_doc.specs.declared.rules.facts.Facts.{Facts}
use Rattle.ds_doc.specs.declared.rules.facts.GivenAt.{GivenAt}
use Rattle.ds_doc.specs.Shapes.{unless}
use Rattle.ds_doc.specs.Names.{number_of, same_host, origin_of, or_empty}
use Rattle.ds_doc.specs.Draft.{same_value}

-- ---- what the rules ask of all hosts

abbrev pub host_maker : DraftHost → Maker
host_maker h = maker h.secret.value (map (λ p. p.made) (or_empty h.procs))

abbrev pub lane_count : DraftHost → ℕ
lane_count h = length (or_empty h.lanes)

abbrev pub receiver : DraftLane → ℕ
receiver l = number_of l.to.value

abbrev pub host_receivers : DraftHost → List ℕ
host_receivers h = map receiver (or_empty h.lanes)

abbrev pub signer_of : DraftCert → List ℕ
signer_of (certs.Made by category to from until at) = number_of by.value ∷ []
signer_of (certs.Given cert at) = []

unfoldable pub facts_of : Draft → Facts
facts_of d = record {
  makers = map host_maker d.hosts;
  lanes = map lane_count d.hosts;
  receivers = map host_receivers d.hosts;
  signers = flat_map signer_of d.certs;
  links = length d.links;
}

-- a rule for each item and its place, from a place on
abbrev pub each_place : {A : Type 0} → (ℕ → A → List Fault) → ℕ → List A → List Fault
each_place rule place [] = []
each_place rule place (x ∷ xs) = rule place x ++ each_place rule (suc place) xs

-- ---- 6: what stood before

-- each item that stood before, behind those that are given, at its place
abbrev pub repeats : {A : Type 0} → (A → A → Bool) → (A → ℕ) → List A → List A → List Fault
repeats same place before [] = []
repeats same place before (x ∷ xs) =
    unless (not (stood same before x)) 6 (place x) ++ repeats same place (before ++ x ∷ []) xs

abbrev pub same_name : DraftHost → DraftHost → Bool
same_name g h = bytes_eq g.name.value h.name.value

abbrev pub name_place : DraftHost → ℕ
name_place h = h.name.at

abbrev pub same_seed : Secret → Secret → Bool
same_seed (Seed a) (Seed b) = bytes_eq a b
same_seed (Seed a) (Key k) = false
same_seed (Key k) b = false

-- one key, made or given, or one seed
unfoldable pub same_secret : DraftHost → DraftHost → Bool
same_secret g h =
    same_key (key_of g.identity g.secret.value) (key_of h.identity h.secret.value)
    || same_seed g.secret.value h.secret.value

abbrev pub secret_place : DraftHost → ℕ
secret_place h = h.secret.at

abbrev pub same_slot : DraftBox → DraftBox → Bool
same_slot a b = a.slot.value == b.slot.value

abbrev pub slot_place : DraftBox → ℕ
slot_place b = b.slot.at

abbrev pub has_each : List (Placed CategoryName) → List (Placed CategoryName) → Bool
has_each xs ys = list_all (λ y. stood same_value xs y) ys

-- one receiver and one set of categories
abbrev pub same_lane : DraftLane → DraftLane → Bool
same_lane a b = same_host a.to.value b.to.value && has_each a.label b.label && has_each b.label a.label

abbrev pub lane_place : DraftLane → ℕ
lane_place l = l.at

abbrev pub same_inlet : DraftInlet → DraftInlet → Bool
same_inlet a b = same_host a.from.value b.from.value && (a.lane == b.lane)

abbrev pub inlet_place : DraftInlet → ℕ
inlet_place i = i.at

-- an inlet that a lane of the document makes
abbrev pub inlet_of_lane : Facts → ℕ → DraftInlet → List Fault
inlet_of_lane facts here i = unless (not (comes_by_lane facts.receivers here (number_of i.from.value) i.lane)) 6 i.at

unfoldable pub repeated_in : Facts → ℕ → DraftHost → List Fault
repeated_in facts here h =
    repeats same_slot slot_place [] (or_empty h.boxes)
    ++ repeats same_lane lane_place [] (or_empty h.lanes)
    ++ repeats same_inlet inlet_place [] (or_empty h.inlets)
    ++ flat_map (inlet_of_lane facts here) (or_empty h.inlets)

unfoldable pub repeated : Facts → Draft → List Fault
repeated facts d =
    repeats same_name name_place [] d.hosts
    ++ repeats same_secret secret_place [] d.hosts
    ++ each_place (repeated_in facts) 0 d.hosts

-- ---- 7: what isn't there

-- the host that a name names
abbrev pub unknown_host : Facts → Placed HostName → List Fault
unknown_host facts name = unless (nat_lt (number_of name.value) (length facts.makers)) 7 name.at

-- the host or process that made a category
abbrev pub unknown_category : Facts → Placed CategoryName → List Fault
unknown_category facts c = unless (is_known facts.makers (origin_of c.value)) 7 c.at

-- the operation to which a jump leads; its script has so many
abbrev pub past_the_end : ℕ → Placed ℕ → List Fault
past_the_end size to = unless (nat_le to.value size) 7 to.at

abbrev pub unknown_categories : Facts → List (Placed CategoryName) → List Fault
unknown_categories facts cs = flat_map (unknown_category facts) cs

unfoldable pub unknown_in_op : Facts → ℕ → DraftOp → List Fault
unknown_in_op facts size (ops.Set reg text) = []
unknown_in_op facts size (ops.Join reg left right) = []
unknown_in_op facts size (ops.IfEq left right to) = past_the_end size to
unknown_in_op facts size (ops.Jump to) = past_the_end size to
unknown_in_op facts size (ops.Print reg) = []
unknown_in_op facts size (ops.Send host slot reg label own clear) =
    unknown_host facts host ++ unknown_categories facts label ++ unknown_categories facts own
    ++ unknown_categories facts clear
unknown_in_op facts size (ops.Take reg slot) = []
unknown_in_op facts size (ops.SetLabel label) = unknown_categories facts label
unknown_in_op facts size (ops.NewCat kind) = []
unknown_in_op facts size (ops.Delegate reg category to from until) =
    unknown_category facts category ++ unknown_host facts to
unknown_in_op facts size (ops.Map category) = unknown_category facts category
unknown_in_op facts size (ops.Import reg) = []

-- ---- 8: a category that is still to be made; 9: one that the host's map hasn't, or a home one in the map

abbrev pub unmade : Facts → Placed CategoryName → List Fault
unmade facts c = unless (is_made facts.makers (origin_of c.value)) 8 c.at

abbrev pub is_home : ℕ → CategoryName → Bool
is_home here c = number_of c.host == here

abbrev pub unmapped : ℕ → List (Placed CategoryName) → Placed CategoryName → List Fault
unmapped here rows c = unless (is_home here c.value || stood same_value rows c) 9 c.at

-- what is asked of each category of a map; of a process's label, ownership and clearance and of a mailbox's label; and
-- of a lane's label
unfoldable pub row_rules : Facts → ℕ → Placed CategoryName → List Fault
row_rules facts here c = unknown_category facts c ++ unless (not (is_home here c.value)) 9 c.at

unfoldable pub state_rules : Facts → ℕ → List (Placed CategoryName) → Placed CategoryName → List Fault
state_rules facts here rows c = unknown_category facts c ++ unmade facts c ++ unmapped here rows c

unfoldable pub lane_category_rules : Facts → Placed CategoryName → List Fault
lane_category_rules facts c = unknown_category facts c ++ unmade facts c

unfoldable pub proc_rules : Facts → ℕ → List (Placed CategoryName) → DraftProc → List Fault
proc_rules facts here rows p =
    flat_map (state_rules facts here rows) p.label
    ++ flat_map (state_rules facts here rows) p.own
    ++ flat_map (state_rules facts here rows) p.clear
    ++ flat_map (unknown_in_op facts (length p.script)) p.script

-- its owner is one of the host's processes, which are so many
unfoldable pub box_rules : Facts → ℕ → List (Placed CategoryName) → ℕ → DraftBox → List Fault
box_rules facts here rows procs b =
    unless (nat_lt b.owner.value procs) 7 b.owner.at ++ flat_map (state_rules facts here rows) b.label

unfoldable pub lane_rules : Facts → DraftLane → List Fault
lane_rules facts l = unknown_host facts l.to ++ flat_map (lane_category_rules facts) l.label

abbrev pub inlet_rules : Facts → DraftInlet → List Fault
inlet_rules facts i = unknown_host facts i.from

-- ---- 10: more signatures than leaves; 11: what a silent host has

abbrev pub overspent : Facts → ℕ → DraftHost → List Fault
overspent facts here h =
    unless (has_leaves facts.signers here h.identity h.secret.value (is_some h.address) (lane_count h)) 10 h.at

abbrev pub silent_part : {A : Type 0} → Bool → Option (Placed A) → List Fault
silent_part silent None = []
silent_part silent (Some part) = unless (not silent) 11 part.at

unfoldable pub silent_parts : DraftHost → List Fault
silent_parts h =
    let silent = is_silent h.secret.value in
    silent_part silent h.procs
    ++ silent_part silent h.boxes
    ++ silent_part silent h.lanes
    ++ silent_part silent h.inlets
    ++ silent_part silent h.map
    ++ silent_part silent h.address

-- ---- a host as a whole, without what stands once

unfoldable pub host_rules : Facts → ℕ → DraftHost → List Fault
host_rules facts here h =
    let rows = or_empty h.map in
    flat_map (row_rules facts here) rows
    ++ flat_map (proc_rules facts here rows) (or_empty h.procs)
    ++ flat_map (box_rules facts here rows (length (or_empty h.procs))) (or_empty h.boxes)
    ++ flat_map (lane_rules facts) (or_empty h.lanes)
    ++ flat_map (inlet_rules facts) (or_empty h.inlets)
    ++ overspent facts here h
    ++ silent_parts h

-- ---- certificates and events

abbrev pub silent_signer : Facts → Placed HostName → List Fault
silent_signer facts by = unless (runs (slice_get facts.makers (number_of by.value))) 11 by.at

unfoldable pub cert_rules : Facts → DraftCert → List Fault
cert_rules facts (certs.Made by category to from until at) =
    unknown_host facts by
    ++ silent_signer facts by
    ++ unknown_category facts category
    ++ unknown_host facts to
    ++ flat_map (unknown_host facts) at
cert_rules facts (certs.Given cert at) = flat_map (unknown_host facts) at

abbrev pub unknown_conn : Facts → Placed ℕ → List Fault
unknown_conn facts conn = unless (is_conn facts.lanes facts.links conn.value) 7 conn.at

abbrev pub unknown_link : Facts → Placed ℕ → List Fault
unknown_link facts conn = unless (is_link facts.lanes facts.links conn.value) 7 conn.at

unfoldable pub event_rules : Facts → DraftEvent → List Fault
event_rules facts (events.Step host index) =
    unknown_host facts host
    ++ unless (has_process index.value (slice_get facts.makers (number_of host.value))) 7 index.at
event_rules facts (events.Frame host lane) =
    unknown_host facts host
    ++ unless (runs (slice_get facts.makers (number_of host.value))
    && has_lane lane.value (slice_get facts.lanes (number_of host.value))) 7 lane.at
event_rules facts (events.Arrive conn count) = unknown_conn facts conn
event_rules facts (events.Accept conn) = unknown_conn facts conn
event_rules facts (events.Deliver conn) = unknown_conn facts conn
event_rules facts (events.Tick host to) = unknown_host facts host
event_rules facts (events.Inject conn bytes) = unknown_link facts conn
event_rules facts (events.CopyBytes conn source from until) = unknown_link facts conn ++ unknown_conn facts source

abbrev pub or_none : {A : Type 0} → Option (List A) → List A
or_none None = []
or_none (Some xs) = xs

-- ---- 5: address certificates for which a host has no room

abbrev pub host_address : DraftHost → List (List ℕ)
host_address h = made_address h.identity h.secret.value (option_map (λ a. a.value) h.address)

abbrev pub if_address : ℕ → List ℕ → Cert → List GivenAt
if_address at keepers (kinds.Delegation d) = []
if_address at keepers (kinds.Address a) =
    if is_address_in_range a then record { at = at; bytes = spelling_of_address a; keepers = keepers } ∷ [] else []

abbrev pub numbers : List (Placed HostName) → List ℕ
numbers names = map (λ n. number_of n.value) names

unfoldable pub given_in : DraftCert → List GivenAt
given_in (certs.Made by category to from until at) = []
given_in (certs.Given cert at) = if_address cert.at (numbers at) cert.value

abbrev pub with_bytes : List (List ℕ) → List ℕ → List (List ℕ)
with_bytes kept bytes = each_once bytes_eq kept (bytes ∷ [])

-- each that is given to the host, behind those that it has, and is one too many
abbrev pub no_room : ℕ → List (List ℕ) → List GivenAt → List Fault
no_room here kept [] = []
no_room here kept (g ∷ given) =
    if is_among here g.keepers
    then unless (has_at_most 64 (with_bytes kept g.bytes)) 5 g.at ++ no_room here (with_bytes kept g.bytes) given
    else no_room here kept given

abbrev pub no_room_at : List (List ℕ) → List GivenAt → ℕ → DraftHost → List Fault
no_room_at made given here h = if is_silent h.secret.value then [] else no_room here made given

unfoldable pub over_full : Draft → List Fault
over_full d =
    each_place
    (no_room_at (each_once bytes_eq [] (flat_map host_address d.hosts)) (flat_map given_in d.certs)) 0 d.hosts

-- ---- all rules

unfoldable pub rules_by : Facts → Draft → List Fault
rules_by facts d =
    repeated facts d
    ++ each_place (host_rules facts) 0 d.hosts
    ++ flat_map (unknown_host facts) d.links
    ++ flat_map (cert_rules facts) d.certs
    ++ flat_map (event_rules facts) (or_none d.events)

unfoldable pub rules : Draft → List Fault
rules d = rules_by (facts_of d) d
