-- What a document says, with its places. Each function also answers where a form or a limit isn't kept: by a default,
-- the nearest number, or the first items.
use Rattle.std.specs.Prelude.{ℕ, ◌-◌, ◌^◌, min, max, List, [], ◌∷◌, ◌++◌, length, map, flat_map, replicate, take, codes, Bool, nat_le, nat_eq, ◌||◌, if◌then◌else◌, Option, Some, None, option_map, unwrap_or, Result, Ok, Err}
use Rattle.hex.specs.Hex as hex
use Rattle.lms_sig.specs.declared.params.Params.{Params}
use Rattle.lms_sig.specs.declared.params.LmsType.{LmsType}
use Rattle.lms_sig.specs.declared.params.LmsType.TheVariants.{H5, H10}
use Rattle.lms_sig.specs.declared.params.OtsType.{OtsType}
use Rattle.lms_sig.specs.declared.params.OtsType.TheVariants.{W4, W8}
use Rattle.ds_label.specs.declared.category.Kind.{Kind}
use Rattle.ds_label.specs.declared.category.Kind.TheVariants.{Secrecy}
use Rattle.ds_cert.specs.declared.cert.Cert.{Cert}
use Rattle.ds_cert.specs.Reading.{read_cert}
use Rattle.ds_plan.specs.declared.host.Secret.{Secret}
use Rattle.ds_plan.specs.declared.host.Secret.TheVariants as secrets
use Rattle.ds_plan.specs.Documents.{stood, is_name, is_address, is_cert_in_range}
use Rattle.ds_doc.specs.declared.draft.Placed.{Placed}
use Rattle.ds_doc.specs.declared.draft.HostName.{HostName}
use Rattle.ds_doc.specs.declared.draft.HostName.TheVariants.{Known, Unknown}
use Rattle.ds_doc.specs.declared.draft.CategoryName.{CategoryName}
use Rattle.ds_doc.specs.declared.draft.DraftOp.{DraftOp}
use Rattle.ds_doc.specs.declared.draft.DraftOp.TheVariants as ops
use Rattle.ds_doc.specs.declared.draft.DraftProc.{DraftProc}
use Rattle.ds_doc.specs.declared.draft.DraftBox.{DraftBox}
use Rattle.ds_doc.specs.declared.draft.DraftLane.{DraftLane}
use Rattle.ds_doc.specs.declared.draft.DraftInlet.{DraftInlet}
use Rattle.ds_doc.specs.declared.draft.DraftHost.{DraftHost}
use Rattle.ds_doc.specs.declared.draft.DraftCert.{DraftCert}
use Rattle.ds_doc.specs.declared.draft.DraftCert.TheVariants as certs
use Rattle.ds_doc.specs.declared.draft.DraftEvent.{DraftEvent}
use Rattle.ds_doc.specs.declared.draft.DraftEvent.TheVariants as events
use Rattle.ds_doc.specs.declared.draft.Draft.{Draft}
use Rattle.ds_doc.specs.Places.{◌⊕◌, Spot, same_text, items, member, member_items, member_text, member_number, number, text, or_default}
use Rattle.ds_doc.specs.Texts.{Named, category_of, register_of, kind_of}
use Rattle.ds_doc.specs.Names.{same_named}

-- ---- numbers and texts

-- the nearest number from low to high
abbrev pub nearest : ℕ → ℕ → ℕ → ℕ
nearest low high n = max low (min n high)

abbrev pub word : Spot → ℕ
word s = min (number s) (2 ^ 32 - 1)

-- the number that a member is
abbrev pub nearest_at : List ℕ → ℕ → ℕ → ℕ → Spot → ℕ
nearest_at name default low high s = nearest low high (member_number name default s)

abbrev pub long : Spot → ℕ
long s = min (number s) (2 ^ 64 - 1)

abbrev pub long_at : List ℕ → ℕ → Spot → ℕ
long_at name default s = min (member_number name default s) (2 ^ 64 - 1)

abbrev pub placed_word : Spot → Placed ℕ
placed_word s = record { at = s.at; value = word s }

-- what a member is, by its place and value; where it is missing, the default at the object's place
abbrev pub at_member : {A : Type 0} → List ℕ → A → (Spot → A) → Spot → Placed A
at_member name default read s =
    or_default (record { at = s.at; value = default }) (λ t. record { at = t.at; value = read t }) (member name s)

-- the first items of the list that a member is
abbrev pub first_items : List ℕ → ℕ → Spot → List Spot
first_items name most s = take most (member_items name s)

abbrev pub written : {A : Type 0} → List ℕ → ℕ → (List Spot → A) → Spot → Option (Placed A)
written name most read s = option_map (λ t. record { at = t.at; value = read (take most (items t)) }) (member name s)

abbrev pub register : Spot → ℕ
register s = min (unwrap_or (register_of (text s)) 0) 7

abbrev pub kind : Spot → Kind
kind s = unwrap_or (kind_of (text s)) Secrecy

-- ---- hosts and categories by their names

-- the place of the first name, counted from a place on
abbrev pub host_from : ℕ → List (List ℕ) → List ℕ → HostName
host_from place [] s = Unknown s
host_from place (name ∷ names) s = if same_text name s then Known place else host_from (place ⊕ 1) names s

unfoldable pub host_named : List (List ℕ) → List ℕ → HostName
host_named names s = host_from 0 names s

abbrev pub placed_host : List (List ℕ) → Spot → Placed HostName
placed_host names s = record { at = s.at; value = host_named names (text s) }

abbrev pub no_host : HostName
no_host = Unknown []

abbrev pub host_at : List (List ℕ) → List ℕ → Spot → Placed HostName
host_at names name s = at_member name no_host (λ t. host_named names (text t)) s

abbrev pub no_category : CategoryName
no_category = record { host = no_host; process = 0; number = 0; kind = Secrecy }

abbrev pub by_its_host : List (List ℕ) → Named → CategoryName
by_its_host names c = record { host = host_named names c.host; process = c.process; number = c.number; kind = c.kind }

unfoldable pub category_named : List (List ℕ) → List ℕ → CategoryName
category_named names s = or_default no_category (by_its_host names) (category_of s)

abbrev pub placed_category : List (List ℕ) → Spot → Placed CategoryName
placed_category names s = record { at = s.at; value = category_named names (text s) }

abbrev pub category_at : List (List ℕ) → List ℕ → Spot → Placed CategoryName
category_at names name s = at_member name no_category (λ t. category_named names (text t)) s

abbrev pub same_value : Placed CategoryName → Placed CategoryName → Bool
same_value a b = same_named a.value b.value

-- a set with one category more, unless it is there or the set is full
abbrev pub with_one : ℕ → List (Placed CategoryName) → Placed CategoryName → List (Placed CategoryName)
with_one most set c = if stood same_value set c || nat_le most (length set) then set else set ++ c ∷ []

abbrev pub with_each : ℕ → List (Placed CategoryName) → List (Placed CategoryName) → List (Placed CategoryName)
with_each most set [] = set
with_each most set (c ∷ cs) = with_each most (with_one most set c) cs

-- a list of categories is a set: each counts where it stands first
unfoldable pub set_of : ℕ → List (List ℕ) → List Spot → List (Placed CategoryName)
set_of most names spots = with_each most [] (map (placed_category names) spots)

abbrev pub label_of : List (List ℕ) → List Spot → List (Placed CategoryName)
label_of names spots = set_of 64 names spots

abbrev pub label_at : List (List ℕ) → List ℕ → Spot → List (Placed CategoryName)
label_at names name s = label_of names (member_items name s)

-- ---- operations

abbrev pub of_one : List (List ℕ) → List ℕ → Spot → DraftOp
of_one names w a =
    if same_text w (codes "jump") then ops.Jump (placed_word a)
    else if same_text w (codes "print") then ops.Print (register a)
    else if same_text w (codes "label") then ops.SetLabel (label_of names (items a))
    else if same_text w (codes "newcat") then ops.NewCat (kind a)
    else if same_text w (codes "map") then ops.Map (placed_category names a)
    else ops.Import (register a)

abbrev pub of_two : List ℕ → Spot → Spot → DraftOp
of_two w a b =
    if same_text w (codes "set") then ops.Set (register a) (take 16384 (text b)) else ops.Take (register a) (word b)

abbrev pub of_three : List ℕ → Spot → Spot → Spot → DraftOp
of_three w a b c =
    if same_text w (codes "join")
    then ops.Join (register a) (register b) (register c)
    else ops.IfEq (register a) (register b) (placed_word c)

abbrev pub no_op : DraftOp
no_op = ops.Print 0

abbrev pub of_five : List (List ℕ) → Spot → Spot → Spot → Spot → Spot → DraftOp
of_five names r category to from until =
    ops.Delegate (register r) (placed_category names category) (placed_host names to) (long from) (long until)

abbrev pub of_six : List (List ℕ) → Spot → Spot → Spot → Spot → Spot → Spot → DraftOp
of_six names to slot r label own clear =
    ops.Send (placed_host names to) (word slot) (register r) (label_of names (items label)) (label_of names (items own))
    (label_of names (items clear))

-- by the count of arguments; the word tells operations with one count apart
abbrev pub op_of : List (List ℕ) → List ℕ → List Spot → DraftOp
op_of names w [] = no_op
op_of names w (a ∷ []) = of_one names w a
op_of names w (a ∷ b ∷ []) = of_two w a b
op_of names w (a ∷ b ∷ c ∷ []) = of_three w a b c
op_of names w (a ∷ b ∷ c ∷ d ∷ []) = no_op
op_of names w (r ∷ category ∷ to ∷ from ∷ until ∷ []) = of_five names r category to from until
op_of names w (to ∷ slot ∷ r ∷ label ∷ own ∷ clear ∷ []) = of_six names to slot r label own clear
op_of names w (a ∷ b ∷ c ∷ d ∷ e ∷ f ∷ g ∷ others) = no_op

abbrev pub by_word : List (List ℕ) → List Spot → DraftOp
by_word names [] = no_op
by_word names (w ∷ arguments) = op_of names (text w) arguments

unfoldable pub operation : List (List ℕ) → Spot → DraftOp
operation names s = by_word names (items s)

-- ---- hosts

unfoldable pub proc_of : List (List ℕ) → Spot → DraftProc
proc_of names p = record {
  made = nearest_at (codes "made") 0 0 2147483647 p;
  label = label_at names (codes "label") p;
  own = label_at names (codes "own") p;
  clear = label_at names (codes "clear") p;
  script = map (operation names) (first_items (codes "script") 4096 p);
}

unfoldable pub box_of : List (List ℕ) → Spot → DraftBox
box_of names b = record {
  slot = at_member (codes "slot") 0 word b;
  owner = at_member (codes "proc") 0 word b;
  label = label_at names (codes "label") b;
  room = nearest_at (codes "room") 1 1 256 b;
}

unfoldable pub lane_of : List (List ℕ) → Spot → DraftLane
lane_of names l = record {
  at = l.at;
  to = host_at names (codes "to") l;
  label = label_at names (codes "label") l;
  room = nearest_at (codes "room") 1 1 256 l;
  until = long_at (codes "until") (2 ^ 64 - 1) l;
}

unfoldable pub inlet_of : List (List ℕ) → Spot → DraftInlet
inlet_of names i =
    record { at = i.at; from = host_at names (codes "from") i; lane = nearest_at (codes "lane") 1 1 32 i }

-- the bytes of so many hex digits
abbrev pub bytes_or : {E : Type 0} → ℕ → Result (List ℕ) E → List ℕ
bytes_or size (Ok bytes) = if nat_eq (length bytes) size then bytes else replicate size 0
bytes_or size (Err e) = replicate size 0

unfoldable pub seed_bytes : List ℕ → List ℕ
seed_bytes s = bytes_or 32 (hex.decode_sized s 32)

unfoldable pub key_bytes : List ℕ → List ℕ
key_bytes s = bytes_or 56 (hex.decode_sized s 56)

-- a host with a key in place of a seed is silent
abbrev pub placed_key : Spot → Placed Secret
placed_key h =
    at_member (codes "key") (secrets.Key (record { 0 = key_bytes [] }))
    (λ t. secrets.Key (record { 0 = key_bytes (text t) })) h

unfoldable pub secret_of : Spot → Placed Secret
secret_of h =
    or_default (placed_key h) (λ t. record { at = t.at; value = secrets.Seed (seed_bytes (text t)) })
    (member (codes "seed") h)

-- `5.3`, `5.4`, `6.3` or `6.4`: the height's type and the digits' type
abbrev pub lms_of : List ℕ → LmsType
lms_of [] = H10
lms_of (a ∷ others) = if same_text (a ∷ []) (codes "5") then H5 else H10

abbrev pub ots_of : List ℕ → OtsType
ots_of (a ∷ b ∷ c ∷ []) = if same_text (c ∷ []) (codes "4") then W8 else W4
ots_of _ = W4

unfoldable pub types_of : List ℕ → Params
types_of s = record { lms = lms_of s; ots = ots_of s }

-- the types of a host's key; `6.3` where it doesn't say
unfoldable pub types_at : List ℕ → Spot → Params
types_at name host = or_default (types_of (codes "6.3")) (λ s. types_of (text s)) (member name host)

abbrev pub name_or : List ℕ → List ℕ
name_or s = if is_name s then s else codes "-"

abbrev pub address_or : List ℕ → List ℕ
address_or s = if is_address s then s else codes "-"

unfoldable pub address_of : Spot → Option (Placed (List ℕ))
address_of h = option_map (λ t. record { at = t.at; value = address_or (text t) }) (member (codes "address") h)

unfoldable pub host_of : List (List ℕ) → Spot → DraftHost
host_of names h = record {
  at = h.at;
  name = at_member (codes "name") (codes "-") (λ t. name_or (text t)) h;
  secret = secret_of h;
  identity = types_at (codes "identity") h;
  lanekey = types_at (codes "lanekey") h;
  address = address_of h;
  map = option_map (λ t. record { at = t.at; value = set_of 1024 names (items t) }) (member (codes "map") h);
  procs = written (codes "procs") 32 (map (proc_of names)) h;
  boxes = written (codes "boxes") 64 (map (box_of names)) h;
  lanes = written (codes "lanes") 32 (map (lane_of names)) h;
  inlets = written (codes "inlets") 64 (map (inlet_of names)) h;
}

-- ---- certificates

abbrev pub in_list : {A : Type 0} → Option A → List A
in_list None = []
in_list (Some x) = x ∷ []

-- what is read is in range
abbrev pub if_in_range : Cert → Option Cert
if_in_range c = if is_cert_in_range c then Some c else None

abbrev pub spelled : Result Cert ℕ → Option Cert
spelled (Ok c) = if_in_range c
spelled (Err place) = None

abbrev pub given_cert : {E : Type 0} → Result (List ℕ) E → Option Cert
given_cert (Ok bytes) = spelled (read_cert bytes)
given_cert (Err e) = None

abbrev pub hosts_at : List (List ℕ) → List ℕ → Spot → List (Placed HostName)
hosts_at names name s = map (placed_host names) (member_items name s)

abbrev pub cert_by : List (List ℕ) → Spot → Option Spot → Option DraftCert
cert_by names c (Some h) =
    option_map (λ cert. certs.Given (record { at = h.at; value = cert }) (hosts_at names (codes "at") c))
    (given_cert (hex.decode_of (text h)))
cert_by names c None = Some (certs.Made
    (host_at names (codes "by") c)
    (category_at names (codes "cat") c)
    (host_at names (codes "to") c)
    (long_at (codes "from") 0 c)
    (long_at (codes "until") 0 c)
    (hosts_at names (codes "at") c))

unfoldable pub cert_of : List (List ℕ) → Spot → List DraftCert
cert_of names c = in_list (cert_by names c (member (codes "hex") c))

-- ---- events

abbrev pub bytes_of : {E : Type 0} → Result (List ℕ) E → List ℕ
bytes_of (Ok bytes) = bytes
bytes_of (Err e) = []

abbrev pub of_conn : List ℕ → Spot → DraftEvent
of_conn w conn =
    if same_text w (codes "accept") then events.Accept (placed_word conn) else events.Deliver (placed_word conn)

abbrev pub of_both : List (List ℕ) → List ℕ → Spot → Spot → DraftEvent
of_both names w a b =
    if same_text w (codes "step") then events.Step (placed_host names a) (placed_word b)
    else if same_text w (codes "frame") then events.Frame (placed_host names a) (placed_word b)
    else if same_text w (codes "tick") then events.Tick (placed_host names a) (long b)
    else if same_text w (codes "arrive") then events.Arrive (placed_word a) (long b)
    else events.Inject (placed_word a) (bytes_of (hex.decode_of (text b)))

abbrev pub of_four : Spot → Spot → Spot → Spot → DraftEvent
of_four conn source from until = events.CopyBytes (placed_word conn) (placed_word source) (long from) (long until)

abbrev pub event_by : List (List ℕ) → List Spot → List DraftEvent
event_by names (w ∷ conn ∷ []) = of_conn (text w) conn ∷ []
event_by names (w ∷ a ∷ b ∷ []) = of_both names (text w) a b ∷ []
event_by names (w ∷ conn ∷ source ∷ from ∷ until ∷ []) = of_four conn source from until ∷ []
event_by names _ = []

unfoldable pub event_of : List (List ℕ) → Spot → List DraftEvent
event_of names s = event_by names (items s)

-- ---- the document

-- the names of the hosts
unfoldable pub host_names : Spot → List (List ℕ)
host_names root = map (member_text (codes "name")) (first_items (codes "hosts") 16 root)

unfoldable pub draft_by : List (List ℕ) → Spot → Draft
draft_by names root = record {
  hosts = map (host_of names) (first_items (codes "hosts") 16 root);
  moment = long_at (codes "moment") 0 root;
  budget = nearest_at (codes "budget") 1000 1 20000 root;
  certs = flat_map (cert_of names) (first_items (codes "certs") 256 root);
  links = map (placed_host names) (first_items (codes "links") 16 root);
  events = option_map (λ t. flat_map (event_of names) (take 20000 (items t))) (member (codes "events") root);
}

unfoldable pub draft_of : Spot → Draft
draft_of root = draft_by (host_names root) root
