-- What is read keeps its limits.
use Rattle.std.proofs.Common.{◌≡◌, ◌≤◌, ℕ, zero, suc, ◌-◌, ◌^◌, min, max, List, [], ◌∷◌, ◌++◌, length, map, flat_map, take, replicate, codes, slice_get, Bool, true, false, ◌||◌, not, nat_le, nat_lt, nat_eq, Option, Some, None, option_map, Result, Ok, Err, refl, sym, subst, arith, if◌then◌else◌}
use Rattle.std.specs.List.{list_all, list_any}
use Rattle.std.proofs.lemmas.List.{length-map, length-take, length-append}
use Rattle.std.proofs.lemmas.Bool.{and_from, lt-ltb, le-leb, leb-false}
use Rattle.hex.specs.Hex as hex
use Rattle.ds_cert.specs.declared.cert.Cert.{Cert}
use Rattle.ds_cert.specs.Reading.{read_cert}
use Rattle.ds_plan.specs.Documents.{stood, are_new, are_different, is_between, has_at_most, is_name, is_address, has_secret_length, is_address_if_some, is_cert_in_range}
use Rattle.ds_plan.specs.declared.host.Secret.{Secret}
use Rattle.ds_doc.specs.declared.draft.Placed.{Placed}
use Rattle.ds_doc.specs.declared.draft.CategoryName.{CategoryName}
use Rattle.ds_doc.specs.declared.draft.DraftOp.{DraftOp}
use Rattle.ds_doc.specs.declared.draft.DraftCert.TheVariants as certs
use Rattle.ds_doc.specs.Places.{Spot, same_text, items, member, member_items, member_number, text, or_default}
use Rattle.ds_doc.specs.Names.{or_empty}
use Rattle.ds_doc.specs.Rules.{or_none}
use Rattle.ds_doc.specs.Values.{address}
use Rattle.ds_doc.specs.Draft as drafts
use Rattle.ds_doc.specs.Draft.{same_value, with_one, with_each, set_of, nearest, draft_of, draft_by, host_of}
use Rattle.ds_doc.proofs.Faults.{and_first, and_second, all_flat}
use Rattle.ds_doc.proofs.Hosts.{HostLimits, reg_fits, op_limits, proc_limits, box_limits, lane_limits, inlet_limits}
use Rattle.ds_doc.proofs.Whole.{Limits, cert_limits}

-- ---- lists and numbers

take_few : {A B : Type 0} (most : ℕ) (f : A → B) (xs : List A) → has_at_most most (map f (take most xs)) ≡ true
take_few most f xs = le-leb _ _ (omega (arith, length-map (take most xs) f, length-take most xs))

first_few : {A : Type 0} (most : ℕ) (xs : List A) → length (take most xs) ≤ most
first_few most xs = omega (arith, length-take most xs)

between : (low high n : ℕ) → low ≤ high → is_between low high (nearest low high n) ≡ true
between low high n h = and_from _ _ (le-leb low (max low (min n high)) (omega (arith, h))) (le-leb (max low (min n high)) high (omega (arith, h)))

flat_few : {A B : Type 0} (f : A → List B) (xs : List A) → ((x : A) → length (f x) ≤ 1) → length (flat_map f xs) ≤ length xs
flat_few f [] h = omega arith
flat_few f (x ∷ xs) h = omega (arith, h x, flat_few f xs h, length-append (f x) (flat_map f xs))

each_all : {A B : Type 0} (test : B → Bool) (f : A → B) (xs : List A) → ((x : A) → test (f x) ≡ true) → list_all test (map f xs) ≡ true
each_all test f [] h = refl
each_all test f (x ∷ xs) h = and_from (test (f x)) (list_all test (map f xs)) (h x) (each_all test f xs h)

flat_all : {A B : Type 0} (test : B → Bool) (f : A → List B) (xs : List A) → ((x : A) → list_all test (f x) ≡ true) → list_all test (flat_map f xs) ≡ true
flat_all test f xs h = all_flat test f xs (same test f xs h)
  where
    same : {C D : Type 0} (p : D → Bool) (g : C → List D) (ys : List C) → ((y : C) → list_all p (g y) ≡ true) → list_all (λ y. list_all p (g y)) ys ≡ true
    same p g [] k = refl
    same p g (y ∷ ys) k = and_from (list_all p (g y)) (list_all (λ z. list_all p (g z)) ys) (k y) (same p g ys k)

-- ---- sets of categories

new_push : {A : Type 0} (same : A → A → Bool) (before xs : List A) (c : A) → are_new same before xs ≡ true → stood same (before ++ xs) c ≡ false → are_new same before (xs ++ c ∷ []) ≡ true
new_push same before [] c e h = and_from (not (stood same before c)) true (not_from (stood same before c) (subst (λ ys. stood same ys c ≡ false) (Rattle.std.proofs.lemmas.List.append-nil before) h)) refl
  where
    not_from : (b : Bool) → b ≡ false → not b ≡ true
    not_from true g = absurd cc
    not_from false g = refl
new_push same before (x ∷ xs) c e h =
    and_from (not (stood same before x)) _ (and_first (not (stood same before x)) (are_new same (before ++ x ∷ []) xs) e)
    (new_push same (before ++ x ∷ []) xs c (and_second (not (stood same before x)) (are_new same (before ++ x ∷ []) xs) e)
    (subst (λ ys. stood same ys c ≡ false) (sym (Rattle.std.proofs.lemmas.List.append_assoc before (x ∷ []) xs)) h))

record IsSet (most : ℕ) (set : List (Placed CategoryName)) : Type 0 where
  few : length set ≤ most
  once : are_different same_value set ≡ true

one_is : (most : ℕ) (set : List (Placed CategoryName)) (c : Placed CategoryName) (there full : Bool) → stood same_value set c ≡ there → nat_le most (length set) ≡ full → IsSet most set
    → IsSet most (if there || full then set else set ++ c ∷ [])
one_is most set c true full e g is = is
one_is most set c false true e g is = is
one_is most set c false false e g is = record {
  few = omega (arith, leb-false most (length set) g, length-append set (c ∷ []));
  once = new_push same_value [] set c is.once e;
}

each_is : (most : ℕ) (set cs : List (Placed CategoryName)) → IsSet most set → IsSet most (with_each most set cs)
each_is most set [] is = is
each_is most set (c ∷ cs) is = each_is most (with_one most set c) cs (one_is most set c (stood same_value set c) (nat_le most (length set)) refl refl is)

set_is : (most : ℕ) (names : List (List ℕ)) (spots : List Spot) → IsSet most (set_of most names spots)
unfolding set_of
set_is most names spots = each_is most [] (map (drafts.placed_category names) spots) (record { few = omega arith; once = refl })

-- ---- operations

reg_is : (n : ℕ) → reg_fits (min n 7) ≡ true
reg_is n = lt-ltb (min n 7) 8 (omega arith)

reg_at : (s : Spot) → reg_fits (drafts.register s) ≡ true
reg_at s = reg_is (Rattle.std.specs.Option.unwrap_or (Rattle.ds_doc.specs.Texts.register_of (text s)) 0)

either : (b : Bool) (x y : DraftOp) → op_limits x ≡ true → op_limits y ≡ true → op_limits (if b then x else y) ≡ true
either true x y e g = e
either false x y e g = g

one_fits : (names : List (List ℕ)) (w : List ℕ) (a : Spot) → op_limits (drafts.of_one names w a) ≡ true
one_fits names w a =
    either (same_text w (codes "jump")) _ _ refl
    (either (same_text w (codes "print")) _ _ (reg_at a)
    (either (same_text w (codes "label")) _ _ refl
    (either (same_text w (codes "newcat")) _ _ refl
    (either (same_text w (codes "map")) _ _ refl (reg_at a)))))

two_fits : (w : List ℕ) (a b : Spot) → op_limits (drafts.of_two w a b) ≡ true
two_fits w a b = either (same_text w (codes "set")) _ _ (and_from _ _ (reg_at a) (le-leb _ _ (first_few 16384 (text b)))) (reg_at a)

three_fits : (w : List ℕ) (a b c : Spot) → op_limits (drafts.of_three w a b c) ≡ true
three_fits w a b c = either (same_text w (codes "join")) _ _ (and_from _ _ (reg_at a) (and_from _ _ (reg_at b) (reg_at c))) (and_from _ _ (reg_at a) (reg_at b))

op_fits : (names : List (List ℕ)) (w : List ℕ) (xs : List Spot) → op_limits (drafts.op_of names w xs) ≡ true
op_fits names w [] = refl
op_fits names w (a ∷ []) = one_fits names w a
op_fits names w (a ∷ b ∷ []) = two_fits w a b
op_fits names w (a ∷ b ∷ c ∷ []) = three_fits w a b c
op_fits names w (a ∷ b ∷ c ∷ d ∷ []) = refl
op_fits names w (a ∷ b ∷ c ∷ d ∷ e ∷ []) = reg_at a
op_fits names w (a ∷ b ∷ c ∷ d ∷ e ∷ f ∷ []) = reg_at c
op_fits names w (a ∷ b ∷ c ∷ d ∷ e ∷ f ∷ g ∷ xs) = refl

word_fits : (names : List (List ℕ)) (xs : List Spot) → op_limits (drafts.by_word names xs) ≡ true
word_fits names [] = refl
word_fits names (w ∷ xs) = op_fits names (text w) xs

operation_fits : (names : List (List ℕ)) (s : Spot) → op_limits (drafts.operation names s) ≡ true
unfolding drafts.operation
operation_fits names s = word_fits names (items s)

-- ---- parts of hosts

proc_fits : (names : List (List ℕ)) (p : Spot) → proc_limits (drafts.proc_of names p) ≡ true
unfolding drafts.proc_of
proc_fits names p =
    and_from _ _ (and_second _ _ (between 0 2147483647 (member_number (codes "made") 0 p) (omega arith)))
    (and_from _ _ (take_few 4096 (drafts.operation names) (member_items (codes "script") p)) (each_all op_limits (drafts.operation names) (take 4096 (member_items (codes "script") p)) (operation_fits names)))

box_fits : (names : List (List ℕ)) (b : Spot) → box_limits (drafts.box_of names b) ≡ true
unfolding drafts.box_of
box_fits names b = between 1 256 (member_number (codes "room") 1 b) (omega arith)

lane_fits : (names : List (List ℕ)) (l : Spot) → lane_limits (drafts.lane_of names l) ≡ true
unfolding drafts.lane_of
lane_fits names l =
    and_from _ _ (and_from _ _ (between 1 256 (member_number (codes "room") 1 l) (omega arith)) (below (member_number (codes "until") (2 ^ 64 - 1) l)))
    (le-leb _ _ (few_of (set_is 64 names (member_items (codes "label") l))))
  where
    below : (n : ℕ) → nat_lt (min n (2 ^ 64 - 1)) (2 ^ 64) ≡ true
    below n = lt-ltb (min n (2 ^ 64 - 1)) (2 ^ 64) (omega arith)

    few_of : {set : List (Placed CategoryName)} → IsSet 64 set → length set ≤ 64
    few_of is = is.few

inlet_fits : (names : List (List ℕ)) (i : Spot) → inlet_limits (drafts.inlet_of names i) ≡ true
unfolding drafts.inlet_of
inlet_fits names i = between 1 32 (member_number (codes "lane") 1 i) (omega arith)

written_few : {B : Type 0} (most : ℕ) (f : Spot → B) (o : Option Spot) → has_at_most most (or_empty (option_map (λ t. record { at = t.at; value = map f (take most (items t)) }) o)) ≡ true
written_few most f None = le-leb 0 most (omega arith)
written_few most f (Some t) = take_few most f (items t)

written_all : {B : Type 0} (most : ℕ) (f : Spot → B) (test : B → Bool) (o : Option Spot) → ((s : Spot) → test (f s) ≡ true)
    → list_all test (or_empty (option_map (λ t. record { at = t.at; value = map f (take most (items t)) }) o)) ≡ true
written_all most f test None h = refl
written_all most f test (Some t) h = each_all test f (take most (items t)) h

map_few : (names : List (List ℕ)) (o : Option Spot) → has_at_most 1024 (or_empty (option_map (λ t. record { at = t.at; value = set_of 1024 names (items t) }) o)) ≡ true
map_few names None = le-leb 0 1024 (omega arith)
map_few names (Some t) = le-leb _ _ (few_of (set_is 1024 names (items t)))
  where
    few_of : {set : List (Placed CategoryName)} → IsSet 1024 set → length set ≤ 1024
    few_of is = is.few

map_once : (names : List (List ℕ)) (o : Option Spot) → are_different same_value (or_empty (option_map (λ t. record { at = t.at; value = set_of 1024 names (items t) }) o)) ≡ true
map_once names None = refl
map_once names (Some t) = once_of (set_is 1024 names (items t))
  where
    once_of : {set : List (Placed CategoryName)} → IsSet 1024 set → are_different same_value set ≡ true
    once_of is = is.once

if_name : (b : Bool) (s : List ℕ) → is_name s ≡ b → is_name (if b then s else codes "-") ≡ true
if_name true s e = e
if_name false s e = refl

name_is : (o : Option Spot) (at : ℕ) → is_name (or_default {B = Placed (List ℕ)} (record { at = at; value = codes "-" }) (λ t. record { at = t.at; value = drafts.name_or (text t) }) o).value ≡ true
name_is None at = refl
name_is (Some t) at = if_name (is_name (text t)) (text t) refl

if_address : (b : Bool) (s : List ℕ) → is_address s ≡ b → is_address (if b then s else codes "-") ≡ true
if_address true s e = e
if_address false s e = refl

address_is : (o : Option Spot) → is_address_if_some (address (option_map (λ t. record { at = t.at; value = drafts.address_or (text t) }) o)) ≡ true
address_is None = refl
address_is (Some t) = if_address (is_address (text t)) (text t) refl

sized : (b : Bool) (size : ℕ) (bytes other : List ℕ) → nat_eq (length bytes) size ≡ b → nat_eq (length other) size ≡ true → nat_eq (length (if b then bytes else other)) size ≡ true
sized true size bytes other e g = e
sized false size bytes other e g = g

bytes_are : {E : Type 0} (size : ℕ) (r : Result (List ℕ) E) → nat_eq (length {A = ℕ} (replicate size 0)) size ≡ true → nat_eq (length (drafts.bytes_or size r)) size ≡ true
bytes_are size (Ok bytes) g = sized (nat_eq (length bytes) size) size bytes (replicate size 0) refl g
bytes_are size (Err e) g = g

seed_is : (s : List ℕ) → nat_eq (length (drafts.seed_bytes s)) 32 ≡ true
unfolding drafts.seed_bytes
seed_is s = bytes_are 32 (hex.decode_sized s 32) refl

key_is : (s : List ℕ) → nat_eq (length (drafts.key_bytes s)) 56 ≡ true
unfolding drafts.key_bytes
key_is s = bytes_are 56 (hex.decode_sized s 56) refl

placed_key_is : (o : Option Spot) (at : ℕ)
    → has_secret_length (or_default {B = Placed Secret} (record { at = at; value = Rattle.ds_plan.specs.declared.host.Secret.TheVariants.Key (record { 0 = drafts.key_bytes [] }) }) (λ t. record { at = t.at; value = Rattle.ds_plan.specs.declared.host.Secret.TheVariants.Key (record { 0 = drafts.key_bytes (text t) }) }) o).value ≡ true
placed_key_is None at = key_is []
placed_key_is (Some t) at = key_is (text t)

secret_by : (h : Spot) (o : Option Spot)
    → has_secret_length (or_default {B = Placed Secret} (drafts.placed_key h) (λ t. record { at = t.at; value = Rattle.ds_plan.specs.declared.host.Secret.TheVariants.Seed (drafts.seed_bytes (text t)) }) o).value ≡ true
secret_by h None = placed_key_is (member (codes "key") h) h.at
secret_by h (Some t) = seed_is (text t)

secret_is : (h : Spot) → has_secret_length (drafts.secret_of h).value ≡ true
unfolding drafts.secret_of
secret_is h = secret_by h (member (codes "seed") h)

host_fits : (names : List (List ℕ)) (h : Spot) → HostLimits (host_of names h)
unfolding host_of drafts.address_of
host_fits names h = record {
  map = map_few names (member (codes "map") h);
  rows = map_once names (member (codes "map") h);
  procs = written_few 32 (drafts.proc_of names) (member (codes "procs") h);
  boxes = written_few 64 (drafts.box_of names) (member (codes "boxes") h);
  lanes = written_few 32 (drafts.lane_of names) (member (codes "lanes") h);
  inlets = written_few 64 (drafts.inlet_of names) (member (codes "inlets") h);
  name = name_is (member (codes "name") h) h.at;
  secret = secret_is h;
  address = address_is (member (codes "address") h);
  each_proc = written_all 32 (drafts.proc_of names) proc_limits (member (codes "procs") h) (proc_fits names);
  each_box = written_all 64 (drafts.box_of names) box_limits (member (codes "boxes") h) (box_fits names);
  each_lane = written_all 32 (drafts.lane_of names) lane_limits (member (codes "lanes") h) (lane_fits names);
  each_inlet = written_all 64 (drafts.inlet_of names) inlet_limits (member (codes "inlets") h) (inlet_fits names);
}

get_map : {A B : Type 0} (P : B → Type 0) (f : A → B) (xs : List A) (n : ℕ) (y : B) → ((x : A) → P (f x)) → slice_get (map f xs) n ≡ Some y → P y
get_map P f [] n y h e = absurd (none n y e)
  where
    none : {C : Type 0} (m : ℕ) (z : C) → slice_get [] m ≡ Some z → ⊥
    none m z g = cc
get_map P f (x ∷ xs) zero y h e = subst P (here (f x) (map f xs) y e) (h x)
  where
    here : {C : Type 0} (z : C) (zs : List C) (w : C) → slice_get (z ∷ zs) 0 ≡ Some w → z ≡ w
    here z zs w g = cc
get_map P f (x ∷ xs) (suc n) y h e = get_map P f xs n y h e

-- ---- certificates and events

if_range : (b : Bool) (c : Cert) (at : ℕ) (hosts : List (Placed Rattle.ds_doc.specs.declared.draft.HostName.HostName)) → is_cert_in_range c ≡ b
    → list_all cert_limits (drafts.in_list (option_map (λ cert. certs.Given (record { at = at; value = cert }) hosts) (if b then Some c else None))) ≡ true
if_range true c at hosts e = and_from (is_cert_in_range c) true e refl
if_range false c at hosts e = refl

spelled_fits : (r : Result Cert ℕ) (at : ℕ) (hosts : List (Placed Rattle.ds_doc.specs.declared.draft.HostName.HostName))
    → list_all cert_limits (drafts.in_list (option_map (λ cert. certs.Given (record { at = at; value = cert }) hosts) (drafts.spelled r))) ≡ true
spelled_fits (Ok c) at hosts = if_range (is_cert_in_range c) c at hosts refl
spelled_fits (Err place) at hosts = refl

given_fits : {E : Type 0} (r : Result (List ℕ) E) (at : ℕ) (hosts : List (Placed Rattle.ds_doc.specs.declared.draft.HostName.HostName))
    → list_all cert_limits (drafts.in_list (option_map (λ cert. certs.Given (record { at = at; value = cert }) hosts) (drafts.given_cert r))) ≡ true
given_fits (Ok bytes) at hosts = spelled_fits (read_cert bytes) at hosts
given_fits (Err e) at hosts = refl

cert_by_fits : (names : List (List ℕ)) (c : Spot) (o : Option Spot) → list_all cert_limits (drafts.in_list (drafts.cert_by names c o)) ≡ true
cert_by_fits names c None = refl
cert_by_fits names c (Some h) = given_fits (hex.decode_of (text h)) h.at (drafts.hosts_at names (codes "at") c)

cert_fits : (names : List (List ℕ)) (c : Spot) → list_all cert_limits (drafts.cert_of names c) ≡ true
unfolding drafts.cert_of
cert_fits names c = cert_by_fits names c (member (codes "hex") c)

in_list_short : {A : Type 0} (o : Option A) → length (drafts.in_list o) ≤ 1
in_list_short None = omega arith
in_list_short (Some x) = omega arith

cert_short : (names : List (List ℕ)) (c : Spot) → length (drafts.cert_of names c) ≤ 1
unfolding drafts.cert_of
cert_short names c = in_list_short (drafts.cert_by names c (member (codes "hex") c))

event_short : (names : List (List ℕ)) (xs : List Spot) → length (drafts.event_by names xs) ≤ 1
event_short names [] = omega arith
event_short names (a ∷ []) = omega arith
event_short names (a ∷ b ∷ []) = omega arith
event_short names (a ∷ b ∷ c ∷ []) = omega arith
event_short names (a ∷ b ∷ c ∷ d ∷ []) = omega arith
event_short names (a ∷ b ∷ c ∷ d ∷ e ∷ []) = omega arith
event_short names (a ∷ b ∷ c ∷ d ∷ e ∷ f ∷ xs) = omega arith

event_of_short : (names : List (List ℕ)) (s : Spot) → length (drafts.event_of names s) ≤ 1
unfolding drafts.event_of
event_of_short names s = event_short names (items s)

events_few : (names : List (List ℕ)) (o : Option Spot) → has_at_most 20000 (or_none (option_map (λ t. flat_map (drafts.event_of names) (take 20000 (items t))) o)) ≡ true
events_few names None = le-leb 0 20000 (omega arith)
events_few names (Some t) = le-leb _ _ (omega (arith, flat_few (drafts.event_of names) (take 20000 (items t)) (event_of_short names), first_few 20000 (items t)))

-- ---- the document

limits_by : (names : List (List ℕ)) (root : Spot) → Limits (draft_by names root)
unfolding draft_by
limits_by names root = record {
  hosts = take_few 16 (host_of names) (member_items (codes "hosts") root);
  budget = between 1 20000 (member_number (codes "budget") 1000 root) (omega arith);
  certs = le-leb _ _ (omega (arith, flat_few (drafts.cert_of names) (take 256 (member_items (codes "certs") root)) (cert_short names), first_few 256 (member_items (codes "certs") root)));
  links = take_few 16 (drafts.placed_host names) (member_items (codes "links") root);
  events = events_few names (member (codes "events") root);
  each = λ n h e. get_map HostLimits (host_of names) (take 16 (member_items (codes "hosts") root)) n h (host_fits names) e;
  given = flat_all cert_limits (drafts.cert_of names) (take 256 (member_items (codes "certs") root)) (cert_fits names);
}

pub limits_of : (root : Spot) → Limits (draft_of root)
unfolding draft_of
limits_of root = limits_by (drafts.host_names root) root
