-- A draft whose rules are kept is a document.
use Rattle.std.proofs.Common.{◌≡◌, ◌≤◌, ℕ, zero, suc, ◌+◌, List, [], ◌∷◌, ◌++◌, length, map, flat_map, slice_get, All, Bool, true, false, ◌||◌, nat_le, nat_lt, nat_eq, Option, Some, None, option_map, bytes_eq, if◌then◌else◌, refl, sym, ap, ◌∙◌, subst, arith}
use Rattle.std.specs.List.{list_all}
use Rattle.std.proofs.lemmas.List.{length-map, length-append, map-append}
use Rattle.std.proofs.lemmas.Bool.{and_from, leb-true, le-leb, or_left}
use Rattle.ds_label.specs.declared.category.PubKey.{PubKey}
use Rattle.ds_script.specs.Fits.{IsScript}
use Rattle.ds_cert.specs.declared.cert.Cert.{Cert}
use Rattle.ds_cert.specs.declared.cert.Cert.TheVariants as kinds
use Rattle.ds_plan.specs.Keys.{same_key}
use Rattle.ds_plan.specs.Keys as plan_keys
use Rattle.ds_plan.specs.Categories.{origin, is_known, is_made, maker, runs}
use Rattle.ds_plan.specs.Categories as categories
use Rattle.ds_plan.specs.Documents as plan
use Rattle.ds_plan.specs.Documents.{stood, are_new, are_different, is_between, has_at_most, is_name, has_secret_length, is_address_if_some, HasLabels, IsLabel, IsDocument}
use Rattle.ds_doc.specs.declared.draft.Placed.{Placed}
use Rattle.ds_doc.specs.declared.draft.HostName.{HostName}
use Rattle.ds_doc.specs.declared.draft.DraftProc.{DraftProc}
use Rattle.ds_doc.specs.declared.draft.DraftHost.{DraftHost}
use Rattle.ds_doc.specs.declared.draft.DraftCert.{DraftCert}
use Rattle.ds_doc.specs.declared.draft.DraftCert.TheVariants as certs
use Rattle.ds_doc.specs.declared.draft.DraftEvent.{DraftEvent}
use Rattle.ds_doc.specs.declared.draft.DraftEvent.TheVariants as events
use Rattle.ds_doc.specs.declared.draft.Draft.{Draft}
use Rattle.ds_doc.specs.declared.rules.facts.GivenAt.{GivenAt}
use Rattle.ds_doc.specs.declared.rules.facts.Facts.{Facts}
use Rattle.ds_doc.specs.Names.{number_of, or_empty}
use Rattle.ds_doc.specs.Shapes.{unless}
use Rattle.ds_doc.specs.Rules as rules
use Rattle.ds_doc.specs.Values.{category_of, op, process, mailbox, lane, inlet, host, address, certificate, happening, doc_by, doc_of}
use Rattle.ds_doc.specs.Values as values
use Rattle.ds_doc.proofs.Faults.{and_first, and_second, kept, front_kept, rest_kept, each_kept, rule_at, places_by, lists_by, facts_by, all_map, all_flat, repeats_new, new_map}
use Rattle.ds_doc.proofs.Hosts.{HostLimits, HostTests, known_of}
use Rattle.ds_doc.proofs.Tests.{host_tests}

-- ---- limits

abbrev pub cert_limits : DraftCert → Bool
cert_limits (certs.Made by category to from until at) = true
cert_limits (certs.Given cert at) = plan.is_cert_in_range cert.value

pub record Limits (d : Draft) : Type 0 where
  pub hosts : has_at_most 16 d.hosts ≡ true
  pub budget : is_between 1 20000 d.budget ≡ true
  pub certs : has_at_most 256 d.certs ≡ true
  pub links : has_at_most 16 d.links ≡ true
  pub events : has_at_most 20000 (rules.or_none d.events) ≡ true
  pub each : (n : ℕ) (h : DraftHost) → slice_get d.hosts n ≡ Some h → HostLimits h
  pub given : list_all cert_limits d.certs ≡ true

-- ---- the rules one by one

pub record Parts (facts : Facts) (d : Draft) : Type 0 where
  pub names : rules.repeats rules.same_name rules.name_place [] d.hosts ≡ []
  pub secrets : rules.repeats rules.same_secret rules.secret_place [] d.hosts ≡ []
  pub once : rules.each_place (rules.repeated_in facts) 0 d.hosts ≡ []
  pub hosts : rules.each_place (rules.host_rules facts) 0 d.hosts ≡ []
  pub links : flat_map (rules.unknown_host facts) d.links ≡ []
  pub certs : flat_map (rules.cert_rules facts) d.certs ≡ []
  pub events : flat_map (rules.event_rules facts) (rules.or_none d.events) ≡ []

parts_by : (facts : Facts) (d : Draft) → rules.rules_by facts d ≡ [] → Parts facts d
unfolding rules.rules_by rules.repeated
parts_by facts d e =
    let four = front_kept _ _ e in
    let three = front_kept _ _ four in
    let two = front_kept _ _ three in
    let repeated = front_kept _ _ two in
    let both = front_kept _ _ repeated in
    record {
      names = front_kept _ _ both;
      secrets = rest_kept _ _ both;
      once = rest_kept _ _ repeated;
      hosts = rest_kept _ _ two;
      links = rest_kept _ _ three;
      certs = rest_kept _ _ four;
      events = rest_kept _ _ e;
    }

parts_of : (d : Draft) → rules.rules d ≡ [] → Parts (rules.facts_of d) d
unfolding rules.rules
parts_of d e = parts_by (rules.facts_of d) d e

-- ---- the document's lists are the draft's

map_map : {A B C : Type 0} (f : B → C) (g : A → B) (h : A → C) (xs : List A) → ((x : A) → f (g x) ≡ h x) → map f (map g xs) ≡ map h xs
map_map f g h [] e = refl
map_map f g h (x ∷ xs) e = λ i. e x i ∷ map_map f g h xs e i

flat_map_map : {A B C : Type 0} (f : B → List C) (g : A → B) (h : A → List C) (xs : List A) → ((x : A) → f (g x) ≡ h x) → flat_map f (map g xs) ≡ flat_map h xs
flat_map_map f g h [] e = refl
flat_map_map f g h (x ∷ xs) e = λ i. e x i ++ flat_map_map f g h xs e i

host_maker_is : (keys : List PubKey) (h : DraftHost) → categories.host_maker (host keys h) ≡ rules.host_maker h
unfolding host process
host_maker_is keys h = ap (maker h.secret.value) (map_map (λ p. p.made) (process keys) (λ p. p.made) (or_empty h.procs) (made_is keys))
  where
    made_is : (ks : List PubKey) (p : DraftProc) → (process ks p).made ≡ p.made
    made_is ks p = refl

makers_are : (keys : List PubKey) (d : Draft) → map categories.host_maker (doc_by keys d).hosts ≡ (rules.facts_of d).makers
unfolding doc_by rules.facts_of
makers_are keys d = map_map categories.host_maker (host keys) rules.host_maker d.hosts (host_maker_is keys)

receivers_is : (keys : List PubKey) (h : DraftHost) → map (λ l. l.to) (host keys h).lanes ≡ rules.host_receivers h
unfolding host lane
receivers_is keys h = map_map (λ l. l.to) (lane keys) rules.receiver (or_empty h.lanes) (λ l. refl)

receivers_are : (keys : List PubKey) (d : Draft) → plan.receivers (doc_by keys d).hosts ≡ (rules.facts_of d).receivers
unfolding doc_by rules.facts_of
receivers_are keys d = map_map (λ h. map (λ l. l.to) h.lanes) (host keys) rules.host_receivers d.hosts (receivers_is keys)

lane_count_is : (keys : List PubKey) (h : DraftHost) → length (host keys h).lanes ≡ rules.lane_count h
unfolding host
lane_count_is keys h = length-map (or_empty h.lanes) (lane keys)

lanes_are : (keys : List PubKey) (d : Draft) → plan.lane_counts (doc_by keys d) ≡ (rules.facts_of d).lanes
unfolding doc_by rules.facts_of
lanes_are keys d = map_map (λ h. length h.lanes) (host keys) rules.lane_count d.hosts (lane_count_is keys)

signer_is : (keys : List PubKey) (c : DraftCert) → plan.signer_of (certificate keys c) ≡ rules.signer_of c
unfolding certificate
signer_is keys (certs.Made by category to from until at) = refl
signer_is keys (certs.Given cert at) = refl

signers_are : (keys : List PubKey) (d : Draft) → plan.signers_of (doc_by keys d).certs ≡ (rules.facts_of d).signers
unfolding doc_by rules.facts_of
signers_are keys d = flat_map_map plan.signer_of (certificate keys) rules.signer_of d.certs (signer_is keys)

key_is : (keys : List PubKey) (h : DraftHost) → plan_keys.host_key (host keys h) ≡ values.host_key h
unfolding host
key_is keys h = refl

keys_are : (keys : List PubKey) (d : Draft) → plan_keys.host_keys (doc_by keys d).hosts ≡ values.host_keys d.hosts
unfolding doc_by
keys_are keys d = map_map plan_keys.host_key (host keys) values.host_key d.hosts (key_is keys)

links_are : (keys : List PubKey) (d : Draft) → length (doc_by keys d).links ≡ (rules.facts_of d).links
unfolding doc_by rules.facts_of
links_are keys d = length-map d.links (λ n. number_of n.value)

count_is : (keys : List PubKey) (d : Draft) → length (doc_by keys d).hosts ≡ length (rules.facts_of d).makers
unfolding doc_by rules.facts_of
count_is keys d = length-map d.hosts (host keys) ∙ sym (length-map d.hosts rules.host_maker)

size_is : (d : Draft) → length (rules.facts_of d).makers ≡ length (values.host_keys d.hosts)
unfolding rules.facts_of
size_is d = length-map d.hosts rules.host_maker ∙ sym (length-map d.hosts values.host_key)

-- ---- names and keys

name_same : (keys : List PubKey) (a b : DraftHost) → true ≡ true → true ≡ true → bytes_eq (host keys a).name (host keys b).name ≡ true → rules.same_name a b ≡ true
unfolding host
name_same keys a b k j e = e

always : {A : Type 0} (xs : List A) → list_all (λ x. true) xs ≡ true
always [] = refl
always (x ∷ xs) = and_from true (list_all (λ y. true) xs) refl (always xs)

names_once : (keys : List PubKey) (d : Draft) → rules.repeats rules.same_name rules.name_place [] d.hosts ≡ [] → are_different bytes_eq (map (λ h. h.name) (doc_by keys d).hosts) ≡ true
unfolding doc_by
names_once keys d e =
    new_map (λ h. true) (λ a b. bytes_eq a.name b.name) bytes_eq (λ h. h.name) (λ a b k j g. g) [] (map (host keys) d.hosts) refl (always (map (host keys) d.hosts))
    (new_map (λ h. true) rules.same_name (λ a b. bytes_eq a.name b.name) (host keys) (name_same keys) [] d.hosts refl (always d.hosts) (repeats_new rules.same_name rules.name_place [] d.hosts e))

key_same : (a b : DraftHost) → true ≡ true → true ≡ true → same_key (values.host_key a) (values.host_key b) ≡ true → rules.same_secret a b ≡ true
unfolding rules.same_secret
key_same a b k j e = or_left _ _ e

keys_once : (d : Draft) → rules.repeats rules.same_secret rules.secret_place [] d.hosts ≡ [] → are_different same_key (values.host_keys d.hosts) ≡ true
keys_once d e =
    new_map (λ h. true) rules.same_secret same_key values.host_key key_same [] d.hosts refl (always d.hosts) (repeats_new rules.same_secret rules.secret_place [] d.hosts e)

key_at : (hosts : List DraftHost) (n : ℕ) (h : DraftHost) → slice_get hosts n ≡ Some h → slice_get (values.host_keys hosts) n ≡ Some (values.host_key h)
key_at [] n h e = absurd cc
key_at (x ∷ xs) zero h e = subst (λ z. Some (values.host_key x) ≡ Some (values.host_key z)) (here x xs h e) refl
  where
    here : (y : DraftHost) (ys : List DraftHost) (z : DraftHost) → slice_get (y ∷ ys) 0 ≡ Some z → y ≡ z
    here y ys z g = cc
key_at (x ∷ xs) (suc n) h e = key_at xs n h e

-- ---- certificates

module _ (facts : Facts) where
  abbrev is_there : ℕ → Bool
  is_there n = nat_lt n (length facts.makers)

  names_there : (ns : List (Placed HostName)) → flat_map (rules.unknown_host facts) ns ≡ [] → list_all is_there (rules.numbers ns) ≡ true
  names_there ns e = all_map is_there (λ n. number_of n.value) ns (each_kept (rules.unknown_host facts) (λ n. is_there (number_of n.value)) ns (λ n k. kept _ _ _ k) e)

  cert_there : (keys : List PubKey) (c : DraftCert) → rules.cert_rules facts c ≡ [] → list_all is_there (plan.cert_hosts (certificate keys c)) ≡ true
  unfolding rules.cert_rules certificate
  cert_there keys (certs.Made by category to from until at) e =
      let four = front_kept _ _ e in
      let three = front_kept _ _ four in
      let two = front_kept _ _ three in
      and_from (is_there (number_of by.value)) _ (kept _ _ _ (front_kept _ _ two))
      (and_from (is_there (number_of to.value)) _ (kept _ _ _ (rest_kept _ _ four)) (names_there at (rest_kept _ _ e)))
  cert_there keys (certs.Given cert at) e = names_there at e

  cert_runs : (keys : List PubKey) (c : DraftCert) → rules.cert_rules facts c ≡ [] → list_all (λ n. runs (slice_get facts.makers n)) (plan.signer_of (certificate keys c)) ≡ true
  unfolding rules.cert_rules certificate
  cert_runs keys (certs.Made by category to from until at) e =
      let two = front_kept _ _ (front_kept _ _ (front_kept _ _ e)) in
      and_from (runs (slice_get facts.makers (number_of by.value))) true (kept _ _ _ (rest_kept _ _ two)) refl
  cert_runs keys (certs.Given cert at) e = refl

  cert_knows : (keys : List PubKey) → length facts.makers ≡ length keys → length keys ≤ 16 → are_different same_key keys ≡ true → (c : DraftCert) → rules.cert_rules facts c ≡ []
      → list_all (λ x. is_known facts.makers (origin keys x)) (plan.cert_categories (certificate keys c)) ≡ true
  unfolding rules.cert_rules certificate
  cert_knows keys size few different (certs.Made by category to from until at) e =
      let three = front_kept _ _ (front_kept _ _ e) in
      and_from _ true (known_of keys facts size few different category (kept _ _ _ (rest_kept _ _ three))) refl
  cert_knows keys size few different (certs.Given cert at) e = refl

  event_there : (e : DraftEvent) → rules.event_rules facts e ≡ [] → plan.is_event facts.makers facts.lanes facts.links (happening e) ≡ true
  unfolding rules.event_rules happening
  event_there (events.Step host index) e = kept _ _ _ (rest_kept _ _ e)
  event_there (events.Frame host lane) e = kept _ _ _ (rest_kept _ _ e)
  event_there (events.Arrive conn count) e = kept _ _ _ e
  event_there (events.Accept conn) e = kept _ _ _ e
  event_there (events.Deliver conn) e = kept _ _ _ e
  event_there (events.Tick host to) e = kept _ _ _ e
  event_there (events.Inject conn bytes) e = kept _ _ _ e
  event_there (events.CopyBytes conn source from until) e = and_from _ _ (kept _ _ _ (front_kept _ _ e)) (kept _ _ _ (rest_kept _ _ e))

  events_there : (o : Option (List DraftEvent)) → flat_map (rules.event_rules facts) (rules.or_none o) ≡ []
      → list_all (plan.is_event facts.makers facts.lanes facts.links) (plan.events_of (option_map (map happening) o)) ≡ true
  events_there None e = refl
  events_there (Some es) e =
      all_map (plan.is_event facts.makers facts.lanes facts.links) happening es
      (each_kept (rules.event_rules facts) (λ x. plan.is_event facts.makers facts.lanes facts.links (happening x)) es event_there e)

events_length : (o : Option (List DraftEvent)) → has_at_most 20000 (rules.or_none o) ≡ true → has_at_most 20000 (plan.events_of (option_map (map happening) o)) ≡ true
events_length None e = refl
events_length (Some es) e = subst (λ n. nat_le n 20000 ≡ true) (sym (length-map es happening)) e

cert_range : (keys : List PubKey) (c : DraftCert) → cert_limits c ≡ plan.is_spec_in_range (certificate keys c)
unfolding certificate
cert_range keys (certs.Made by category to from until at) = refl
cert_range keys (certs.Given cert at) = refl

cert_ranges : (keys : List PubKey) (cs : List DraftCert) → list_all cert_limits cs ≡ true → list_all plan.is_spec_in_range (map (certificate keys) cs) ≡ true
cert_ranges keys [] e = refl
cert_ranges keys (c ∷ cs) e =
    and_from (plan.is_spec_in_range (certificate keys c)) _ (sym (cert_range keys c) ∙ and_first (cert_limits c) (list_all cert_limits cs) e) (cert_ranges keys cs (and_second (cert_limits c) (list_all cert_limits cs) e))

-- ---- address certificates

abbrev given_of : GivenAt → plan.GivenAddress
given_of g = record { bytes = g.bytes; at = g.keepers }

if_given : (b : Bool) (bytes : List ℕ) (at : ℕ) (keepers : List ℕ)
    → (if b then record { bytes = bytes; at = keepers } ∷ [] else []) ≡ map given_of (if b then record { at = at; bytes = bytes; keepers = keepers } ∷ [] else [])
if_given true bytes at keepers = refl
if_given false bytes at keepers = refl

address_is : (at : ℕ) (keepers : List ℕ) (c : Cert) → plan.address_given c keepers ≡ map given_of (rules.if_address at keepers c)
address_is at keepers (kinds.Delegation d) = refl
address_is at keepers (kinds.Address a) = if_given (plan.is_address_in_range a) _ at keepers

given_is : (keys : List PubKey) (c : DraftCert) → plan.given_addresses (certificate keys c) ≡ map given_of (rules.given_in c)
unfolding certificate rules.given_in
given_is keys (certs.Made by category to from until at) = refl
given_is keys (certs.Given cert at) = address_is cert.at (rules.numbers at) cert.value

givens_are : (keys : List PubKey) (cs : List DraftCert) → flat_map plan.given_addresses (map (certificate keys) cs) ≡ map given_of (flat_map rules.given_in cs)
givens_are keys [] = refl
givens_are keys (c ∷ cs) =
    (λ i. given_is keys c i ++ givens_are keys cs i) ∙ sym (map-append given_of (rules.given_in c) (flat_map rules.given_in cs))

kept_room : (here : ℕ) (before : List (List ℕ)) (gs : List GivenAt) → has_at_most 64 before ≡ true → rules.no_room here before gs ≡ [] → has_at_most 64 (plan.kept_addresses here before (map given_of gs)) ≡ true
kept_room here before [] room e = room
kept_room here before (g ∷ gs) room e =
    by_place (plan.is_among here g.keepers)
    (λ f. kept_room here (rules.with_bytes before g.bytes) gs (kept _ _ _ (front_kept _ _ f)) (rest_kept _ _ f)) (λ f. kept_room here before gs room f) e
  where
    by_place : (b : Bool)
        → ((unless (has_at_most 64 (rules.with_bytes before g.bytes)) 5 g.at ++ rules.no_room here (rules.with_bytes before g.bytes) gs) ≡ [] → has_at_most 64 (plan.kept_addresses here (rules.with_bytes before g.bytes) (map given_of gs)) ≡ true)
        → (rules.no_room here before gs ≡ [] → has_at_most 64 (plan.kept_addresses here before (map given_of gs)) ≡ true)
        → (if b then unless (has_at_most 64 (rules.with_bytes before g.bytes)) 5 g.at ++ rules.no_room here (rules.with_bytes before g.bytes) gs else rules.no_room here before gs) ≡ []
        → has_at_most 64 (if b then plan.kept_addresses here (rules.with_bytes before g.bytes) (map given_of gs) else plan.kept_addresses here before (map given_of gs)) ≡ true
    by_place true now later f = now f
    by_place false now later f = later f

if_length : (b : Bool) (xs ys : List (List ℕ)) (n : ℕ) → length xs ≤ n → length ys ≤ n → length (if b then xs else ys) ≤ n
if_length true xs ys n h g = h
if_length false xs ys n h g = g

pub once_length : (before xs : List (List ℕ)) → length (plan.each_once bytes_eq before xs) ≤ length before + length xs
once_length before [] = omega arith
once_length before (x ∷ xs) =
    if_length (stood bytes_eq before x) (plan.each_once bytes_eq before xs) (plan.each_once bytes_eq (before ++ x ∷ []) xs) (length before + suc (length xs))
    (omega (arith, once_length before xs)) (omega (arith, once_length (before ++ x ∷ []) xs, length-append before (x ∷ [])))

made_length : (h : DraftHost) → length (rules.host_address h) ≤ 1
made_length h = by_secret h.secret.value (address h.address)
  where
    by_address : (b : Bool) (bytes : List ℕ) → length (if b then bytes ∷ [] else []) ≤ 1
    by_address true bytes = omega arith
    by_address false bytes = omega arith

    by_secret : (s : Rattle.ds_plan.specs.declared.host.Secret.Secret) (a : Option (List ℕ)) → length (plan.made_address h.identity s a) ≤ 1
    by_secret (Rattle.ds_plan.specs.declared.host.Secret.TheVariants.Seed secret) None = omega arith
    by_secret (Rattle.ds_plan.specs.declared.host.Secret.TheVariants.Seed secret) (Some a) = by_address (plan.is_address a) _
    by_secret (Rattle.ds_plan.specs.declared.host.Secret.TheVariants.Key key) a = omega arith

pub all_made_length : (hs : List DraftHost) → length (flat_map rules.host_address hs) ≤ length hs
all_made_length [] = omega arith
all_made_length (h ∷ hs) = omega (arith, made_length h, all_made_length hs, length-append (rules.host_address h) (flat_map rules.host_address hs))

made_address_is : (keys : List PubKey) (h : DraftHost) → plan.made_address (host keys h).identity (host keys h).secret (host keys h).address ≡ rules.host_address h
unfolding host
made_address_is keys h = refl

made_are : (keys : List PubKey) (d : Draft) → plan.made_addresses (doc_by keys d).hosts ≡ flat_map rules.host_address d.hosts
unfolding doc_by
made_are keys d = flat_map_map (λ h. plan.made_address h.identity h.secret h.address) (host keys) rules.host_address d.hosts (made_address_is keys)

host_room : (keys : List PubKey) (here : ℕ) (h : DraftHost) (made : List (List ℕ)) (gs : List GivenAt) → has_at_most 64 (plan.each_once bytes_eq [] made) ≡ true
    → rules.no_room_at (plan.each_once bytes_eq [] made) gs here h ≡ [] → plan.has_address_room made (map given_of gs) here (host keys h) ≡ true
unfolding host
host_room keys here h made gs few e = cases (plan.is_silent h.secret.value) e
  where
    cases : (b : Bool) → (if b then [] else rules.no_room here (plan.each_once bytes_eq [] made) gs) ≡ []
        → (b || has_at_most 64 (plan.kept_addresses here (plan.each_once bytes_eq [] made) (map given_of gs))) ≡ true
    cases true f = refl
    cases false f = kept_room here (plan.each_once bytes_eq [] made) gs few f

rooms : (keys : List PubKey) (d : Draft) → has_at_most 16 d.hosts ≡ true → rules.over_full d ≡ []
    → plan.all_places (plan.has_address_room (flat_map rules.host_address d.hosts) (map given_of (flat_map rules.given_in d.certs))) 0 (map (host keys) d.hosts) ≡ true
unfolding rules.over_full
rooms keys d few e =
    let made = flat_map rules.host_address d.hosts in
    let short : length d.hosts ≤ 16 = leb-true _ _ few in
    let fits : has_at_most 64 (plan.each_once bytes_eq [] made) ≡ true = le-leb _ _ (omega (arith, once_length [] made, all_made_length d.hosts, short)) in
    places_by (plan.has_address_room made (map given_of (flat_map rules.given_in d.certs))) (host keys) 0 d.hosts
    (λ n h at. host_room keys (0 + n) h made (flat_map rules.given_in d.certs) fits (rule_at (rules.no_room_at (plan.each_once bytes_eq [] made) (flat_map rules.given_in d.certs)) 0 d.hosts n h e at))

at_most_map : {A B : Type 0} (most : ℕ) (f : A → B) (xs : List A) → has_at_most most xs ≡ true → has_at_most most (map f xs) ≡ true
at_most_map most f xs e = subst (λ n. nat_le n most ≡ true) (sym (length-map xs f)) e

-- ---- the document

tests_at : (d : Draft) → Limits d → Parts (rules.facts_of d) d → length (values.host_keys d.hosts) ≤ 16 → (n : ℕ) (h : DraftHost) → slice_get d.hosts n ≡ Some h
    → HostTests (values.host_keys d.hosts) (rules.facts_of d) (0 + n) (host (values.host_keys d.hosts) h)
tests_at d limits parts few n h at =
    let same : n ≡ 0 + n = omega arith in
    host_tests (values.host_keys d.hosts) (rules.facts_of d) (size_is d) few (keys_once d parts.secrets) (0 + n) h (limits.each n h at)
    (subst (λ m. slice_get (values.host_keys d.hosts) m ≡ Some (values.host_key h)) same (key_at d.hosts n h at))
    (rule_at (rules.repeated_in (rules.facts_of d)) 0 d.hosts n h parts.once at) (rule_at (rules.host_rules (rules.facts_of d)) 0 d.hosts n h parts.hosts at)

few_keys : (d : Draft) → Limits d → length (values.host_keys d.hosts) ≤ 16
few_keys d limits = subst (λ n. n ≤ 16) (sym (length-map d.hosts values.host_key)) (leb-true _ _ limits.hosts)

hosts_by : (keys : List PubKey) (d : Draft) → (doc_by keys d).hosts ≡ map (host keys) d.hosts
unfolding doc_by
hosts_by keys d = refl

certs_by : (keys : List PubKey) (d : Draft) → (doc_by keys d).certs ≡ map (certificate keys) d.certs
unfolding doc_by
certs_by keys d = refl

sizes_are : (keys : List PubKey) (d : Draft) → Limits d → plan.has_sizes (doc_by keys d) ≡ true
unfolding doc_by
sizes_are keys d limits =
    and_from _ _ (and_from _ _ (and_from _ _ (and_from _ _ (at_most_map 16 (host keys) d.hosts limits.hosts) limits.budget) (at_most_map 256 (certificate keys) d.certs limits.certs))
    (at_most_map 16 (λ n. number_of n.value) d.links limits.links)) (events_length d.events limits.events)

links_there : (keys : List PubKey) (d : Draft) → Parts (rules.facts_of d) d → list_all (λ n. nat_lt n (length (rules.facts_of d).makers)) (doc_by keys d).links ≡ true
unfolding doc_by
links_there keys d parts = names_there (rules.facts_of d) d.links parts.links

events_by : (keys : List PubKey) (d : Draft) → Parts (rules.facts_of d) d
    → list_all (plan.is_event (rules.facts_of d).makers (rules.facts_of d).lanes (rules.facts_of d).links) (plan.events_of (doc_by keys d).events) ≡ true
unfolding doc_by
events_by keys d parts = events_there (rules.facts_of d) d.events parts.events

pub document_by : (d : Draft) → Limits d → rules.over_full d ≡ [] → rules.rules d ≡ [] → IsDocument (doc_by (values.host_keys d.hosts) d)
document_by d limits full e =
    let keys = values.host_keys d.hosts in
    let facts = rules.facts_of d in
    let doc = doc_by keys d in
    let parts = parts_of d e in
    let few = few_keys d limits in
    let tests = tests_at d limits parts few in
    let different = keys_once d parts.secrets in
    let by_hosts = hosts_by keys d in
    let by_certs = certs_by keys d in
    record {
      sizes = sizes_are keys d limits;
      host_sizes = subst (λ xs. list_all plan.has_host_sizes xs ≡ true) (sym by_hosts) (lists_by plan.has_host_sizes (host keys) d.hosts (λ n h at. (tests n h at).sizes));
      labels = subst (λ xs. All HasLabels xs) (sym by_hosts) (facts_by HasLabels (host keys) d.hosts (λ n h at. (tests n h at).labels));
      given = subst (λ xs. list_all plan.is_spec_in_range xs ≡ true) (sym by_certs) (cert_ranges keys d.certs limits.given);
      scripts = subst (λ xs. All (λ h. All (λ p. IsScript p.script) h.procs) xs) (sym by_hosts) (facts_by (λ h. All (λ p. IsScript p.script) h.procs) (host keys) d.hosts (λ n h at. (tests n h at).scripts));
      names = names_once keys d parts.names;
      keys = subst (λ ks. are_different same_key ks ≡ true) (sym (keys_are keys d)) different;
      slots = subst (λ xs. list_all (λ h. are_different nat_eq (map (λ b. b.slot) h.boxes)) xs ≡ true) (sym by_hosts) (lists_by (λ h. are_different nat_eq (map (λ b. b.slot) h.boxes)) (host keys) d.hosts (λ n h at. (tests n h at).slots));
      lanes = subst (λ xs. list_all (λ h. are_different plan.same_lane h.lanes) xs ≡ true) (sym by_hosts) (lists_by (λ h. are_different plan.same_lane h.lanes) (host keys) d.hosts (λ n h at. (tests n h at).lanes));
      inlets = subst (λ rs. plan.all_places (plan.are_inlets_new rs) 0 doc.hosts ≡ true) (sym (receivers_are keys d))
          (subst (λ xs. plan.all_places (plan.are_inlets_new facts.receivers) 0 xs ≡ true) (sym by_hosts) (places_by (plan.are_inlets_new facts.receivers) (host keys) 0 d.hosts (λ n h at. (tests n h at).inlets)));
      hosts = subst (λ count. list_all (λ h. list_all (λ n. nat_lt n count) (plan.named_hosts h)) doc.hosts ≡ true) (sym (count_is keys d))
          (subst (λ xs. list_all (λ h. list_all (λ n. nat_lt n (length facts.makers)) (plan.named_hosts h)) xs ≡ true) (sym by_hosts)
          (lists_by (λ h. list_all (λ n. nat_lt n (length facts.makers)) (plan.named_hosts h)) (host keys) d.hosts (λ n h at. (tests n h at).hosts)));
      cert_hosts = subst (λ count. list_all (λ c. list_all (λ n. nat_lt n count) (plan.cert_hosts c)) doc.certs ≡ true) (sym (count_is keys d))
          (subst (λ xs. list_all (λ c. list_all (λ n. nat_lt n (length facts.makers)) (plan.cert_hosts c)) xs ≡ true) (sym by_certs)
          (all_map (λ c. list_all (λ n. nat_lt n (length facts.makers)) (plan.cert_hosts c)) (certificate keys) d.certs
          (each_kept (rules.cert_rules facts) (λ c. list_all (λ n. nat_lt n (length facts.makers)) (plan.cert_hosts (certificate keys c))) d.certs (cert_there facts keys) parts.certs)));
      links = subst (λ count. list_all (λ n. nat_lt n count) doc.links ≡ true) (sym (count_is keys d)) (links_there keys d parts);
      owners = subst (λ xs. list_all (λ h. list_all (λ b. nat_lt b.owner (length h.procs)) h.boxes) xs ≡ true) (sym by_hosts)
          (lists_by (λ h. list_all (λ b. nat_lt b.owner (length h.procs)) h.boxes) (host keys) d.hosts (λ n h at. (tests n h at).owners));
      events = subst (λ ms. list_all (plan.is_event ms (plan.lane_counts doc) (length doc.links)) (plan.events_of doc.events) ≡ true) (sym (makers_are keys d))
          (subst (λ ls. list_all (plan.is_event facts.makers ls (length doc.links)) (plan.events_of doc.events) ≡ true) (sym (lanes_are keys d))
          (subst (λ count. list_all (plan.is_event facts.makers facts.lanes count) (plan.events_of doc.events) ≡ true) (sym (links_are keys d)) (events_by keys d parts)));
      known = subst (λ ms. list_all (λ h. list_all (λ c. is_known ms (origin (plan_keys.host_keys doc.hosts) c)) (h.map ++ plan.state_categories h ++ plan.lane_categories h ++ plan.script_categories h)) doc.hosts ≡ true) (sym (makers_are keys d))
          (subst (λ ks. list_all (λ h. list_all (λ c. is_known facts.makers (origin ks c)) (h.map ++ plan.state_categories h ++ plan.lane_categories h ++ plan.script_categories h)) doc.hosts ≡ true) (sym (keys_are keys d))
          (subst (λ xs. list_all (λ h. list_all (λ c. is_known facts.makers (origin keys c)) (h.map ++ plan.state_categories h ++ plan.lane_categories h ++ plan.script_categories h)) xs ≡ true) (sym by_hosts)
          (lists_by (λ h. list_all (λ c. is_known facts.makers (origin keys c)) (h.map ++ plan.state_categories h ++ plan.lane_categories h ++ plan.script_categories h)) (host keys) d.hosts (λ n h at. (tests n h at).known))));
      cert_known = subst (λ ms. list_all (λ c. list_all (λ x. is_known ms (origin (plan_keys.host_keys doc.hosts) x)) (plan.cert_categories c)) doc.certs ≡ true) (sym (makers_are keys d))
          (subst (λ ks. list_all (λ c. list_all (λ x. is_known facts.makers (origin ks x)) (plan.cert_categories c)) doc.certs ≡ true) (sym (keys_are keys d))
          (subst (λ xs. list_all (λ c. list_all (λ x. is_known facts.makers (origin keys x)) (plan.cert_categories c)) xs ≡ true) (sym by_certs)
          (all_map (λ c. list_all (λ x. is_known facts.makers (origin keys x)) (plan.cert_categories c)) (certificate keys) d.certs
          (each_kept (rules.cert_rules facts) (λ c. list_all (λ x. is_known facts.makers (origin keys x)) (plan.cert_categories (certificate keys c))) d.certs (cert_knows facts keys (size_is d) few different) parts.certs))));
      made = subst (λ ms. list_all (λ h. list_all (λ c. is_made ms (origin (plan_keys.host_keys doc.hosts) c)) (plan.state_categories h ++ plan.lane_categories h)) doc.hosts ≡ true) (sym (makers_are keys d))
          (subst (λ ks. list_all (λ h. list_all (λ c. is_made facts.makers (origin ks c)) (plan.state_categories h ++ plan.lane_categories h)) doc.hosts ≡ true) (sym (keys_are keys d))
          (subst (λ xs. list_all (λ h. list_all (λ c. is_made facts.makers (origin keys c)) (plan.state_categories h ++ plan.lane_categories h)) xs ≡ true) (sym by_hosts)
          (lists_by (λ h. list_all (λ c. is_made facts.makers (origin keys c)) (plan.state_categories h ++ plan.lane_categories h)) (host keys) d.hosts (λ n h at. (tests n h at).made))));
      mapped = subst (λ xs. list_all (λ h. list_all (plan.is_mapped (plan_keys.host_key h) h.map) (plan.state_categories h)) xs ≡ true) (sym by_hosts)
          (lists_by (λ h. list_all (plan.is_mapped (plan_keys.host_key h) h.map) (plan.state_categories h)) (host keys) d.hosts (λ n h at. (tests n h at).mapped));
      rows = subst (λ xs. list_all (λ h. plan.are_rows (plan_keys.host_key h) h.map) xs ≡ true) (sym by_hosts) (lists_by (λ h. plan.are_rows (plan_keys.host_key h) h.map) (host keys) d.hosts (λ n h at. (tests n h at).rows));
      leaves = subst (λ ss. plan.all_places (plan.host_has_leaves ss) 0 doc.hosts ≡ true) (sym (signers_are keys d))
          (subst (λ xs. plan.all_places (plan.host_has_leaves facts.signers) 0 xs ≡ true) (sym by_hosts) (places_by (plan.host_has_leaves facts.signers) (host keys) 0 d.hosts (λ n h at. (tests n h at).leaves)));
      addresses = subst (λ made. plan.all_places (plan.has_address_room made (flat_map plan.given_addresses doc.certs)) 0 doc.hosts ≡ true) (sym (made_are keys d))
          (subst (λ xs. plan.all_places (plan.has_address_room (flat_map rules.host_address d.hosts) (flat_map plan.given_addresses xs)) 0 doc.hosts ≡ true) (sym by_certs)
          (subst (λ gs. plan.all_places (plan.has_address_room (flat_map rules.host_address d.hosts) gs) 0 doc.hosts ≡ true) (sym (givens_are keys d.certs))
          (subst (λ xs. plan.all_places (plan.has_address_room (flat_map rules.host_address d.hosts) (map given_of (flat_map rules.given_in d.certs))) 0 xs ≡ true) (sym by_hosts) (rooms keys d limits.hosts full))));
      silent = subst (λ xs. list_all plan.is_bare_if_silent xs ≡ true) (sym by_hosts) (lists_by plan.is_bare_if_silent (host keys) d.hosts (λ n h at. (tests n h at).silent));
      signers = subst (λ ms. list_all (λ n. runs (slice_get ms n)) (plan.signers_of doc.certs) ≡ true) (sym (makers_are keys d))
          (subst (λ xs. list_all (λ n. runs (slice_get facts.makers n)) (plan.signers_of xs) ≡ true) (sym by_certs)
          (all_flat (λ n. runs (slice_get facts.makers n)) plan.signer_of (map (certificate keys) d.certs)
          (all_map (λ c. list_all (λ n. runs (slice_get facts.makers n)) (plan.signer_of c)) (certificate keys) d.certs
          (each_kept (rules.cert_rules facts) (λ c. list_all (λ n. runs (slice_get facts.makers n)) (plan.signer_of (certificate keys c))) d.certs (cert_runs facts keys) parts.certs))));
    }

pub document_of : (d : Draft) → Limits d → rules.over_full d ≡ [] → rules.rules d ≡ [] → IsDocument (doc_of d)
unfolding doc_of
document_of d limits full e = document_by d limits full e
