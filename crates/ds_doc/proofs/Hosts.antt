-- A host whose rules are kept is a host of a document.
use Rattle.std.proofs.Common.{◌≡◌, ◌≤◌, ℕ, ◌^◌, List, [], ◌∷◌, ◌++◌, length, map, flat_map, slice_get, All, Bool, true, false, ◌&&◌, ◌||◌, not, ◌==◌, nat_le, nat_lt, nat_eq, Some, refl, sym, subst, arith}
use Rattle.std.specs.List.{list_all}
use Rattle.std.proofs.lemmas.List.{length-map}
use Rattle.std.proofs.lemmas.List.Elements.{All-nil, All-cons}
use Rattle.std.proofs.lemmas.Bool.{and_from, ltb-true, leb-true, or_left, or_right}
use Rattle.std.proofs.lemmas.Bool.Decides.{nat_tests}
use Rattle.ds_label.specs.declared.category.PubKey.{PubKey}
use Rattle.ds_label.specs.declared.category.Category.{Category}
use Rattle.ds_label.specs.Flow.{has}
use Rattle.ds_label.specs.Names.{by_name}
use Rattle.ds_label.proofs.Namings.{names}
use Rattle.ds_label.proofs.Members.{same-is}
use Rattle.ds_script.specs.Fits.{IsScript}
use Rattle.ds_plan.specs.declared.host.HostSpec.{HostSpec}
use Rattle.ds_plan.specs.Keys.{same_key}
use Rattle.ds_plan.specs.Keys as plan_keys
use Rattle.ds_plan.specs.Categories.{origin, is_known, is_made}
use Rattle.ds_plan.specs.Documents as plan
use Rattle.ds_plan.specs.Documents.{stood, are_new, are_different, is_between, has_at_most, is_name, has_secret_length, is_address_if_some, HasLabels, IsLabel}
use Rattle.ds_doc.specs.declared.draft.Placed.{Placed}
use Rattle.ds_doc.specs.declared.draft.CategoryName.{CategoryName}
use Rattle.ds_doc.specs.declared.draft.DraftOp.{DraftOp}
use Rattle.ds_doc.specs.declared.draft.DraftOp.TheVariants as ops
use Rattle.ds_doc.specs.declared.draft.DraftProc.{DraftProc}
use Rattle.ds_doc.specs.declared.draft.DraftBox.{DraftBox}
use Rattle.ds_doc.specs.declared.draft.DraftLane.{DraftLane}
use Rattle.ds_doc.specs.declared.draft.DraftInlet.{DraftInlet}
use Rattle.ds_doc.specs.declared.draft.DraftHost.{DraftHost}
use Rattle.ds_doc.specs.declared.rules.facts.Facts.{Facts}
use Rattle.ds_doc.specs.Names.{number_of, same_host, origin_of, same_named, or_empty}
use Rattle.ds_doc.specs.Draft.{same_value}
use Rattle.ds_doc.specs.Rules as rules
use Rattle.ds_doc.specs.Values.{category_of, label, process, mailbox, lane, inlet, host, address}
use Rattle.ds_doc.proofs.Faults.{and_first, and_second, kept, front_kept, rest_kept, each_kept, all_map, all_more, all_append, all_flat, repeats_new, new_map}
use Rattle.ds_doc.proofs.Known.{known_doc, origin_kept, one_host, home_key, named_same}
use Rattle.ds_doc.proofs.Labels.{label_all, label_is, one_label}

-- ---- limits of what was read

abbrev pub reg_fits : ℕ → Bool
reg_fits reg = nat_lt reg 8

abbrev pub op_limits : DraftOp → Bool
op_limits (ops.Set reg text) = reg_fits reg && nat_le (length text) 16384
op_limits (ops.Join reg left right) = reg_fits reg && (reg_fits left && reg_fits right)
op_limits (ops.IfEq left right to) = reg_fits left && reg_fits right
op_limits (ops.Jump to) = true
op_limits (ops.Print reg) = reg_fits reg
op_limits (ops.Send host slot reg label own clear) = reg_fits reg
op_limits (ops.Take reg slot) = reg_fits reg
op_limits (ops.SetLabel label) = true
op_limits (ops.NewCat kind) = true
op_limits (ops.Delegate reg c to from until) = reg_fits reg
op_limits (ops.Map c) = true
op_limits (ops.Import reg) = reg_fits reg

abbrev pub proc_limits : DraftProc → Bool
proc_limits p = nat_le p.made 2147483647 && (nat_le (length p.script) 4096 && list_all op_limits p.script)

abbrev pub box_limits : DraftBox → Bool
box_limits b = is_between 1 256 b.room

abbrev pub lane_limits : DraftLane → Bool
lane_limits l = (is_between 1 256 l.room && nat_lt l.until (2 ^ 64)) && nat_le (length l.label) 64

abbrev pub inlet_limits : DraftInlet → Bool
inlet_limits i = is_between 1 32 i.lane

pub record HostLimits (h : DraftHost) : Type 0 where
  pub map : has_at_most 1024 (or_empty h.map) ≡ true
  pub rows : are_different same_value (or_empty h.map) ≡ true
  pub procs : has_at_most 32 (or_empty h.procs) ≡ true
  pub boxes : has_at_most 64 (or_empty h.boxes) ≡ true
  pub lanes : has_at_most 32 (or_empty h.lanes) ≡ true
  pub inlets : has_at_most 64 (or_empty h.inlets) ≡ true
  pub name : is_name h.name.value ≡ true
  pub secret : has_secret_length h.secret.value ≡ true
  pub address : is_address_if_some (address h.address) ≡ true
  pub each_proc : list_all proc_limits (or_empty h.procs) ≡ true
  pub each_box : list_all box_limits (or_empty h.boxes) ≡ true
  pub each_lane : list_all lane_limits (or_empty h.lanes) ≡ true
  pub each_inlet : list_all inlet_limits (or_empty h.inlets) ≡ true

-- ---- the rules of a host one by one

pub record HostParts (facts : Facts) (here : ℕ) (h : DraftHost) : Type 0 where
  pub rows : flat_map (rules.row_rules facts here) (or_empty h.map) ≡ []
  pub procs : flat_map (rules.proc_rules facts here (or_empty h.map)) (or_empty h.procs) ≡ []
  pub boxes : flat_map (rules.box_rules facts here (or_empty h.map) (length (or_empty h.procs))) (or_empty h.boxes) ≡ []
  pub lanes : flat_map (rules.lane_rules facts) (or_empty h.lanes) ≡ []
  pub inlets : flat_map (rules.inlet_rules facts) (or_empty h.inlets) ≡ []
  pub leaves : rules.overspent facts here h ≡ []
  pub silent : rules.silent_parts h ≡ []

pub host_parts : (facts : Facts) (here : ℕ) (h : DraftHost) → rules.host_rules facts here h ≡ [] → HostParts facts here h
unfolding rules.host_rules
host_parts facts here h e =
    let six = front_kept _ _ e in
    let five = front_kept _ _ six in
    let four = front_kept _ _ five in
    let three = front_kept _ _ four in
    let two = front_kept _ _ three in
    record {
      rows = front_kept _ _ two;
      procs = rest_kept _ _ two;
      boxes = rest_kept _ _ three;
      lanes = rest_kept _ _ four;
      inlets = rest_kept _ _ five;
      leaves = rest_kept _ _ six;
      silent = rest_kept _ _ e;
    }

pub record OnceParts (facts : Facts) (here : ℕ) (h : DraftHost) : Type 0 where
  pub slots : rules.repeats rules.same_slot rules.slot_place [] (or_empty h.boxes) ≡ []
  pub lanes : rules.repeats rules.same_lane rules.lane_place [] (or_empty h.lanes) ≡ []
  pub inlets : rules.repeats rules.same_inlet rules.inlet_place [] (or_empty h.inlets) ≡ []
  pub made : flat_map (rules.inlet_of_lane facts here) (or_empty h.inlets) ≡ []

pub once_parts : (facts : Facts) (here : ℕ) (h : DraftHost) → rules.repeated_in facts here h ≡ [] → OnceParts facts here h
unfolding rules.repeated_in
once_parts facts here h e =
    let three = front_kept _ _ e in
    let two = front_kept _ _ three in
    record { slots = front_kept _ _ two; lanes = rest_kept _ _ two; inlets = rest_kept _ _ three; made = rest_kept _ _ e }

-- ---- what the tests of a document say of one host

pub record HostTests (keys : List PubKey) (facts : Facts) (here : ℕ) (x : HostSpec) : Type 0 where
  pub sizes : plan.has_host_sizes x ≡ true
  pub labels : HasLabels x
  pub scripts : All (λ p. IsScript p.script) x.procs
  pub slots : are_different nat_eq (map (λ b. b.slot) x.boxes) ≡ true
  pub lanes : are_different plan.same_lane x.lanes ≡ true
  pub inlets : plan.are_inlets_new facts.receivers here x ≡ true
  pub hosts : list_all (λ n. nat_lt n (length facts.makers)) (plan.named_hosts x) ≡ true
  pub owners : list_all (λ b. nat_lt b.owner (length x.procs)) x.boxes ≡ true
  pub known : list_all (λ c. is_known facts.makers (origin keys c)) (x.map ++ plan.state_categories x ++ plan.lane_categories x ++ plan.script_categories x) ≡ true
  pub made : list_all (λ c. is_made facts.makers (origin keys c)) (plan.state_categories x ++ plan.lane_categories x) ≡ true
  pub mapped : list_all (plan.is_mapped (plan_keys.host_key x) x.map) (plan.state_categories x) ≡ true
  pub rows : plan.are_rows (plan_keys.host_key x) x.map ≡ true
  pub leaves : plan.host_has_leaves facts.signers here x ≡ true
  pub silent : plan.is_bare_if_silent x ≡ true

pub all_any : {A : Type 0} (P : A → Type 0) (xs : List A) → ((x : A) → P x) → All P xs
all_any P [] f = All-nil P
all_any P (x ∷ xs) f = All-cons P x xs (f x) (all_any P xs f)

pub all_where : {A B : Type 0} (P : B → Type 0) (p : A → Bool) (f : A → B) (xs : List A) → ((x : A) → p x ≡ true → P (f x)) → list_all p xs ≡ true → All P (map f xs)
all_where P p f [] g e = All-nil P
all_where P p f (x ∷ xs) g e = All-cons P (f x) (map f xs) (g x (and_first (p x) (list_all p xs) e)) (all_where P p f xs g (and_second (p x) (list_all p xs) e))

pub has_labels : (keys : List PubKey) (h : DraftHost) → HasLabels (host keys h)
unfolding host process mailbox lane
has_labels keys h = record {
  procs = labels_of (λ p. IsLabel p.label × IsLabel p.own × IsLabel p.clear) (process keys) (or_empty h.procs) (λ p. (label_is keys p.label, label_is keys p.own, label_is keys p.clear));
  boxes = labels_of (λ b. IsLabel b.label) (mailbox keys) (or_empty h.boxes) (λ b. label_is keys b.label);
  lanes = labels_of (λ l. IsLabel l.label) (lane keys) (or_empty h.lanes) (λ l. label_is keys l.label);
}
  where
    labels_of : {A B : Type 0} (P : B → Type 0) (f : A → B) (xs : List A) → ((x : A) → P (f x)) → All P (map f xs)
    labels_of P f [] g = All-nil P
    labels_of P f (x ∷ xs) g = All-cons P (f x) (map f xs) (g x) (labels_of P f xs g)

pub at_most_map : {A B : Type 0} (most : ℕ) (f : A → B) (xs : List A) → has_at_most most xs ≡ true → has_at_most most (map f xs) ≡ true
at_most_map most f xs e = subst (λ n. nat_le n most ≡ true) (sym (length-map xs f)) e

pub host_sizes : (keys : List PubKey) (h : DraftHost) → HostLimits h → plan.has_host_sizes (host keys h) ≡ true
unfolding host process mailbox lane
host_sizes keys h l =
    let to_1 = at_most_map 1024 (category_of keys) (or_empty h.map) l.map in
    let to_2 = and_from _ _ to_1 (at_most_map 32 (process keys) (or_empty h.procs) l.procs) in
    let to_3 = and_from _ _ to_2 (at_most_map 64 (mailbox keys) (or_empty h.boxes) l.boxes) in
    let to_4 = and_from _ _ to_3 (at_most_map 32 (lane keys) (or_empty h.lanes) l.lanes) in
    let to_5 = and_from _ _ to_4 (at_most_map 64 inlet (or_empty h.inlets) l.inlets) in
    let to_6 = and_from _ _ to_5 l.name in
    let to_7 = and_from _ _ to_6 l.secret in
    let to_8 = and_from _ _ to_7 l.address in
    let to_9 = and_from _ _ to_8 (all_map (λ p. nat_le p.made 2147483647) (process keys) (or_empty h.procs) (all_more proc_limits (λ p. nat_le p.made 2147483647) (or_empty h.procs) (λ p e. and_first (nat_le p.made 2147483647) _ e) l.each_proc)) in
    let to_10 = and_from _ _ to_9 (all_map (λ b. is_between 1 256 b.room) (mailbox keys) (or_empty h.boxes) l.each_box) in
    let to_11 = and_from _ _ to_10 (all_map (λ x. is_between 1 256 x.room && nat_lt x.until (2 ^ 64)) (lane keys) (or_empty h.lanes)
    (all_more lane_limits (λ x. is_between 1 256 x.room && nat_lt x.until (2 ^ 64)) (or_empty h.lanes) (λ x e. and_first (is_between 1 256 x.room && nat_lt x.until (2 ^ 64)) _ e) l.each_lane)) in
    and_from _ _ to_11 (all_map (λ i. is_between 1 32 i.lane) inlet (or_empty h.inlets) l.each_inlet)

-- ---- categories

module _ (keys : List PubKey) (facts : Facts) (size : length facts.makers ≡ length keys) (few : length keys ≤ 16) (different : are_different same_key keys ≡ true) where
  abbrev pub knows : Placed CategoryName → Bool
  knows c = is_known facts.makers (origin_of c.value)

  abbrev pub known_here : Category → Bool
  known_here c = is_known facts.makers (origin keys c)

  abbrev pub made_here : Category → Bool
  made_here c = is_made facts.makers (origin keys c)

  pub known_of : (c : Placed CategoryName) → knows c ≡ true → known_here (category_of keys c) ≡ true
  known_of c e = known_doc keys facts.makers c.value size different e

  pub unknown_none : (c : Placed CategoryName) → rules.unknown_category facts c ≡ [] → knows c ≡ true
  unknown_none c e = kept _ _ _ e

  pub made_of : (c : Placed CategoryName) → knows c ≡ true → rules.unmade facts c ≡ [] → made_here (category_of keys c) ≡ true
  made_of c k e = subst (λ o. is_made facts.makers o ≡ true) (sym (origin_kept keys facts.makers c.value size different k)) (kept _ _ _ e)

  mapped_by : (home : Bool) (rows : List (Placed CategoryName)) (c : Placed CategoryName) → (home || stood same_value rows c) ≡ true → home ≡ false → has by_name (category_of keys c) (map (category_of keys) rows) ≡ true
  mapped_by true rows c e g = absurd cc
  mapped_by false [] c e g = absurd cc
  mapped_by false (r ∷ rows) c e g =
      either (same_named r.value c.value) (stood same_value rows c) (by_name.same (category_of keys c) (category_of keys r)) (has by_name (category_of keys c) (map (category_of keys) rows))
      (λ s. (same-is by_name names (category_of keys c) (category_of keys r)).1 (sym (named_same keys r.value c.value s)))
      (λ s. mapped_by false rows c s refl) e
    where
      either : (a b x y : Bool) → (a ≡ true → x ≡ true) → (b ≡ true → y ≡ true) → (a || b) ≡ true → (x || y) ≡ true
      either true b x y f g i = rw (f refl) refl
      either false b true y f g i = refl
      either false b false y f g i = g i

  mapped_of : (here : ℕ) (key : PubKey) (rows : List (Placed CategoryName)) (c : Placed CategoryName) → slice_get keys here ≡ Some key → rules.unmapped here rows c ≡ []
      → plan.is_mapped key (map (category_of keys) rows) (category_of keys c) ≡ true
  mapped_of here key rows c at e = cases (rules.is_home here c.value) refl
    where
      cases : (b : Bool) → rules.is_home here c.value ≡ b → plan.is_mapped key (map (category_of keys) rows) (category_of keys c) ≡ true
      cases true g = or_left (same_key (category_of keys c).creator key) _ (home_key keys here key c.value at g)
      cases false g = or_right (same_key (category_of keys c).creator key) _ (mapped_by (rules.is_home here c.value) rows c (kept _ _ _ e) g)

  -- of each category of a process's label, ownership and clearance and of a mailbox's label
  pub state_known : (here : ℕ) (rows : List (Placed CategoryName)) (c : Placed CategoryName) → rules.state_rules facts here rows c ≡ [] → knows c ≡ true
  unfolding rules.state_rules
  state_known here rows c e = unknown_none c (front_kept _ _ (front_kept _ _ e))

  pub state_made : (here : ℕ) (rows : List (Placed CategoryName)) (c : Placed CategoryName) → rules.state_rules facts here rows c ≡ [] → made_here (category_of keys c) ≡ true
  unfolding rules.state_rules
  state_made here rows c e = made_of c (unknown_none c (front_kept _ _ (front_kept _ _ e))) (rest_kept _ _ (front_kept _ _ e))

  pub state_mapped : (here : ℕ) (key : PubKey) (rows : List (Placed CategoryName)) (c : Placed CategoryName) → slice_get keys here ≡ Some key → rules.state_rules facts here rows c ≡ []
      → plan.is_mapped key (map (category_of keys) rows) (category_of keys c) ≡ true
  unfolding rules.state_rules
  state_mapped here key rows c at e = mapped_of here key rows c at (rest_kept _ _ e)

  -- a test of each of them
  module _ (here : ℕ) (h : DraftHost) (q : Category → Bool)
      (says : (c : Placed CategoryName) → rules.state_rules facts here (or_empty h.map) c ≡ [] → q (category_of keys c) ≡ true) where
    label_says : (cs : List (Placed CategoryName)) → flat_map (rules.state_rules facts here (or_empty h.map)) cs ≡ [] → list_all q (label keys cs) ≡ true
    label_says cs e = label_all q keys cs (each_kept (rules.state_rules facts here (or_empty h.map)) (λ c. q (category_of keys c)) cs says e)

    proc_says : (p : DraftProc) → rules.proc_rules facts here (or_empty h.map) p ≡ [] → list_all q (plan.process_labels (process keys p)) ≡ true
    unfolding rules.proc_rules process
    proc_says p e =
        let three = front_kept _ _ e in
        let two = front_kept _ _ three in
        all_append q (label keys p.label ++ label keys p.own) (label keys p.clear)
        (all_append q (label keys p.label) (label keys p.own) (label_says p.label (front_kept _ _ two)) (label_says p.own (rest_kept _ _ two)))
        (label_says p.clear (rest_kept _ _ three))

    box_says : (b : DraftBox) → rules.box_rules facts here (or_empty h.map) (length (or_empty h.procs)) b ≡ [] → list_all q (mailbox keys b).label ≡ true
    unfolding rules.box_rules mailbox
    box_says b e = label_says b.label (rest_kept _ _ e)

    pub state_says : HostParts facts here h → list_all q (plan.state_categories (host keys h)) ≡ true
    unfolding host
    state_says parts =
        all_append q (flat_map plan.process_labels (map (process keys) (or_empty h.procs))) (flat_map (λ b. b.label) (map (mailbox keys) (or_empty h.boxes)))
        (all_flat q plan.process_labels (map (process keys) (or_empty h.procs))
        (all_map (λ p. list_all q (plan.process_labels p)) (process keys) (or_empty h.procs)
        (each_kept (rules.proc_rules facts here (or_empty h.map)) (λ p. list_all q (plan.process_labels (process keys p))) (or_empty h.procs) proc_says parts.procs)))
        (all_flat q (λ b. b.label) (map (mailbox keys) (or_empty h.boxes))
        (all_map (λ b. list_all q b.label) (mailbox keys) (or_empty h.boxes)
        (each_kept (rules.box_rules facts here (or_empty h.map) (length (or_empty h.procs))) (λ b. list_all q (mailbox keys b).label) (or_empty h.boxes) box_says parts.boxes)))

  -- ---- lanes

  pub lane_known : (c : Placed CategoryName) → rules.lane_category_rules facts c ≡ [] → knows c ≡ true
  unfolding rules.lane_category_rules
  lane_known c e = unknown_none c (front_kept _ _ e)

  pub lane_made : (c : Placed CategoryName) → rules.lane_category_rules facts c ≡ [] → made_here (category_of keys c) ≡ true
  unfolding rules.lane_category_rules
  lane_made c e = made_of c (unknown_none c (front_kept _ _ e)) (rest_kept _ _ e)

  lane_says : (q : Category → Bool) → ((c : Placed CategoryName) → rules.lane_category_rules facts c ≡ [] → q (category_of keys c) ≡ true)
      → (l : DraftLane) → rules.lane_rules facts l ≡ [] → list_all q (lane keys l).label ≡ true
  unfolding rules.lane_rules lane
  lane_says q says l e = label_all q keys l.label (each_kept (rules.lane_category_rules facts) (λ c. q (category_of keys c)) l.label says (rest_kept _ _ e))

  pub lanes_say : (q : Category → Bool) → ((c : Placed CategoryName) → rules.lane_category_rules facts c ≡ [] → q (category_of keys c) ≡ true)
      → (xs : List DraftLane) → flat_map (rules.lane_rules facts) xs ≡ [] → list_all q (flat_map (λ l. l.label) (map (lane keys) xs)) ≡ true
  lanes_say q says xs e =
      all_flat q (λ l. l.label) (map (lane keys) xs)
      (all_map (λ l. list_all q l.label) (lane keys) xs (each_kept (rules.lane_rules facts) (λ l. list_all q (lane keys l).label) xs (lane_says q says) e))

  -- what is known of a lane
  abbrev pub lane_fits : DraftLane → Bool
  lane_fits l = nat_lt (number_of l.to.value) (length keys) && (list_all knows l.label && nat_le (length l.label) 64)

  lane_is : (l : DraftLane) → lane_limits l ≡ true → rules.lane_rules facts l ≡ [] → lane_fits l ≡ true
  unfolding rules.lane_rules
  lane_is l limit e =
      and_from _ _ (subst (λ n. nat_lt (number_of l.to.value) n ≡ true) size (kept _ _ _ (front_kept _ _ e)))
      (and_from _ _ (each_kept (rules.lane_category_rules facts) knows l.label lane_known (rest_kept _ _ e)) (and_second _ (nat_le (length l.label) 64) limit))

  pub number_eq : (a b : ℕ) → (a == b) ≡ true → a ≡ b
  number_eq a b g = grind (arith, nat_tests)

  lane_finer : (a b : DraftLane) → lane_fits a ≡ true → lane_fits b ≡ true → plan.same_lane (lane keys a) (lane keys b) ≡ true → rules.same_lane a b ≡ true
  unfolding lane
  lane_finer a b fa fb e =
      let la = and_second (nat_lt (number_of a.to.value) (length keys)) _ fa in
      let lb = and_second (nat_lt (number_of b.to.value) (length keys)) _ fb in
      let labels = one_label keys facts.makers size few different a.label b.label
      (leb-true _ _ (and_second (list_all knows a.label) (nat_le (length a.label) 64) la)) (leb-true _ _ (and_second (list_all knows b.label) (nat_le (length b.label) 64) lb))
      (and_first (list_all knows a.label) (nat_le (length a.label) 64) la) (and_first (list_all knows b.label) (nat_le (length b.label) 64) lb)
      (and_second (number_of a.to.value == number_of b.to.value) _ e) in
      and_from _ (rules.has_each b.label a.label)
      (and_from (same_host a.to.value b.to.value) (rules.has_each a.label b.label)
      (one_host a.to.value b.to.value (length keys) few (ltb-true _ _ (and_first (nat_lt (number_of a.to.value) (length keys)) _ fa)) (ltb-true _ _ (and_first (nat_lt (number_of b.to.value) (length keys)) _ fb))
      (number_eq (number_of a.to.value) (number_of b.to.value) (and_first (number_of a.to.value == number_of b.to.value) _ e)))
      (and_first (rules.has_each a.label b.label) (rules.has_each b.label a.label) labels))
      (and_second (rules.has_each a.label b.label) (rules.has_each b.label a.label) labels)

  lanes_fit : (xs : List DraftLane) → list_all lane_limits xs ≡ true → flat_map (rules.lane_rules facts) xs ≡ [] → list_all lane_fits xs ≡ true
  lanes_fit [] l e = refl
  lanes_fit (x ∷ xs) l e =
      and_from (lane_fits x) (list_all lane_fits xs) (lane_is x (and_first (lane_limits x) (list_all lane_limits xs) l) (front_kept _ _ e))
      (lanes_fit xs (and_second (lane_limits x) (list_all lane_limits xs) l) (rest_kept (rules.lane_rules facts x) _ e))

  pub lanes_once : (xs : List DraftLane) → list_all lane_limits xs ≡ true → flat_map (rules.lane_rules facts) xs ≡ [] → rules.repeats rules.same_lane rules.lane_place [] xs ≡ []
      → are_different plan.same_lane (map (lane keys) xs) ≡ true
  lanes_once xs l e r = new_map lane_fits rules.same_lane plan.same_lane (lane keys) lane_finer [] xs refl (lanes_fit xs l e) (repeats_new rules.same_lane rules.lane_place [] xs r)

  -- ---- inlets

  abbrev pub inlet_fits : DraftInlet → Bool
  inlet_fits i = nat_lt (number_of i.from.value) (length keys)

  inlet_finer : (a b : DraftInlet) → inlet_fits a ≡ true → inlet_fits b ≡ true → plan.same_inlet (inlet a) (inlet b) ≡ true → rules.same_inlet a b ≡ true
  inlet_finer a b fa fb e =
      and_from _ _
      (one_host a.from.value b.from.value (length keys) few (ltb-true _ _ fa) (ltb-true _ _ fb) (number_eq (number_of a.from.value) (number_of b.from.value) (and_first (number_of a.from.value == number_of b.from.value) _ e)))
      (and_second (number_of a.from.value == number_of b.from.value) _ e)

  inlet_is : (i : DraftInlet) → rules.inlet_rules facts i ≡ [] → inlet_fits i ≡ true
  inlet_is i e = subst (λ n. nat_lt (number_of i.from.value) n ≡ true) size (kept _ _ _ e)

  pub inlets_once : (here : ℕ) (xs : List DraftInlet) → flat_map (rules.inlet_rules facts) xs ≡ [] → rules.repeats rules.same_inlet rules.inlet_place [] xs ≡ []
      → flat_map (rules.inlet_of_lane facts here) xs ≡ []
      → (are_different plan.same_inlet (map inlet xs) && list_all (λ i. not (plan.comes_by_lane facts.receivers here i.from i.lane)) (map inlet xs)) ≡ true
  inlets_once here xs e r m =
      and_from _ _
      (new_map inlet_fits rules.same_inlet plan.same_inlet inlet inlet_finer [] xs refl (each_kept (rules.inlet_rules facts) inlet_fits xs inlet_is e) (repeats_new rules.same_inlet rules.inlet_place [] xs r))
      (all_map (λ i. not (plan.comes_by_lane facts.receivers here i.from i.lane)) inlet xs
      (each_kept (rules.inlet_of_lane facts here) (λ i. not (plan.comes_by_lane facts.receivers here (number_of i.from.value) i.lane)) xs (λ i k. kept _ _ _ k) m))
