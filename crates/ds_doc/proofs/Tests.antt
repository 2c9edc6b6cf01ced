-- The tests of a host whose rules are kept.
use Rattle.std.proofs.Common.{◌≡◌, ◌<◌, ◌≤◌, ℕ, ◌^◌, List, [], ◌∷◌, ◌++◌, length, map, flat_map, slice_get, All, Bool, true, false, ◌||◌, not, nat_le, nat_lt, nat_eq, Option, Some, None, is_some, refl, sym, subst, arith}
use Rattle.std.specs.List.{list_all}
use Rattle.std.proofs.lemmas.List.{length-map}
use Rattle.std.proofs.lemmas.List.Elements.{All-nil, All-cons}
use Rattle.std.proofs.lemmas.Bool.{and_from, ltb-true, leb-true, or_left, or_right}
use Rattle.ds_label.specs.declared.category.PubKey.{PubKey}
use Rattle.ds_label.specs.declared.category.Category.{Category}
use Rattle.ds_label.specs.Names.{by_name}
use Rattle.ds_label.proofs.Namings.{names}
use Rattle.ds_script.specs.Fits.{IsOp, IsScript}
use Rattle.ds_plan.specs.Keys.{same_key}
use Rattle.ds_plan.specs.Keys as plan_keys
use Rattle.ds_plan.specs.Categories.{origin, is_known, is_made}
use Rattle.ds_plan.specs.Documents as plan
use Rattle.ds_plan.specs.Documents.{stood, are_new, are_different, is_between, has_at_most, is_name, has_secret_length, is_address_if_some, HasLabels, IsLabel}
use Rattle.ds_doc.specs.declared.draft.Placed.{Placed}
use Rattle.ds_doc.specs.declared.draft.CategoryName.{CategoryName}
use Rattle.ds_doc.specs.declared.draft.DraftOp.{DraftOp}
use Rattle.ds_doc.specs.declared.draft.DraftOp.TheVariants as ops
use Rattle.ds_doc.specs.declared.draft.DraftProc.{DraftProc}
use Rattle.ds_doc.specs.declared.draft.DraftBox.{DraftBox}
use Rattle.ds_doc.specs.declared.draft.DraftLane.{DraftLane}
use Rattle.ds_doc.specs.declared.draft.DraftHost.{DraftHost}
use Rattle.ds_doc.specs.declared.rules.facts.Facts.{Facts}
use Rattle.ds_doc.specs.Names.{number_of, origin_of, or_empty}
use Rattle.ds_doc.specs.Draft.{same_value}
use Rattle.ds_doc.specs.Rules as rules
use Rattle.ds_doc.specs.Values.{category, category_of, label, op, process, mailbox, lane, inlet, host, address}
use Rattle.ds_doc.specs.Values as values
use Rattle.ds_doc.proofs.Faults.{and_first, and_second, kept, front_kept, rest_kept, each_kept, all_map, all_append, all_flat, repeats_new, new_map}
use Rattle.ds_doc.proofs.Known.{known_number, known_process, one_category, other_key}
use Rattle.ds_doc.proofs.Labels.{label_all}
use Rattle.ds_doc.proofs.Hosts.{HostLimits, HostParts, OnceParts, HostTests, host_parts, once_parts, has_labels, host_sizes, knows, known_of, state_known, state_made, state_mapped, state_says, lane_known, lane_made, lanes_say, lanes_once, inlets_once, reg_fits, op_limits, proc_limits}

-- ---- scripts

nat_below : (a b : ℕ) → nat_lt a b ≡ true → a < b
nat_below a b e = ltb-true a b e

module _ (keys : List PubKey) (facts : Facts) (size : length facts.makers ≡ length keys) (few : length keys ≤ 16) (different : are_different same_key keys ≡ true) where
  map_number : (c : Placed CategoryName) → rules.unknown_category facts c ≡ [] → (category_of keys c).number < 2 ^ 62
  unfolding category
  map_number c e =
      let known : is_known facts.makers (origin_of c.value) ≡ true = kept _ _ _ e in
      omega (arith, known_number facts.makers c.value known, known_process facts.makers c.value known)

  op_is : (count : ℕ) (o : DraftOp) → op_limits o ≡ true → rules.unknown_in_op facts count o ≡ [] → IsOp count (op keys o)
  unfolding rules.unknown_in_op op
  op_is count (ops.Set reg text) l e = (nat_below reg 8 (and_first (reg_fits reg) _ l), leb-true _ _ (and_second (reg_fits reg) _ l))
  op_is count (ops.Join reg left right) l e =
      let both = and_second (reg_fits reg) _ l in
      (nat_below reg 8 (and_first (reg_fits reg) _ l), nat_below left 8 (and_first (reg_fits left) _ both), nat_below right 8 (and_second (reg_fits left) _ both))
  op_is count (ops.IfEq left right to) l e = (nat_below left 8 (and_first (reg_fits left) _ l), nat_below right 8 (and_second (reg_fits left) _ l), leb-true to.value count (kept _ _ _ e))
  op_is count (ops.Jump to) l e = leb-true to.value count (kept _ _ _ e)
  op_is count (ops.Print reg) l e = nat_below reg 8 l
  op_is count (ops.Send host slot reg label own clear) l e = nat_below reg 8 l
  op_is count (ops.Take reg slot) l e = nat_below reg 8 l
  op_is count (ops.SetLabel label) l e = tt
  op_is count (ops.NewCat kind) l e = tt
  op_is count (ops.Delegate reg c to from until) l e = nat_below reg 8 l
  op_is count (ops.Map c) l e = map_number c e
  op_is count (ops.Import reg) l e = nat_below reg 8 l

  ops_are : (count : ℕ) (os : List DraftOp) → list_all op_limits os ≡ true → flat_map (rules.unknown_in_op facts count) os ≡ [] → All (IsOp count) (map (op keys) os)
  ops_are count [] l e = All-nil (IsOp count)
  ops_are count (o ∷ os) l e =
      All-cons (IsOp count) (op keys o) (map (op keys) os) (op_is count o (and_first (op_limits o) (list_all op_limits os) l) (front_kept (rules.unknown_in_op facts count o) _ e))
      (ops_are count os (and_second (op_limits o) (list_all op_limits os) l) (rest_kept (rules.unknown_in_op facts count o) _ e))

  script_is : (here : ℕ) (rows : List (Placed CategoryName)) (p : DraftProc) → proc_limits p ≡ true → rules.proc_rules facts here rows p ≡ [] → IsScript (process keys p).script
  unfolding rules.proc_rules process
  script_is here rows p l e =
      let rest = and_second (nat_le p.made 2147483647) _ l in
      let long = length-map p.script (op keys) in
      record {
        few = subst (λ n. n ≤ 4096) (sym long) (leb-true _ _ (and_first (nat_le (length p.script) 4096) _ rest));
        ops = subst (λ n. All (IsOp n) (map (op keys) p.script)) (sym long) (ops_are (length p.script) p.script (and_second (nat_le (length p.script) 4096) _ rest) (rest_kept _ _ e));
      }

  scripts_are : (here : ℕ) (rows : List (Placed CategoryName)) (ps : List DraftProc) → list_all proc_limits ps ≡ true → flat_map (rules.proc_rules facts here rows) ps ≡ []
      → All (λ p. IsScript p.script) (map (process keys) ps)
  scripts_are here rows [] l e = All-nil (λ p. IsScript p.script)
  scripts_are here rows (p ∷ ps) l e =
      All-cons (λ x. IsScript x.script) (process keys p) (map (process keys) ps) (script_is here rows p (and_first (proc_limits p) (list_all proc_limits ps) l) (front_kept (rules.proc_rules facts here rows p) _ e))
      (scripts_are here rows ps (and_second (proc_limits p) (list_all proc_limits ps) l) (rest_kept (rules.proc_rules facts here rows p) _ e))

  -- ---- hosts that are named

  abbrev is_there : ℕ → Bool
  is_there n = nat_lt n (length facts.makers)

  op_hosts_there : (count : ℕ) (o : DraftOp) → rules.unknown_in_op facts count o ≡ [] → list_all is_there (plan.op_hosts (op keys o)) ≡ true
  unfolding rules.unknown_in_op op
  op_hosts_there count (ops.Set reg text) e = refl
  op_hosts_there count (ops.Join reg left right) e = refl
  op_hosts_there count (ops.IfEq left right to) e = refl
  op_hosts_there count (ops.Jump to) e = refl
  op_hosts_there count (ops.Print reg) e = refl
  op_hosts_there count (ops.Send host slot reg label own clear) e = and_from _ true (kept _ _ _ (front_kept _ _ (front_kept _ _ (front_kept _ _ e)))) refl
  op_hosts_there count (ops.Take reg slot) e = refl
  op_hosts_there count (ops.SetLabel label) e = refl
  op_hosts_there count (ops.NewCat kind) e = refl
  op_hosts_there count (ops.Delegate reg c to from until) e = and_from _ true (kept _ _ _ (rest_kept _ _ e)) refl
  op_hosts_there count (ops.Map c) e = refl
  op_hosts_there count (ops.Import reg) e = refl

  proc_hosts_there : (here : ℕ) (rows : List (Placed CategoryName)) (p : DraftProc) → rules.proc_rules facts here rows p ≡ [] → list_all is_there (flat_map plan.op_hosts (process keys p).script) ≡ true
  unfolding rules.proc_rules process
  proc_hosts_there here rows p e =
      all_flat is_there plan.op_hosts (map (op keys) p.script)
      (all_map (λ o. list_all is_there (plan.op_hosts o)) (op keys) p.script
      (each_kept (rules.unknown_in_op facts (length p.script)) (λ o. list_all is_there (plan.op_hosts (op keys o))) p.script (op_hosts_there (length p.script)) (rest_kept _ _ e)))

  lane_host_there : (l : DraftLane) → rules.lane_rules facts l ≡ [] → is_there (lane keys l).to ≡ true
  unfolding rules.lane_rules lane
  lane_host_there l e = kept _ _ _ (front_kept _ _ e)

  hosts_there : (here : ℕ) (h : DraftHost) → HostParts facts here h → list_all is_there (plan.named_hosts (host keys h)) ≡ true
  unfolding host
  hosts_there here h parts =
      all_append is_there (map (λ l. l.to) (map (lane keys) (or_empty h.lanes)) ++ map (λ i. i.from) (map inlet (or_empty h.inlets))) (flat_map (λ p. flat_map plan.op_hosts p.script) (map (process keys) (or_empty h.procs)))
      (all_append is_there (map (λ l. l.to) (map (lane keys) (or_empty h.lanes))) (map (λ i. i.from) (map inlet (or_empty h.inlets)))
      (all_map is_there (λ l. l.to) (map (lane keys) (or_empty h.lanes)) (all_map (λ l. is_there l.to) (lane keys) (or_empty h.lanes) (each_kept (rules.lane_rules facts) (λ l. is_there (lane keys l).to) (or_empty h.lanes) lane_host_there parts.lanes)))
      (all_map is_there (λ i. i.from) (map inlet (or_empty h.inlets)) (all_map (λ i. is_there i.from) inlet (or_empty h.inlets) (each_kept (rules.inlet_rules facts) (λ i. is_there (number_of i.from.value)) (or_empty h.inlets) (λ i k. kept _ _ _ k) parts.inlets))))
      (all_flat is_there (λ p. flat_map plan.op_hosts p.script) (map (process keys) (or_empty h.procs))
      (all_map (λ p. list_all is_there (flat_map plan.op_hosts p.script)) (process keys) (or_empty h.procs)
      (each_kept (rules.proc_rules facts here (or_empty h.map)) (λ p. list_all is_there (flat_map plan.op_hosts (process keys p).script)) (or_empty h.procs) (proc_hosts_there here (or_empty h.map)) parts.procs)))

  -- ---- owners

  box_owner : (here : ℕ) (rows : List (Placed CategoryName)) (procs : ℕ) (b : DraftBox) → rules.box_rules facts here rows procs b ≡ [] → nat_lt (mailbox keys b).owner procs ≡ true
  unfolding rules.box_rules mailbox
  box_owner here rows procs b e = kept _ _ _ (front_kept _ _ e)

  owners_there : (here : ℕ) (h : DraftHost) → HostParts facts here h → list_all (λ b. nat_lt b.owner (length (host keys h).procs)) (host keys h).boxes ≡ true
  unfolding host
  owners_there here h parts =
      subst (λ n. list_all (λ b. nat_lt b.owner n) (map (mailbox keys) (or_empty h.boxes)) ≡ true) (sym (length-map (or_empty h.procs) (process keys)))
      (all_map (λ b. nat_lt b.owner (length (or_empty h.procs))) (mailbox keys) (or_empty h.boxes)
      (each_kept (rules.box_rules facts here (or_empty h.map) (length (or_empty h.procs))) (λ b. nat_lt (mailbox keys b).owner (length (or_empty h.procs))) (or_empty h.boxes) (box_owner here (or_empty h.map) (length (or_empty h.procs))) parts.boxes))

  -- ---- categories

  row_known : (here : ℕ) (c : Placed CategoryName) → rules.row_rules facts here c ≡ [] → knows keys facts size few different c ≡ true
  unfolding rules.row_rules
  row_known here c e = kept _ _ _ (front_kept _ _ e)

  row_away : (here : ℕ) (c : Placed CategoryName) → rules.row_rules facts here c ≡ [] → not (rules.is_home here c.value) ≡ true
  unfolding rules.row_rules
  row_away here c e = kept _ _ _ (rest_kept _ _ e)

  abbrev is_known_here : Category → Bool
  is_known_here c = is_known facts.makers (origin keys c)

  rows_known : (here : ℕ) (rows : List (Placed CategoryName)) → flat_map (rules.row_rules facts here) rows ≡ [] → list_all is_known_here (map (category_of keys) rows) ≡ true
  rows_known here rows e =
      all_map is_known_here (category_of keys) rows
      (each_kept (rules.row_rules facts here) (λ c. is_known_here (category_of keys c)) rows (λ c k. known_of keys facts size few different c (row_known here c k)) e)

  names_known : (cs : List (Placed CategoryName)) → rules.unknown_categories facts cs ≡ [] → list_all is_known_here (label keys cs) ≡ true
  names_known cs e =
      label_all is_known_here keys cs
      (each_kept (rules.unknown_category facts) (λ c. is_known_here (category_of keys c)) cs (λ c k. known_of keys facts size few different c (kept _ _ _ k)) e)

  op_known : (count : ℕ) (o : DraftOp) → rules.unknown_in_op facts count o ≡ [] → list_all is_known_here (plan.op_categories (op keys o)) ≡ true
  unfolding rules.unknown_in_op op
  op_known count (ops.Set reg text) e = refl
  op_known count (ops.Join reg left right) e = refl
  op_known count (ops.IfEq left right to) e = refl
  op_known count (ops.Jump to) e = refl
  op_known count (ops.Print reg) e = refl
  op_known count (ops.Send host slot reg names own clear) e =
      let three = front_kept _ _ e in
      let two = front_kept _ _ three in
      all_append is_known_here (label keys names ++ label keys own) (label keys clear)
      (all_append is_known_here (label keys names) (label keys own) (names_known names (rest_kept _ _ two)) (names_known own (rest_kept _ _ three)))
      (names_known clear (rest_kept _ _ e))
  op_known count (ops.Take reg slot) e = refl
  op_known count (ops.SetLabel names) e = names_known names e
  op_known count (ops.NewCat kind) e = refl
  op_known count (ops.Delegate reg c to from until) e = and_from _ true (known_of keys facts size few different c (kept _ _ _ (front_kept _ _ e))) refl
  op_known count (ops.Map c) e = and_from _ true (known_of keys facts size few different c (kept _ _ _ e)) refl
  op_known count (ops.Import reg) e = refl

  proc_known : (here : ℕ) (rows : List (Placed CategoryName)) (p : DraftProc) → rules.proc_rules facts here rows p ≡ [] → list_all is_known_here (flat_map plan.op_categories (process keys p).script) ≡ true
  unfolding rules.proc_rules process
  proc_known here rows p e =
      all_flat is_known_here plan.op_categories (map (op keys) p.script)
      (all_map (λ o. list_all is_known_here (plan.op_categories o)) (op keys) p.script
      (each_kept (rules.unknown_in_op facts (length p.script)) (λ o. list_all is_known_here (plan.op_categories (op keys o))) p.script (op_known (length p.script)) (rest_kept _ _ e)))

  scripts_known : (here : ℕ) (h : DraftHost) → HostParts facts here h → list_all is_known_here (plan.script_categories (host keys h)) ≡ true
  unfolding host
  scripts_known here h parts =
      all_flat is_known_here (λ p. flat_map plan.op_categories p.script) (map (process keys) (or_empty h.procs))
      (all_map (λ p. list_all is_known_here (flat_map plan.op_categories p.script)) (process keys) (or_empty h.procs)
      (each_kept (rules.proc_rules facts here (or_empty h.map)) (λ p. list_all is_known_here (flat_map plan.op_categories (process keys p).script)) (or_empty h.procs) (proc_known here (or_empty h.map)) parts.procs))

  lanes_all : (here : ℕ) (h : DraftHost) (q : Category → Bool) → ((c : Placed CategoryName) → rules.lane_category_rules facts c ≡ [] → q (category_of keys c) ≡ true) → HostParts facts here h
      → list_all q (plan.lane_categories (host keys h)) ≡ true
  unfolding host
  lanes_all here h q says parts = lanes_say keys facts size few different q says (or_empty h.lanes) parts.lanes

  map_known : (here : ℕ) (h : DraftHost) → HostParts facts here h → list_all is_known_here (host keys h).map ≡ true
  unfolding host
  map_known here h parts = rows_known here (or_empty h.map) parts.rows

  all_known : (here : ℕ) (h : DraftHost) → HostParts facts here h
      → list_all is_known_here ((host keys h).map ++ plan.state_categories (host keys h) ++ plan.lane_categories (host keys h) ++ plan.script_categories (host keys h)) ≡ true
  all_known here h parts =
      let x = host keys h in
      all_append is_known_here (x.map ++ plan.state_categories x ++ plan.lane_categories x) (plan.script_categories x)
      (all_append is_known_here (x.map ++ plan.state_categories x) (plan.lane_categories x)
      (all_append is_known_here x.map (plan.state_categories x) (map_known here h parts)
      (state_says keys facts size few different here h is_known_here (λ c e. known_of keys facts size few different c (state_known keys facts size few different here (or_empty h.map) c e)) parts))
      (lanes_all here h is_known_here (λ c e. known_of keys facts size few different c (lane_known keys facts size few different c e)) parts))
      (scripts_known here h parts)

  abbrev is_made_here : Category → Bool
  is_made_here c = is_made facts.makers (origin keys c)

  all_made : (here : ℕ) (h : DraftHost) → HostParts facts here h → list_all is_made_here (plan.state_categories (host keys h) ++ plan.lane_categories (host keys h)) ≡ true
  all_made here h parts =
      all_append is_made_here (plan.state_categories (host keys h)) (plan.lane_categories (host keys h))
      (state_says keys facts size few different here h is_made_here (state_made keys facts size few different here (or_empty h.map)) parts)
      (lanes_all here h is_made_here (lane_made keys facts size few different) parts)

  map_of_host : (h : DraftHost) → (host keys h).map ≡ map (category_of keys) (or_empty h.map)
  unfolding host
  map_of_host h = refl

  key_of_host : (h : DraftHost) → plan_keys.host_key (host keys h) ≡ values.host_key h
  unfolding host
  key_of_host h = refl

  all_mapped : (here : ℕ) (h : DraftHost) → slice_get keys here ≡ Some (values.host_key h) → HostParts facts here h
      → list_all (plan.is_mapped (plan_keys.host_key (host keys h)) (host keys h).map) (plan.state_categories (host keys h)) ≡ true
  all_mapped here h at parts =
      subst (λ k. list_all (plan.is_mapped k (host keys h).map) (plan.state_categories (host keys h)) ≡ true) (sym (key_of_host h))
      (subst (λ rows. list_all (plan.is_mapped (values.host_key h) rows) (plan.state_categories (host keys h)) ≡ true) (sym (map_of_host h))
      (state_says keys facts size few different here h (plan.is_mapped (values.host_key h) (map (category_of keys) (or_empty h.map)))
      (λ c e. state_mapped keys facts size few different here (values.host_key h) (or_empty h.map) c at e) parts))

  not_from : (b : Bool) → b ≡ false → not b ≡ true
  not_from true e = absurd cc
  not_from false e = refl

  from_not : (b : Bool) → not b ≡ true → b ≡ false
  from_not true e = absurd cc
  from_not false e = refl

  rows_finer : (a b : Placed CategoryName) → knows keys facts size few different a ≡ true → knows keys facts size few different b ≡ true
      → by_name.same (category_of keys a) (category_of keys b) ≡ true → same_value a b ≡ true
  rows_finer a b ka kb e = one_category keys facts.makers a.value b.value size few different ka kb e

  rows_once : (here : ℕ) (rows : List (Placed CategoryName)) → are_different same_value rows ≡ true → flat_map (rules.row_rules facts here) rows ≡ []
      → are_different (λ a b. by_name.same a b) (map (category_of keys) rows) ≡ true
  rows_once here rows once e =
      new_map (knows keys facts size few different) same_value (λ a b. by_name.same a b) (category_of keys) rows_finer [] rows refl
      (each_kept (rules.row_rules facts here) (knows keys facts size few different) rows (row_known here) e) once

  rows_away : (here : ℕ) (key : PubKey) (rows : List (Placed CategoryName)) → slice_get keys here ≡ Some key → flat_map (rules.row_rules facts here) rows ≡ []
      → list_all (λ c. not (same_key c.creator key)) (map (category_of keys) rows) ≡ true
  rows_away here key rows at e =
      all_map (λ c. not (same_key c.creator key)) (category_of keys) rows
      (each_kept (rules.row_rules facts here) (λ c. not (same_key (category_of keys c).creator key)) rows
      (λ c k. not_from _ (other_key keys facts.makers here key c.value size different at (row_known here c k) (from_not _ (row_away here c k)))) e)

  all_rows : (here : ℕ) (h : DraftHost) → HostLimits h → slice_get keys here ≡ Some (values.host_key h) → HostParts facts here h
      → plan.are_rows (plan_keys.host_key (host keys h)) (host keys h).map ≡ true
  all_rows here h limits at parts =
      subst (λ k. plan.are_rows k (host keys h).map ≡ true) (sym (key_of_host h))
      (subst (λ rows. plan.are_rows (values.host_key h) rows ≡ true) (sym (map_of_host h))
      (and_from _ _ (rows_once here (or_empty h.map) limits.rows parts.rows) (rows_away here (values.host_key h) (or_empty h.map) at parts.rows)))

  -- ---- setup

  some_address : (a : Option (Placed (List ℕ))) → is_some (address a) ≡ is_some a
  some_address None = refl
  some_address (Some p) = refl

  all_leaves : (here : ℕ) (h : DraftHost) → HostParts facts here h → plan.host_has_leaves facts.signers here (host keys h) ≡ true
  unfolding host
  all_leaves here h parts =
      subst (λ b. plan.has_leaves facts.signers here h.identity h.secret.value b (length (map (lane keys) (or_empty h.lanes))) ≡ true) (sym (some_address h.address))
      (subst (λ n. plan.has_leaves facts.signers here h.identity h.secret.value (is_some h.address) n ≡ true) (sym (length-map (or_empty h.lanes) (lane keys))) (kept _ _ _ parts.leaves))

  none_written : {A : Type 0} (silent : Bool) (part : Option (Placed A)) → rules.silent_part silent part ≡ [] → not silent ≡ false → part ≡ None
  none_written silent None e s = refl
  none_written silent (Some p) e s = absurd (clash (not silent) (kept _ _ _ e) s)
    where
      clash : (b : Bool) → b ≡ true → b ≡ false → ⊥
      clash b g i = cc

  none_listed : {A B : Type 0} (silent : Bool) (f : A → B) (part : Option (Placed (List A))) → rules.silent_part silent part ≡ [] → not silent ≡ false → nat_eq (length (map f (or_empty part))) 0 ≡ true
  none_listed silent f part e s = rw (none_written silent part e s) refl

  no_address : (silent : Bool) (part : Option (Placed (List ℕ))) → rules.silent_part silent part ≡ [] → not silent ≡ false → not (is_some (address part)) ≡ true
  no_address silent part e s = rw (none_written silent part e s) refl

  all_silent : (here : ℕ) (h : DraftHost) → HostParts facts here h → plan.is_bare_if_silent (host keys h) ≡ true
  unfolding host rules.silent_parts
  all_silent here h parts = cases (not (plan.is_silent h.secret.value)) refl
    where
      cases : (b : Bool) → not (plan.is_silent h.secret.value) ≡ b → (not (plan.is_silent h.secret.value) || plan.is_bare (host keys h)) ≡ true
      cases true e = or_left _ _ e
      cases false e =
          let silent = plan.is_silent h.secret.value in
          let p5 = front_kept _ _ parts.silent in
          let p4 = front_kept _ _ p5 in
          let p3 = front_kept _ _ p4 in
          let p2 = front_kept _ _ p3 in
          or_right _ _
          (and_from _ _ (and_from _ _ (and_from _ _ (and_from _ _ (and_from _ _
          (none_listed silent (process keys) h.procs (front_kept _ _ p2) e)
          (none_listed silent (mailbox keys) h.boxes (rest_kept _ _ p2) e))
          (none_listed silent (lane keys) h.lanes (rest_kept _ _ p3) e))
          (none_listed silent inlet h.inlets (rest_kept _ _ p4) e))
          (none_listed silent (category_of keys) h.map (rest_kept _ _ p5) e))
          (no_address silent h.address (rest_kept _ _ parts.silent) e))

  -- ---- what stands once

  slot_same : (a b : DraftBox) → true ≡ true → true ≡ true → nat_eq (mailbox keys a).slot (mailbox keys b).slot ≡ true → rules.same_slot a b ≡ true
  unfolding mailbox
  slot_same a b k j e = e

  always : {A : Type 0} (xs : List A) → list_all (λ x. true) xs ≡ true
  always [] = refl
  always (x ∷ xs) = and_from true (list_all (λ y. true) xs) refl (always xs)

  all_slots : (here : ℕ) (h : DraftHost) → OnceParts facts here h → are_different nat_eq (map (λ b. b.slot) (host keys h).boxes) ≡ true
  unfolding host
  all_slots here h parts =
      new_map (λ b. true) (λ a b. nat_eq a.slot b.slot) nat_eq (λ b. b.slot) (λ a b k j e. e) [] (map (mailbox keys) (or_empty h.boxes)) refl (always (map (mailbox keys) (or_empty h.boxes)))
      (new_map (λ b. true) rules.same_slot (λ a b. nat_eq a.slot b.slot) (mailbox keys) slot_same [] (or_empty h.boxes) refl (always (or_empty h.boxes)) (repeats_new rules.same_slot rules.slot_place [] (or_empty h.boxes) parts.slots))

  all_lanes : (here : ℕ) (h : DraftHost) → HostLimits h → HostParts facts here h → OnceParts facts here h → are_different plan.same_lane (host keys h).lanes ≡ true
  unfolding host
  all_lanes here h limits parts once = lanes_once keys facts size few different (or_empty h.lanes) limits.each_lane parts.lanes once.lanes

  all_inlets : (here : ℕ) (h : DraftHost) → HostParts facts here h → OnceParts facts here h → plan.are_inlets_new facts.receivers here (host keys h) ≡ true
  unfolding host
  all_inlets here h parts once = inlets_once keys facts size few different here (or_empty h.inlets) parts.inlets once.inlets once.made

  all_scripts : (here : ℕ) (h : DraftHost) → HostLimits h → HostParts facts here h → All (λ p. IsScript p.script) (host keys h).procs
  unfolding host
  all_scripts here h limits parts = scripts_are here (or_empty h.map) (or_empty h.procs) limits.each_proc parts.procs

  -- ---- all of them

  pub host_tests : (here : ℕ) (h : DraftHost) → HostLimits h → slice_get keys here ≡ Some (values.host_key h) → rules.repeated_in facts here h ≡ [] → rules.host_rules facts here h ≡ []
      → HostTests keys facts here (host keys h)
  host_tests here h limits at once kept_rules =
      let parts = host_parts facts here h kept_rules in
      let singles = once_parts facts here h once in
      record {
        sizes = host_sizes keys h limits;
        labels = has_labels keys h;
        scripts = all_scripts here h limits parts;
        slots = all_slots here h singles;
        lanes = all_lanes here h limits parts singles;
        inlets = all_inlets here h parts singles;
        hosts = hosts_there here h parts;
        owners = owners_there here h parts;
        known = all_known here h parts;
        made = all_made here h parts;
        mapped = all_mapped here h at parts;
        rows = all_rows here h limits at parts;
        leaves = all_leaves here h parts;
        silent = all_silent here h parts;
      }
