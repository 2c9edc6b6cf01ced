-- Labels of a host's processes and mailboxes by their numbers: they are known, and their numbers have names.
use Rattle.std.proofs.Common.{◌≡◌, ℕ, ◌/◌, ◌%◌, ◌^◌, ◌≤◌, Bool, true, false, ◌&&◌, ◌||◌, List, [], ◌∷◌, ◌++◌, map, Some, slice_get, refl, ◌∙◌, arith}
use Rattle.std.specs.Prelude.{nat_le, nat_lt, All}
use Rattle.std.specs.List.{list_all, flat_map}
use Rattle.std.proofs.lemmas.Bool.{and_parts, and_from, or_left, or_right, leb-true, lt-ltb}
use Rattle.ds_label.specs.declared.category.PubKey.{PubKey}
use Rattle.ds_label.specs.declared.category.Category.{Category}
use Rattle.ds_label.specs.Flow.{has, IsRising}
use Rattle.ds_label.specs.Names.{by_name}
use Rattle.ds_label.specs.Numbers.{by_number}
use Rattle.ds_label.proofs.Namings.{names, numbers}
use Rattle.ds_model.specs.Mapping.{is_known, number_of}
use Rattle.ds_map.specs.Table.{IsTable}
use Rattle.ds_map.specs.Labels.{are_known, has_name, have_names, named, numbered}
use Rattle.ds_map.proofs.Bridge.{has-image}
use Rattle.ds_map.proofs.Numbers.{labels_one_to_one, number_named}
use Rattle.ds_map.proofs.Sets.{list_all-alike}
use Rattle.ds_plan.specs.declared.doc.Doc.{Doc}
use Rattle.ds_plan.specs.declared.host.HostSpec.{HostSpec}
use Rattle.ds_plan.specs.declared.process.ProcSpec.{ProcSpec}
use Rattle.ds_plan.specs.declared.process.BoxSpec.{BoxSpec}
use Rattle.ds_plan.specs.Keys.{host_key, host_keys, same_key}
use Rattle.ds_plan.specs.Categories.{has_maker, is_in_range, origin}
use Rattle.ds_plan.specs.Documents.{HasLabels, IsDocument, IsLabel, is_known_in, is_mapped, lane_categories, makers, process_labels, script_categories, state_categories}
use Rattle.ds_script.specs.Fits.{IsScript}
use Rattle.ds_setup.proofs.Places.{all_at, test_append, test_at, test_flat}
use Rattle.ds_boot.specs.Parts.{IsBoxKnown, IsProcKnown}
use Rattle.ds_boot.proofs.Lists.{there_at}

-- ---- under a table

module _ (here : PubKey) (rows : List Category) where
  -- numbers of known categories have names
  mapped_named : (label : List Category) → list_all (is_known here rows) label ≡ true → list_all (has_name here rows) (map (number_of here rows) label) ≡ true
  mapped_named [] all = refl
  mapped_named (c ∷ label) all =
      let both = and_parts (is_known here rows c) (list_all (is_known here rows) label) all in
      and_from (has_name here rows (number_of here rows c)) (list_all (has_name here rows) (map (number_of here rows) label)) (number_named here rows c both.0) (mapped_named label both.1)

  pub all_named : (label : List Category) → list_all (is_known here rows) label ≡ true → list_all (has_name here rows) (numbered here rows label) ≡ true
  all_named label all =
      list_all-alike by_number numbers (has_name here rows) (numbered here rows label) (map (number_of here rows) label) (λ n. has-image by_name names by_number numbers (number_of here rows) n label)
      ∙ mapped_named label all

  pub three_named : (a b c : List Category) → list_all (is_known here rows) a ≡ true → list_all (is_known here rows) b ≡ true → list_all (is_known here rows) c ≡ true →
      have_names here rows (numbered here rows a ∷ numbered here rows b ∷ numbered here rows c ∷ []) ≡ true
  three_named a b c p q r = rw (all_named a p, all_named b q, all_named c r) refl

  pub one_named : (a : List Category) → list_all (is_known here rows) a ≡ true → have_names here rows (numbered here rows a ∷ []) ≡ true
  one_named a p = rw (all_named a p) refl

  pub three_known : (a b c : List Category) → list_all (is_known here rows) a ≡ true → list_all (is_known here rows) b ≡ true → list_all (is_known here rows) c ≡ true → are_known here rows (a ∷ b ∷ c ∷ []) ≡ true
  three_known a b c p q r = rw (p, q, r) refl

  pub one_known : (a : List Category) → list_all (is_known here rows) a ≡ true → are_known here rows (a ∷ []) ≡ true
  one_known a p = rw p refl

  pub names_back : IsTable here rows → (label : List Category) → IsRising by_name label → list_all (is_known here rows) label ≡ true → named here rows (numbered here rows label) ≡ label
  names_back table label up all = (labels_one_to_one here rows table).names label up (one_known label all)

-- ---- in a document

known_here : (d : Doc) (here : PubKey) (rows : List Category) (c : Category) → is_mapped here rows c ≡ true → is_known_in d c ≡ true → is_known here rows c ≡ true
known_here d here rows c mapped known = go (same_key c.creator here) refl mapped
  where
    below : nat_lt c.number (2 ^ 62) ≡ true
    below =
        let o = origin (host_keys d.hosts) c in
        let both = and_parts (is_in_range o) (has_maker o (slice_get (makers d) o.host)) known in
        let range = and_parts (nat_le o.process 1000000) (nat_le o.number 2147483647) both.0 in
        let high : c.number / 2 ^ 32 ≤ 1000000 = leb-true _ _ range.0 in
        let low : c.number % 2 ^ 32 ≤ 2147483647 = leb-true _ _ range.1 in
        lt-ltb c.number (2 ^ 62) (omega (arith, high, low))

    go : (b : Bool) → same_key c.creator here ≡ b → (b || has by_name c rows) ≡ true → (same_key c.creator here && nat_lt c.number (2 ^ 62) || has by_name c rows) ≡ true
    go true e t = or_left (same_key c.creator here && nat_lt c.number (2 ^ 62)) (has by_name c rows) (and_from (same_key c.creator here) (nat_lt c.number (2 ^ 62)) e below)
    go false e t = or_right (same_key c.creator here && nat_lt c.number (2 ^ 62)) (has by_name c rows) t

all_known : (d : Doc) (here : PubKey) (rows cs : List Category) → list_all (is_mapped here rows) cs ≡ true → list_all (is_known_in d) cs ≡ true → list_all (is_known here rows) cs ≡ true
all_known d here rows [] mapped known = refl
all_known d here rows (c ∷ cs) mapped known =
    let m = and_parts (is_mapped here rows c) (list_all (is_mapped here rows) cs) mapped in
    let k = and_parts (is_known_in d c) (list_all (is_known_in d) cs) known in
    and_from (is_known here rows c) (list_all (is_known here rows) cs) (known_here d here rows c m.0 k.0) (all_known d here rows cs m.1 k.1)

pub every_all : {X : Type 0} (P : X → Type 0) (xs : List X) → ((i : ℕ) (x : X) → slice_get xs i ≡ Some x → P x) → All P xs
every_all P xs at i d lt = at i _ (there_at xs i d lt)

-- what a process's labels are, and a mailbox's
pub record ProcLabels (here : PubKey) (rows : List Category) (p : ProcSpec) : Type 0 where
  pub script : IsScript p.script
  pub label : list_all (is_known here rows) p.label ≡ true
  pub own : list_all (is_known here rows) p.own ≡ true
  pub clear : list_all (is_known here rows) p.clear ≡ true
  pub label_up : IsRising by_name p.label
  pub own_up : IsRising by_name p.own
  pub clear_up : IsRising by_name p.clear

pub record BoxLabel (here : PubKey) (rows : List Category) (b : BoxSpec) : Type 0 where
  pub label : list_all (is_known here rows) b.label ≡ true
  pub up : IsRising by_name b.label

module _ (d : Doc) (is : IsDocument d) (place : ℕ) (h : HostSpec) (there : slice_get d.hosts place ≡ Some h) where
  state_known : list_all (is_known (host_key h) h.map) (state_categories h) ≡ true
  state_known =
      let mapped : list_all (is_mapped (host_key h) h.map) (state_categories h) ≡ true = test_at (λ (h : HostSpec). list_all (is_mapped (host_key h) h.map) (state_categories h)) d.hosts place h is.mapped there in
      let known : list_all (is_known_in d) (h.map ++ state_categories h ++ lane_categories h ++ script_categories h) ≡ true =
      test_at (λ (h : HostSpec). list_all (is_known_in d) (h.map ++ state_categories h ++ lane_categories h ++ script_categories h)) d.hosts place h is.known there in
      let front = (test_append (is_known_in d) (h.map ++ state_categories h ++ lane_categories h) (script_categories h) known).0 in
      let states = (test_append (is_known_in d) (h.map ++ state_categories h) (lane_categories h) front).0 in
      all_known d (host_key h) h.map (state_categories h) mapped (test_append (is_known_in d) h.map (state_categories h) states).1

  both_known : (list_all (is_known (host_key h) h.map) (flat_map process_labels h.procs) ≡ true) × (list_all (is_known (host_key h) h.map) (flat_map (λ (b : BoxSpec). b.label) h.boxes) ≡ true)
  both_known = test_append (is_known (host_key h) h.map) (flat_map process_labels h.procs) (flat_map (λ (b : BoxSpec). b.label) h.boxes) state_known

  pub proc_labels : (i : ℕ) (p : ProcSpec) → slice_get h.procs i ≡ Some p → ProcLabels (host_key h) h.map p
  proc_labels i p at =
      let all = test_flat (is_known (host_key h) h.map) process_labels h.procs i p both_known.0 at in
      let first = test_append (is_known (host_key h) h.map) (p.label ++ p.own) p.clear all in
      let second = test_append (is_known (host_key h) h.map) p.label p.own first.0 in
      let up : IsLabel p.label × IsLabel p.own × IsLabel p.clear = all_at (λ (p : ProcSpec). IsLabel p.label × IsLabel p.own × IsLabel p.clear) h.procs i p (all_at HasLabels d.hosts place h is.labels there).procs at in
      record {
        script = all_at (λ (p : ProcSpec). IsScript p.script) h.procs i p (all_at (λ (h : HostSpec). All (λ (p : ProcSpec). IsScript p.script) h.procs) d.hosts place h is.scripts there) at;
        label = second.0;
        own = second.1;
        clear = first.1;
        label_up = up.0.1;
        own_up = up.1.1;
        clear_up = up.2.1;
      }

  pub box_label : (i : ℕ) (b : BoxSpec) → slice_get h.boxes i ≡ Some b → BoxLabel (host_key h) h.map b
  box_label i b at = record {
    label = test_flat (is_known (host_key h) h.map) (λ (b : BoxSpec). b.label) h.boxes i b both_known.1 at;
    up = (all_at (λ (b : BoxSpec). IsLabel b.label) h.boxes i b (all_at HasLabels d.hosts place h is.labels there).boxes at).1;
  }

  pub procs_known : All (IsProcKnown (host_key h) h.map) h.procs
  procs_known = every_all (IsProcKnown (host_key h) h.map) h.procs (λ i p at.
      let l = proc_labels i p at in
      record { script = l.script; known = three_known (host_key h) h.map p.label p.own p.clear l.label l.own l.clear })

  pub boxes_known : All (IsBoxKnown (host_key h) h.map) h.boxes
  boxes_known = every_all (IsBoxKnown (host_key h) h.map) h.boxes (λ i b at. one_known (host_key h) h.map b.label (box_label i b at).label)
