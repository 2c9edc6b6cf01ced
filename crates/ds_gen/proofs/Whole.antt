-- What is generated is a document.
use Rattle.std.proofs.Common.{◌≡◌, ◌≤◌, refl, ap, ◌∙◌, arith, length-append}
use Rattle.std.specs.Prelude.{ℕ, suc, ◌+◌, ◌/◌, ◌%◌, ◌^◌, ◌==◌, List, [], ◌∷◌, ◌++◌, length, map, flat_map, slice_get, Bool, true, false, ◌&&◌, ◌||◌, not, nat_le, nat_lt, bytes_eq, All, Some, if◌then◌else◌}
use Rattle.std.specs.List.{list_all}
use Rattle.std.specs.List.Sorted.{IsStrictlySortedBy}
use Rattle.std.proofs.lemmas.Bool.{and_from}
use Rattle.std.proofs.lemmas.Bool.Decides.{nat_tests}
use Rattle.std.proofs.lemmas.List.Elements.{All-nil, All-cons}
use Rattle.std.proofs.lemmas.List.Folds.{list_all-append}
use Rattle.ds_label.specs.declared.category.PubKey.{PubKey}
use Rattle.ds_label.specs.declared.category.Category.{Category}
use Rattle.ds_label.specs.Flow.{has, same_label}
use Rattle.ds_label.specs.Names.{by_name}
use Rattle.ds_script.specs.Fits.{IsOp, IsScript}
use Rattle.ds_plan.specs.declared.host.HostSpec.{HostSpec}
use Rattle.ds_plan.specs.declared.host.LaneSpec.{LaneSpec}
use Rattle.ds_plan.specs.declared.process.ProcSpec.{ProcSpec}
use Rattle.ds_plan.specs.declared.process.BoxSpec.{BoxSpec}
use Rattle.ds_plan.specs.Keys.{host_key, host_keys, same_key}
use Rattle.ds_plan.specs.Categories.{is_known, is_made, is_place}
use Rattle.ds_plan.specs.Documents as documents
use Rattle.ds_gen.specs.Generated.{generated, host_a, host_b, host_c, key_by, lane, mailbox, process, s, sends, takes}
use Rattle.ds_gen.specs.Laws.{AreDocuments}
use Rattle.ds_gen.proofs.Keys.{a_not_b, a_not_c, b_not_c, same_as_itself}
use Rattle.ds_gen.proofs.Operations.{sends_name, takes_name, sends_reach, takes_reach, sends_script, takes_script}

-- ---- lists whose only category is s

abbrev Only : List Category → Type 0
Only cs = (test : Category → Bool) → test s ≡ true → list_all test cs ≡ true

only_none : Only []
only_none test is = refl

only_s : (cs : List Category) → Only cs → Only (s ∷ cs)
only_s cs rest test is = and_from (test s) (list_all test cs) is (rest test is)

only_both : (cs ds : List Category) → Only cs → Only ds → Only (cs ++ ds)
only_both cs ds first second test is = list_all-append test cs ds ∙ and_from (list_all test cs) (list_all test ds) (first test is) (second test is)

only_sends : (n : ℕ) → Only (flat_map documents.op_categories (sends n))
only_sends n test is = sends_name test is n

only_takes : (slot turn n : ℕ) → Only (flat_map documents.op_categories (takes slot turn n))
only_takes slot turn n test is = takes_name test slot turn n

-- all that a's and b's states, lanes and scripts name
only_a : (n : ℕ) → Only ((host_a n).map ++ documents.state_categories (host_a n) ++ documents.lane_categories (host_a n) ++ documents.script_categories (host_a n))
only_a n =
    let script : List Category = flat_map documents.op_categories (sends n) ++ [] in
    only_s (s ∷ s ∷ script) (only_s (s ∷ script) (only_s script (only_both (flat_map documents.op_categories (sends n)) [] (only_sends n) only_none)))

only_b : (n : ℕ) → Only ((host_b n).map ++ documents.state_categories (host_b n) ++ documents.lane_categories (host_b n) ++ documents.script_categories (host_b n))
only_b n =
    let secret : List Category = flat_map documents.op_categories (takes 2 1 n) ++ [] in
    let scripts : List Category = flat_map documents.op_categories (takes 1 0 n) ++ secret in
    only_s (s ∷ s ∷ scripts) (only_s (s ∷ scripts) (only_s scripts
    (only_both (flat_map documents.op_categories (takes 1 0 n)) secret (only_takes 1 0 n)
    (only_both (flat_map documents.op_categories (takes 2 1 n)) [] (only_takes 2 1 n) only_none))))

-- ---- s, by the tests

-- the place of a's key is 0
placed : (rest : ℕ) → (if same_key (key_by 1) (key_by 1) then 0 else suc rest) ≡ 0
placed rest = ap (λ same. if same then 0 else suc rest) (same_as_itself 1)

known_s : (n : ℕ) → documents.is_known_in (generated n) s ≡ true
unfolding key_by
known_s n = ap (λ place. is_known (documents.makers (generated n)) (record { host = place; process = 0; number = 0 })) (placed _)

made_s : (n : ℕ) → documents.is_made_in (generated n) s ≡ true
unfolding key_by
made_s n = ap (λ place. is_made (documents.makers (generated n)) (record { host = place; process = 0; number = 0 })) (placed _)

-- ---- what is asked of all hosts

each_host : (test : HostSpec → Bool) (n : ℕ) → test (host_a n) ≡ true → test (host_b n) ≡ true → test host_c ≡ true → list_all test (generated n).hosts ≡ true
each_host test n a b c = and_from (test (host_a n)) _ a (and_from (test (host_b n)) _ b (and_from (test host_c) true c refl))

each_fact : (P : HostSpec → Type 0) (n : ℕ) → P (host_a n) → P (host_b n) → P host_c → All P (generated n).hosts
each_fact P n a b c = All-cons P (host_a n) (host_b n ∷ host_c ∷ []) a (All-cons P (host_b n) (host_c ∷ []) b (All-cons P host_c [] c (All-nil P)))

one : {X : Type 0} (P : X → Type 0) (x : X) → P x → All P (x ∷ [])
one P x is = All-cons P x [] is (All-nil P)

both : {X : Type 0} (P : X → Type 0) (x y : X) → P x → P y → All P (x ∷ y ∷ [])
both P x y first second = All-cons P x (y ∷ []) first (one P y second)

-- labels are empty or have s alone
no_label : documents.IsLabel []
unfolding IsStrictlySortedBy
no_label = (omega arith, tt)

s_label : documents.IsLabel (s ∷ [])
unfolding IsStrictlySortedBy
s_label = (omega arith, (tt, tt))

abbrev OfProc : ProcSpec → Type 0
OfProc p = documents.IsLabel p.label × documents.IsLabel p.own × documents.IsLabel p.clear

abbrev OfBox : BoxSpec → Type 0
OfBox b = documents.IsLabel b.label

abbrev OfLane : LaneSpec → Type 0
OfLane l = documents.IsLabel l.label

labels_a : (n : ℕ) → documents.HasLabels (host_a n)
labels_a n = record {
  procs = one OfProc (process 1 [] (s ∷ []) (sends n)) (no_label, s_label, no_label);
  boxes = All-nil OfBox;
  lanes = All-cons OfLane (lane 1 []) (lane 1 (s ∷ []) ∷ lane 2 (s ∷ []) ∷ []) no_label (both OfLane (lane 1 (s ∷ [])) (lane 2 (s ∷ [])) s_label s_label);
}

labels_b : (n : ℕ) → documents.HasLabels (host_b n)
labels_b n = record {
  procs = both OfProc (process 0 [] [] (takes 1 0 n)) (process 0 (s ∷ []) [] (takes 2 1 n)) (no_label, no_label, no_label) (s_label, no_label, no_label);
  boxes = both OfBox (mailbox 1 0 []) (mailbox 2 1 (s ∷ [])) no_label s_label;
  lanes = All-nil OfLane;
}

labels_c : documents.HasLabels host_c
labels_c = record {
  procs = one OfProc (process 0 [] [] []) (no_label, no_label, no_label);
  boxes = one OfBox (mailbox 1 0 []) no_label;
  lanes = All-nil OfLane;
}

abbrev HasScript : ProcSpec → Type 0
HasScript p = IsScript p.script

abbrev HaveScripts : HostSpec → Type 0
HaveScripts h = All HasScript h.procs

-- ---- what stands once

keys_differ : (n : ℕ) → documents.are_different same_key (host_keys (generated n).hosts) ≡ true
unfolding key_by
keys_differ n i = not (a_not_b i || false) && (not (a_not_c i || (b_not_c i || false)) && true)

lanes_differ : (n : ℕ) → list_all (λ h. documents.are_different documents.same_lane h.lanes) (generated n).hosts ≡ true
unfolding same_label
lanes_differ n = refl

-- ---- what is there

reach_a : (n : ℕ) → list_all (λ k. is_place k (generated n).hosts) (documents.named_hosts (host_a n)) ≡ true
reach_a n =
    let is_there : ℕ → Bool = λ k. is_place k (generated n).hosts in
    list_all-append is_there (flat_map documents.op_hosts (sends n)) [] ∙ and_from _ true (sends_reach is_there refl refl n) refl

reach_b : (n : ℕ) → list_all (λ k. is_place k (generated n).hosts) (documents.named_hosts (host_b n)) ≡ true
reach_b n =
    let is_there : ℕ → Bool = λ k. is_place k (generated n).hosts in
    list_all-append is_there (flat_map documents.op_hosts (takes 1 0 n)) (flat_map documents.op_hosts (takes 2 1 n) ++ [])
    ∙ and_from _ _ (takes_reach is_there 1 0 n)
    (list_all-append is_there (flat_map documents.op_hosts (takes 2 1 n)) [] ∙ and_from _ true (takes_reach is_there 2 1 n) refl)

-- ---- what the tables have

mapped_a : (n : ℕ) → list_all (documents.is_mapped (host_key (host_a n)) (host_a n).map) (documents.state_categories (host_a n)) ≡ true
unfolding key_by
mapped_a n i = (same_as_itself 1 i || false) && true

mapped_s : documents.is_mapped (key_by 2) (s ∷ []) s ≡ true
mapped_s i = a_not_b i || ((same_as_itself 1 i && true) || false)

mapped_b : (n : ℕ) → list_all (documents.is_mapped (host_key (host_b n)) (host_b n).map) (documents.state_categories (host_b n)) ≡ true
unfolding key_by
mapped_b n i = mapped_s i && (mapped_s i && true)

rows_b : (n : ℕ) → documents.are_rows (host_key (host_b n)) (host_b n).map ≡ true
unfolding key_by
rows_b n i = not (a_not_b i) && true

-- ---- room for addresses: at most as many are kept as there are

either : {X : Type 0} (b : Bool) (xs ys : List X) (most : ℕ) → length xs ≤ most → length ys ≤ most → length (if b then xs else ys) ≤ most
either true xs ys most first second = first
either false xs ys most first second = second

once_few : {X : Type 0} (same : X → X → Bool) (before xs : List X) → length (documents.each_once same before xs) ≤ length before + length xs
once_few same before [] = omega arith
once_few same before (x ∷ xs) =
    let size : length (before ++ x ∷ []) ≡ length before + 1 = length-append before (x ∷ []) in
    let here : length (documents.each_once same before xs) ≤ length before + length xs = once_few same before xs in
    let more : length (documents.each_once same (before ++ x ∷ []) xs) ≤ length (before ++ x ∷ []) + length xs = once_few same (before ++ x ∷ []) xs in
    either (documents.stood same before x) (documents.each_once same before xs) (documents.each_once same (before ++ x ∷ []) xs) (length before + suc (length xs))
    (omega (arith, here)) (omega (arith, more, size))

room : (made : List (List ℕ)) → length made ≤ 64 → nat_le (length (documents.each_once bytes_eq [] made)) 64 ≡ true
room made few = let most : length (documents.each_once bytes_eq [] made) ≤ 0 + length made = once_few bytes_eq [] made in grind (arith, nat_tests, most, few)

rooms : (n : ℕ) → documents.all_places (documents.has_address_room (documents.made_addresses (generated n).hosts) (flat_map documents.given_addresses (generated n).certs)) 0 (generated n).hosts ≡ true
rooms n i =
    let made : List (List ℕ) = documents.made_addresses (generated n).hosts in
    room made (omega arith) i && (room made (omega arith) i && (room made (omega arith) i && true))

-- ---- the whole

pub documented : AreDocuments
documented n most = record {
  sizes = refl;
  host_sizes = refl;
  labels = each_fact documents.HasLabels n (labels_a n) (labels_b n) labels_c;
  given = refl;
  scripts = each_fact HaveScripts n
      (one HasScript (process 1 [] (s ∷ []) (sends n)) (sends_script n most))
      (both HasScript (process 0 [] [] (takes 1 0 n)) (process 0 (s ∷ []) [] (takes 2 1 n)) (takes_script 1 0 n most) (takes_script 2 1 n most))
      (one HasScript (process 0 [] [] []) (record { few = omega arith; ops = All-nil (IsOp 0) }));
  names = refl;
  keys = keys_differ n;
  slots = refl;
  lanes = lanes_differ n;
  inlets = refl;
  hosts = each_host (λ h. list_all (λ k. is_place k (generated n).hosts) (documents.named_hosts h)) n (reach_a n) (reach_b n) refl;
  cert_hosts = refl;
  links = refl;
  owners = refl;
  events = refl;
  known = each_host (λ h. list_all (documents.is_known_in (generated n)) (h.map ++ documents.state_categories h ++ documents.lane_categories h ++ documents.script_categories h)) n
      (only_a n (documents.is_known_in (generated n)) (known_s n)) (only_b n (documents.is_known_in (generated n)) (known_s n)) refl;
  cert_known = λ i. (known_s n i && true) && true;
  made = each_host (λ h. list_all (documents.is_made_in (generated n)) (documents.state_categories h ++ documents.lane_categories h)) n
      (λ i. made_s n i && (made_s n i && (made_s n i && true))) (λ i. made_s n i && (made_s n i && true)) refl;
  mapped = each_host (λ h. list_all (documents.is_mapped (host_key h) h.map) (documents.state_categories h)) n (mapped_a n) (mapped_b n) refl;
  rows = each_host (λ h. documents.are_rows (host_key h) h.map) n refl (rows_b n) refl;
  leaves = refl;
  addresses = rooms n;
  silent = refl;
  signers = refl;
}
