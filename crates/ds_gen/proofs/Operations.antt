-- What holds of each operation of a generated script, by the few shapes that they have.
use Rattle.std.proofs.Common.{◌≡◌, ◌≤◌, ◌<◌, ◌∙◌, refl, sym, subst, arith}
use Rattle.std.specs.Prelude.{ℕ, zero, suc, ◌+◌, ◌*◌, ◌%◌, ◌==◌, ◌^◌, List, [], ◌∷◌, ◌++◌, length, flat_map, Bool, true, false, All, codes, decimal, if◌then◌else◌}
use Rattle.std.specs.List.{list_all}
use Rattle.std.proofs.lemmas.Bool.{and_from}
use Rattle.std.proofs.lemmas.Fmt.{length-decimal-le_succ}
use Rattle.std.proofs.lemmas.List.{length-append}
use Rattle.std.proofs.lemmas.List.Elements.{All-nil, All-cons, All-append}
use Rattle.std.proofs.lemmas.List.Folds.{list_all-append}
use Rattle.ds_label.specs.declared.category.Category.{Category}
use Rattle.ds_script.specs.declared.op.Op.{Op}
use Rattle.ds_script.specs.declared.op.Op.TheVariants.{Set, Send, Take, Print}
use Rattle.ds_script.specs.Fits.{IsOp, IsScript}
use Rattle.ds_plan.specs.Documents.{op_categories, op_hosts}
use Rattle.ds_gen.specs.Generated.{payload, s, send_by, sends, sent, takes}

-- ---- what each operation satisfies

-- a claim of the three sends, and of the texts of so many messages
pub record OfSends (P : Op → Type 0) (n : ℕ) : Type 0 where
  pub text : (i : ℕ) → i < n → P (Set 0 (payload i))
  pub plain : P (sent 1 1 [])
  pub granted : P (sent 1 2 (s ∷ []))
  pub refused : P (sent 2 1 (s ∷ []))

module _ (P : Op → Type 0) where
  by_turn : {n : ℕ} → OfSends P n → (first second : Bool) → P (if first then sent 1 1 [] else if second then sent 1 2 (s ∷ []) else sent 2 1 (s ∷ []))
  by_turn of true second = of.plain
  by_turn of false true = of.granted
  by_turn of false false = of.refused

  pub all_sends : (n : ℕ) → OfSends P n → All P (sends n)
  all_sends zero of = All-nil P
  all_sends (suc i) of =
      All-append P (sends i) (Set 0 (payload i) ∷ send_by (i % 3) ∷ [])
      (all_sends i (record { text = λ j lt. of.text j (omega (arith, lt)); plain = of.plain; granted = of.granted; refused = of.refused }))
      (All-cons P (Set 0 (payload i)) (send_by (i % 3) ∷ []) (of.text i (omega arith))
      (All-cons P (send_by (i % 3)) [] (by_turn of ((i % 3) == 0) ((i % 3) == 1)) (All-nil P)))

  one_take : (slot : ℕ) → P (Take 0 slot) → P (Print 0) → (b : Bool) → All P (if b then Take 0 slot ∷ Print 0 ∷ [] else [])
  one_take slot take print true = All-cons P (Take 0 slot) (Print 0 ∷ []) take (All-cons P (Print 0) [] print (All-nil P))
  one_take slot take print false = All-nil P

  pub all_takes : (slot turn : ℕ) → P (Take 0 slot) → P (Print 0) → (n : ℕ) → All P (takes slot turn n)
  all_takes slot turn take print zero = All-nil P
  all_takes slot turn take print (suc i) =
      All-append P (takes slot turn i) (if (i % 3) == turn then Take 0 slot ∷ Print 0 ∷ [] else [])
      (all_takes slot turn take print i) (one_take slot take print ((i % 3) == turn))

-- ---- tests of what operations name

-- a test of what each operation gives is a test of all together
pub of_each : {X Y : Type 0} (test : Y → Bool) (f : X → List Y) (xs : List X) → All (λ x. list_all test (f x) ≡ true) xs → list_all test (flat_map f xs) ≡ true
of_each test f [] all = refl
of_each test f (x ∷ xs) all =
    list_all-append test (f x) (flat_map f xs) ∙ and_from (list_all test (f x)) (list_all test (flat_map f xs)) (all 0 x (omega arith))
    (of_each test f xs (λ i y lt. all (suc i) y (omega (arith, lt))))

-- the categories of a script are s alone, and the hosts b and c
pub sends_name : (test : Category → Bool) → test s ≡ true → (n : ℕ) → list_all test (flat_map op_categories (sends n)) ≡ true
sends_name test is n = of_each test op_categories (sends n)
    (all_sends (λ op. list_all test (op_categories op) ≡ true) n
    (record { text = λ i lt. refl; plain = refl; granted = and_from (test s) true is refl; refused = and_from (test s) true is refl }))

pub takes_name : (test : Category → Bool) (slot turn n : ℕ) → list_all test (flat_map op_categories (takes slot turn n)) ≡ true
takes_name test slot turn n = of_each test op_categories (takes slot turn n) (all_takes (λ op. list_all test (op_categories op) ≡ true) slot turn refl refl n)

pub sends_reach : (test : ℕ → Bool) → test 1 ≡ true → test 2 ≡ true → (n : ℕ) → list_all test (flat_map op_hosts (sends n)) ≡ true
sends_reach test one two n = of_each test op_hosts (sends n)
    (all_sends (λ op. list_all test (op_hosts op) ≡ true) n
    (record { text = λ i lt. refl; plain = and_from (test 1) true one refl; granted = and_from (test 1) true one refl; refused = and_from (test 2) true two refl }))

pub takes_reach : (test : ℕ → Bool) (slot turn n : ℕ) → list_all test (flat_map op_hosts (takes slot turn n)) ≡ true
takes_reach test slot turn n = of_each test op_hosts (takes slot turn n) (all_takes (λ op. list_all test (op_hosts op) ≡ true) slot turn refl refl n)

-- ---- they are scripts

pub length-sends : (n : ℕ) → length (sends n) ≡ 2 * n
length-sends zero = refl
length-sends (suc i) = let before : length (sends i) ≡ 2 * i = length-sends i in
    length-append (sends i) (Set 0 (payload i) ∷ send_by (i % 3) ∷ []) ∙ omega (arith, before)

few : (slot : ℕ) (b : Bool) → length (if b then Take 0 slot ∷ Print 0 ∷ [] else []) ≤ 2
few slot true = omega arith
few slot false = omega arith

pub length-takes : (slot turn n : ℕ) → length (takes slot turn n) ≤ 2 * n
length-takes slot turn zero = omega arith
length-takes slot turn (suc i) =
    let before : length (takes slot turn i) ≤ 2 * i = length-takes slot turn i in
    let now : length (if (i % 3) == turn then Take 0 slot ∷ Print 0 ∷ [] else []) ≤ 2 = few slot ((i % 3) == turn) in
    rw (length-append (takes slot turn i) (if (i % 3) == turn then Take 0 slot ∷ Print 0 ∷ [] else [])) (omega (arith, before, now))

short : (n i : ℕ) → n ≤ 1000 → i < n → length (payload i) ≤ 16384
short n i most lt =
    let digits : length (decimal i) ≤ i + 1 = length-decimal-le_succ i (omega (arith, most, lt)) in
    omega (arith, most, lt, digits)

pub sends_script : (n : ℕ) → n ≤ 1000 → IsScript (sends n)
sends_script n most = record {
  few = let size : length (sends n) ≡ 2 * n = length-sends n in omega (arith, size, most);
  ops = all_sends (IsOp (length (sends n))) n (record {
    text = λ i lt. (omega arith, short n i most lt);
    plain = omega arith;
    granted = omega arith;
    refused = omega arith;
  });
}

pub takes_script : (slot turn n : ℕ) → n ≤ 1000 → IsScript (takes slot turn n)
takes_script slot turn n most = record {
  few = let size : length (takes slot turn n) ≤ 2 * n = length-takes slot turn n in omega (arith, size, most);
  ops = all_takes (IsOp (length (takes slot turn n))) slot turn (omega arith) (omega arith) n;
}
