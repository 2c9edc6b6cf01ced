-- Categories by their creators' keys, where these differ.
use Rattle.std.proofs.Common.{◌≡◌, ◌<◌, ◌≤◌, ℕ, zero, suc, ◌+◌, ◌*◌, ◌/◌, ◌%◌, ◌^◌, List, [], ◌∷◌, ◌++◌, length, slice_get, Bool, true, false, ◌||◌, not, ◌==◌, nat_le, bytes_eq, Some, refl, sym, ap, ◌∙◌, subst, arith}
use Rattle.std.proofs.lemmas.Bool.{and_from}
use Rattle.std.proofs.lemmas.Bool.Decides.{nat_tests}
use Rattle.std.proofs.lemmas.Slice.Eq.{bytes_eq-Decides}
use Rattle.ds_label.specs.declared.category.PubKey.{PubKey}
use Rattle.ds_label.specs.declared.category.Kind.{Kind}
use Rattle.ds_label.specs.declared.category.Kind.TheVariants.{Secrecy, Integrity}
use Rattle.ds_label.specs.Names.{by_name, same_kind}
use Rattle.ds_label.proofs.Namings.{names}
use Rattle.ds_label.proofs.Members.{same-is}
use Rattle.ds_plan.specs.declared.maker.Maker.{Maker}
use Rattle.ds_plan.specs.Keys.{same_key}
use Rattle.ds_plan.specs.Categories.{Origin, origin, place_of_key, is_known, has_maker, is_in_range}
use Rattle.ds_plan.specs.Documents.{stood, are_new, are_different}
use Rattle.ds_doc.specs.declared.draft.HostName.{HostName}
use Rattle.ds_doc.specs.declared.draft.HostName.TheVariants.{Known, Unknown}
use Rattle.ds_doc.specs.declared.draft.CategoryName.{CategoryName}
use Rattle.ds_doc.specs.Names.{number_of, same_host, origin_of, same_named}
use Rattle.ds_doc.specs.Rules.{is_home}
use Rattle.ds_doc.specs.Values.{category, key_or}
use Rattle.ds_doc.proofs.Faults.{and_first, and_second}

pub same_bytes : (a : List ℕ) → bytes_eq a a ≡ true
same_bytes a = (bytes_eq-Decides a a).1 refl

pub same_key_self : (k : PubKey) → same_key k k ≡ true
same_key_self k = same_bytes k.0

or_parts_first : (a b : Bool) → (a || b) ≡ false → a ≡ false
or_parts_first true b e = e
or_parts_first false b e = refl

or_parts_second : (a b : Bool) → (a || b) ≡ false → b ≡ false
or_parts_second true b e = absurd cc
or_parts_second false b e = e

stood_front : {A : Type 0} (same : A → A → Bool) (xs ys : List A) (x : A) → stood same (xs ++ ys) x ≡ false → stood same xs x ≡ false
stood_front same [] ys x e = refl
stood_front same (z ∷ xs) ys x e =
    rw (or_parts_first (same z x) (stood same (xs ++ ys) x) e) (stood_front same xs ys x (or_parts_second (same z x) (stood same (xs ++ ys) x) e))

stood_last : {A : Type 0} (same : A → A → Bool) (xs : List A) (y x : A) → stood same (xs ++ y ∷ []) x ≡ false → same y x ≡ false
stood_last same [] y x e = or_parts_first (same y x) false e
stood_last same (z ∷ xs) y x e = stood_last same xs y x (or_parts_second (same z x) (stood same (xs ++ y ∷ []) x) e)

not_true : (b : Bool) → not b ≡ true → b ≡ false
not_true true e = absurd cc
not_true false e = refl

get_here : {A : Type 0} (y : A) (ys : List A) (x : A) → slice_get (y ∷ ys) 0 ≡ Some x → y ≡ x
get_here y ys x e = cc

get_none : {A : Type 0} (n : ℕ) (x : A) → slice_get [] n ≡ Some x → ⊥
get_none n x e = cc

not_stood : {A : Type 0} (same : A → A → Bool) (before xs : List A) (n : ℕ) (x : A) → are_new same before xs ≡ true → slice_get xs n ≡ Some x → stood same before x ≡ false
not_stood same before [] n x e h = absurd (get_none n x h)
not_stood same before (y ∷ ys) zero x e h =
    subst (λ z. stood same before z ≡ false) (get_here y ys x h) (not_true (stood same before y) (and_first (not (stood same before y)) (are_new same (before ++ y ∷ []) ys) e))
not_stood same before (y ∷ ys) (suc n) x e h =
    stood_front same before (y ∷ []) x (not_stood same (before ++ y ∷ []) ys n x (and_second (not (stood same before y)) (are_new same (before ++ y ∷ []) ys) e) h)

-- the first place of a key is its place
place_from : (before keys : List PubKey) (n : ℕ) (k : PubKey) → are_new same_key before keys ≡ true → slice_get keys n ≡ Some k → place_of_key keys k ≡ n
place_from before [] n k e h = absurd (get_none n k h)
place_from before (y ∷ ys) zero k e h = rw (subst (λ z. same_key y z ≡ true) (get_here y ys k h) (same_key_self y)) refl
place_from before (y ∷ ys) (suc n) k e h =
    let later = and_second (not (stood same_key before y)) (are_new same_key (before ++ y ∷ []) ys) e in
    let other : same_key y k ≡ false = stood_last same_key before y k (not_stood same_key (before ++ y ∷ []) ys n k later h) in
    rw other (ap suc (place_from (before ++ y ∷ []) ys n k later h))

pub key_place : (keys : List PubKey) (n : ℕ) (k : PubKey) → are_different same_key keys ≡ true → slice_get keys n ≡ Some k → place_of_key keys k ≡ n
key_place keys n k e h = place_from [] keys n k e h

pub get_within : {A : Type 0} (xs : List A) (n : ℕ) → n < length xs → (x : A) × (slice_get xs n ≡ Some x)
get_within [] n h = absurd (omega (arith, h))
get_within (x ∷ xs) zero h = (x, refl)
get_within (x ∷ xs) (suc n) h = get_within xs n (omega (arith, h))

has_within : (o : Origin) (makers : List Maker) (n : ℕ) → has_maker o (slice_get makers n) ≡ true → n < length makers
has_within o [] n e = absurd (none o n e)
  where
    none : (q : Origin) (m : ℕ) → has_maker q (slice_get [] m) ≡ true → ⊥
    none q m h = cc
has_within o (x ∷ xs) zero e = omega arith
has_within o (x ∷ xs) (suc n) e = omega (arith, has_within o xs n e)

-- a category that is known has a host of the document, and its numbers are in range
pub known_within : (makers : List Maker) (c : CategoryName) → is_known makers (origin_of c) ≡ true → number_of c.host < length makers
known_within makers c e = has_within (origin_of c) makers (number_of c.host) (and_second (is_in_range (origin_of c)) (has_maker (origin_of c) (slice_get makers (number_of c.host))) e)

nat_le_true : (a b : ℕ) → nat_le a b ≡ true → a ≤ b
nat_le_true a b e = grind (arith, nat_tests)

pub known_number : (makers : List Maker) (c : CategoryName) → is_known makers (origin_of c) ≡ true → c.number ≤ 2147483647
known_number makers c e =
    nat_le_true c.number 2147483647 (and_second (nat_le c.process 1000000) (nat_le c.number 2147483647) (and_first (is_in_range (origin_of c)) (has_maker (origin_of c) (slice_get makers (number_of c.host))) e))

pub known_process : (makers : List Maker) (c : CategoryName) → is_known makers (origin_of c) ≡ true → c.process ≤ 1000000
known_process makers c e =
    nat_le_true c.process 1000000 (and_first (nat_le c.process 1000000) (nat_le c.number 2147483647) (and_first (is_in_range (origin_of c)) (has_maker (origin_of c) (slice_get makers (number_of c.host))) e))

quotient : (p n : ℕ) → n ≤ 2147483647 → (p * 4294967296 + n) / 4294967296 ≡ p
quotient p n h = omega (arith, h)

remainder : (p n : ℕ) → n ≤ 2147483647 → (p * 4294967296 + n) % 4294967296 ≡ n
remainder p n h = omega (arith, h)

-- the key and the number tell where a known category comes from
pub origin_kept : (keys : List PubKey) (makers : List Maker) (c : CategoryName) → length makers ≡ length keys → are_different same_key keys ≡ true
    → is_known makers (origin_of c) ≡ true → origin keys (category keys c) ≡ origin_of c
unfolding category
origin_kept keys makers c size different known =
    let within : number_of c.host < length keys = omega (arith, size, known_within makers c known) in
    let found = get_within keys (number_of c.host) within in
    let place : place_of_key keys (key_or (slice_get keys (number_of c.host))) ≡ number_of c.host =
    subst (λ o. place_of_key keys (key_or o) ≡ number_of c.host) (sym found.1) (key_place keys (number_of c.host) found.0 different found.1) in
    λ i. record {
      host = place i;
      process = quotient c.process c.number (known_number makers c known) i;
      number = remainder c.process c.number (known_number makers c known) i;
    }

pub known_doc : (keys : List PubKey) (makers : List Maker) (c : CategoryName) → length makers ≡ length keys → are_different same_key keys ≡ true
    → is_known makers (origin_of c) ≡ true → is_known makers (origin keys (category keys c)) ≡ true
known_doc keys makers c size different known = subst (λ o. is_known makers o ≡ true) (sym (origin_kept keys makers c size different known)) known

same_number : (a b : ℕ) → a ≡ b → (a == b) ≡ true
same_number a b e = grind (arith, nat_tests)

same_kind_of : (a b : Kind) → a ≡ b → same_kind a b ≡ true
same_kind_of a b e = subst (λ k. same_kind a k ≡ true) e (self a)
  where
    self : (k : Kind) → same_kind k k ≡ true
    self Secrecy = refl
    self Integrity = refl

-- hosts of the document with one place have one name
pub one_host : (a b : HostName) (count : ℕ) → count ≤ 16 → number_of a < count → number_of b < count → number_of a ≡ number_of b → same_host a b ≡ true
one_host (Known a) (Known b) count few h g e = same_number a b e
one_host (Known a) (Unknown b) count few h g e = absurd (omega (arith, few, g))
one_host (Unknown a) b count few h g e = absurd (omega (arith, few, h))

-- known categories with one name at setup have one name in the document
pub one_category : (keys : List PubKey) (makers : List Maker) (x y : CategoryName) → length makers ≡ length keys → length keys ≤ 16 → are_different same_key keys ≡ true
    → is_known makers (origin_of x) ≡ true → is_known makers (origin_of y) ≡ true → by_name.same (category keys x) (category keys y) ≡ true → same_named x y ≡ true
unfolding category
one_category keys makers x y size few different kx ky e =
    let same : category keys x ≡ category keys y = (same-is by_name names (category keys x) (category keys y)).0 e in
    let origins : origin_of x ≡ origin_of y = sym (origin_kept keys makers x size different kx) ∙ ap (origin keys) same ∙ origin_kept keys makers y size different ky in
    let host = one_host x.host y.host (length keys) few (omega (arith, size, known_within makers x kx)) (omega (arith, size, known_within makers y ky)) (ap (λ o. o.host) origins) in
    and_from _ (same_kind x.kind y.kind)
    (and_from _ (x.number == y.number)
    (and_from (same_host x.host y.host) (x.process == y.process) host (same_number x.process y.process (ap (λ o. o.process) origins)))
    (same_number x.number y.number (ap (λ o. o.number) origins)))
    (same_kind_of x.kind y.kind (ap (λ c. c.kind) same))

-- the host's own category has its key
pub home_key : (keys : List PubKey) (here : ℕ) (key : PubKey) (c : CategoryName) → slice_get keys here ≡ Some key → is_home here c ≡ true → same_key (category keys c).creator key ≡ true
unfolding category
home_key keys here key c h e =
    let at : number_of c.host ≡ here = number_true (number_of c.host) here e in
    let found : slice_get keys (number_of c.host) ≡ Some key = subst (λ n. slice_get keys n ≡ Some key) (sym at) h in
    subst (λ o. same_key (key_or o) key ≡ true) (sym found) (same_key_self key)
  where
    number_true : (a b : ℕ) → (a == b) ≡ true → a ≡ b
    number_true a b g = grind (arith, nat_tests)

-- and no other has
pub other_key : (keys : List PubKey) (makers : List Maker) (here : ℕ) (key : PubKey) (c : CategoryName) → length makers ≡ length keys → are_different same_key keys ≡ true
    → slice_get keys here ≡ Some key → is_known makers (origin_of c) ≡ true → is_home here c ≡ false → same_key (category keys c).creator key ≡ false
unfolding category
other_key keys makers here key c size different h known e =
    cases (same_key (category keys c).creator key) refl
  where
    cases : (b : Bool) → same_key (category keys c).creator key ≡ b → b ≡ false
    cases false g = refl
    cases true g =
        let one : (category keys c).creator.0 ≡ key.0 = (bytes_eq-Decides (category keys c).creator.0 key.0).0 g in
        let same : (category keys c).creator ≡ key = λ i. record { 0 = one i } in
        let place : number_of c.host ≡ here = ap (λ o. o.host) (sym (origin_kept keys makers c size different known)) ∙ ap (place_of_key keys) same ∙ key_place keys here key different h in
        absurd (clash (is_home here c) (same_number (number_of c.host) here place) e)
      where
        clash : (b : Bool) → b ≡ true → b ≡ false → ⊥
        clash b p q = cc

number_true : (a b : ℕ) → (a == b) ≡ true → a ≡ b
number_true a b g = grind (arith, nat_tests)

host_number : (a b : HostName) → same_host a b ≡ true → number_of a ≡ number_of b
host_number (Known a) (Known b) e = number_true a b e
host_number (Known a) (Unknown b) e = absurd cc
host_number (Unknown a) (Known b) e = absurd cc
host_number (Unknown a) (Unknown b) e = refl

kind_true : (a b : Kind) → same_kind a b ≡ true → a ≡ b
kind_true Secrecy Secrecy e = refl
kind_true Secrecy Integrity e = absurd cc
kind_true Integrity Secrecy e = absurd cc
kind_true Integrity Integrity e = refl

-- categories with one name in the document are one
pub named_same : (keys : List PubKey) (x y : CategoryName) → same_named x y ≡ true → category keys x ≡ category keys y
unfolding category
named_same keys x y e =
    let three = and_first _ (same_kind x.kind y.kind) e in
    let two = and_first _ (x.number == y.number) three in
    let host = host_number x.host y.host (and_first _ (x.process == y.process) two) in
    let process = number_true x.process y.process (and_second _ (x.process == y.process) two) in
    let number = number_true x.number y.number (and_second _ (x.number == y.number) three) in
    let kind = kind_true x.kind y.kind (and_second _ (same_kind x.kind y.kind) e) in
    λ i. record { creator = key_or (slice_get keys (host i)); kind = kind i; number = process i * 2 ^ 32 + number i }
