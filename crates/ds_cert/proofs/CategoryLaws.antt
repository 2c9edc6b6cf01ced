-- A category that is read is the category that was written, and what was written is read again.
use Rattle.std.proofs.Common.{◌≡◌, ℕ, zero, suc, ◌+◌, ◌^◌, ◌<◌, ◌≤◌, Bool, true, false, cond, eqb, List, [], ◌∷◌, ◌++◌, length, Option, Some, None, refl, sym, ap, subst, ◌∙◌, append_assoc, length-append, arith}
use Rattle.std.specs.Int.{w8, w64, byte_len, to_be_bytes}
use Rattle.std.proofs.lemmas.Bool.{eqb-true}
use Rattle.ds_wire.specs.Fields.{IsBytes, number_at, bytes_at}
use Rattle.ds_wire.proofs.FieldLaws.{wide8, wide64, guard_some, number_spelt, number_again, bytes_spelt, bytes_again}
use Rattle.ds_label.specs.declared.category.Kind.{Kind}
use Rattle.ds_label.specs.declared.category.Kind.TheVariants.{Secrecy, Integrity}
use Rattle.ds_label.specs.declared.category.Category.{Category}
use Rattle.ds_cert.specs.Categories.{◌>>=◌, kind_from, category_in}
use Rattle.ds_cert.specs.Ranges.{CategoryFits}
use Rattle.ds_cert.specs.Spelling.{kind_number, spelling_of_category}
use Rattle.ds_cert.specs.Laws.{Takes}
use Rattle.ds_cert.proofs.Steps.{takes, Takes-then}

pub some_ok : {A B : Type 0} (o : Option A) (f : A → Option B) (y : B) → (o >>= f) ≡ Some y → (x : A) × (o ≡ Some x) × (f x ≡ Some y)
some_ok (Some x) f y e = (x, refl, e)
some_ok None f y e = absurd cc

pub some_is : {A B : Type 0} (o : Option A) (f : A → Option B) (x : A) (y : Option B) → o ≡ Some x → f x ≡ y → (o >>= f) ≡ y
some_is o f x y p q = ap (λ (s : Option _). s >>= f) p ∙ q

kind_is : (n : ℕ) (kind : Kind) → kind_from n ≡ Some kind → n ≡ kind_number kind
kind_is n kind e = cases (eqb n 0) (eqb n 1) refl refl e
  where
    cases : (a b : Bool) → eqb n 0 ≡ a → eqb n 1 ≡ b → cond a (Some Secrecy) (cond b (Some Integrity) None) ≡ Some kind → n ≡ kind_number kind
    cases true b p q f = let is : Secrecy ≡ kind = cc in subst (λ (k : Kind). n ≡ kind_number k) is (eqb-true n 0 p)
    cases false true p q f = let is : Integrity ≡ kind = cc in subst (λ (k : Kind). n ≡ kind_number k) is (eqb-true n 1 q)
    cases false false p q f = absurd cc

kind_again : (kind : Kind) → kind_from (kind_number kind) ≡ Some kind
kind_again Secrecy = refl
kind_again Integrity = refl

kind_below : (kind : Kind) → kind_number kind < 2 ^ 8
kind_below Secrecy = omega arith
kind_below Integrity = omega arith

-- the parts, read in order
pub record Parts (bytes : List ℕ) (x : Category × List ℕ) : Type 0 where
  pub creator : List ℕ × List ℕ
  pub number : ℕ × List ℕ
  pub kind : Kind
  pub last : ℕ × List ℕ
  pub creator-is : bytes_at 56 bytes ≡ Some creator
  pub number-is : number_at w8 creator.1 ≡ Some number
  pub kind-is : kind_from number.0 ≡ Some kind
  pub last-is : number_at w64 number.1 ≡ Some last
  pub made : (record { creator = record { 0 = creator.0 }; kind = kind; number = last.0 }, last.1) ≡ x

parts : (bytes : List ℕ) (x : Category × List ℕ) → category_in bytes ≡ Some x → Parts bytes x
unfolding category_in
parts bytes x e =
    let a = some_ok (bytes_at 56 bytes) _ x e in
    let b = some_ok (number_at w8 a.0.1) _ x a.2 in
    let k = some_ok (kind_from b.0.0) _ x b.2 in
    let d = some_ok (number_at w64 b.0.1) _ x k.2 in
    record { creator = a.0; number = b.0; kind = k.0; last = d.0; creator-is = a.1; number-is = b.1; kind-is = k.1; last-is = d.1; made = cc }

pub category_spelt : (bytes : List ℕ) (c : Category) (rest : List ℕ) → IsBytes bytes → category_in bytes ≡ Some (c, rest) → Takes bytes (spelling_of_category c) rest × CategoryFits c
unfolding spelling_of_category
category_spelt bytes c rest fits e =
    let p = parts bytes (c, rest) e in
    let s0 = bytes_spelt 56 bytes p.creator.0 p.creator.1 p.creator-is in
    let t0 = takes bytes p.creator.0 p.creator.1 fits s0.0 in
    let s1 = number_spelt w8 (2 ^ 8) wide8 p.creator.1 p.number.0 p.number.1 t0.rest_fits p.number-is in
    let t1 = takes p.creator.1 (to_be_bytes w8 p.number.0) p.number.1 t0.rest_fits s1.0 in
    let k1 = subst (λ (n : ℕ). Takes p.creator.1 (to_be_bytes w8 n) p.number.1) (kind_is p.number.0 p.kind p.kind-is) t1 in
    let s2 = number_spelt w64 (2 ^ 64) wide64 p.number.1 p.last.0 p.last.1 t1.rest_fits p.last-is in
    let t2 = takes p.number.1 (to_be_bytes w64 p.last.0) p.last.1 t1.rest_fits s2.0 in
    let behind = Takes-then p.creator.1 (to_be_bytes w8 (kind_number p.kind)) p.number.1 (to_be_bytes w64 p.last.0) p.last.1 k1 t2 in
    let all = Takes-then bytes p.creator.0 p.creator.1 (to_be_bytes w8 (kind_number p.kind) ++ to_be_bytes w64 p.last.0) p.last.1 t0 behind in
    subst (λ (x : Category × List ℕ). Takes bytes (x.0.creator.0 ++ (to_be_bytes w8 (kind_number x.0.kind) ++ to_be_bytes w64 x.0.number)) x.1 × CategoryFits x.0) p.made
    (all, record { creator = s0.1; number = s2.1 })

regroup : (a b c rest : List ℕ) → (a ++ (b ++ c)) ++ rest ≡ a ++ (b ++ (c ++ rest))
regroup a b c rest = simp append_assoc

pub category_again : (c : Category) (rest : List ℕ) → CategoryFits c → category_in (spelling_of_category c ++ rest) ≡ Some (c, rest)
unfolding category_in spelling_of_category
category_again c rest fits =
    let kind = to_be_bytes w8 (kind_number c.kind) in
    let number = to_be_bytes w64 c.number in
    let first : bytes_at 56 (c.creator.0 ++ (kind ++ (number ++ rest))) ≡ Some (c.creator.0, kind ++ (number ++ rest)) = subst (λ (n : ℕ). bytes_at n (c.creator.0 ++ (kind ++ (number ++ rest))) ≡ Some (c.creator.0, kind ++ (number ++ rest))) fits.creator (bytes_again c.creator.0 (kind ++ (number ++ rest))) in
    ap category_in (regroup c.creator.0 kind number rest)
    ∙ some_is (bytes_at 56 (c.creator.0 ++ (kind ++ (number ++ rest)))) _ (c.creator.0, kind ++ (number ++ rest)) (Some (c, rest)) first
    (some_is (number_at w8 (kind ++ (number ++ rest))) _ (kind_number c.kind, number ++ rest) (Some (c, rest)) (number_again w8 (2 ^ 8) wide8 (kind_number c.kind) (number ++ rest) (kind_below c.kind))
    (some_is (kind_from (kind_number c.kind)) _ c.kind (Some (c, rest)) (kind_again c.kind)
    (some_is (number_at w64 (number ++ rest)) _ (c.number, rest) (Some (c, rest)) (number_again w64 (2 ^ 64) wide64 c.number rest fits.number) refl)))

-- a category has 65 bytes
number_rest : (w : Rattle.std.specs.Int.Width) (bytes : List ℕ) (x : ℕ × List ℕ) → number_at w bytes ≡ Some x → length bytes ≡ byte_len w + length x.1
number_rest w bytes x e =
    let g = guard_some (Rattle.std.proofs.Common.ltb (length bytes) (byte_len w)) (Rattle.std.specs.Int.from_be_bytes w (Rattle.std.proofs.Common.take (byte_len w) bytes), Rattle.std.proofs.Common.drop (byte_len w) bytes) x e in
    let long : byte_len w ≤ length bytes = Rattle.std.proofs.lemmas.Bool.ltb-false _ _ g.0 in
    subst (λ (y : ℕ × List ℕ). length bytes ≡ byte_len w + length y.1) g.1 (omega (arith, Rattle.std.proofs.lemmas.List.length-drop (byte_len w) bytes, long))

pub category_rest : (bytes : List ℕ) (x : Category × List ℕ) → category_in bytes ≡ Some x → length bytes ≡ 65 + length x.1
category_rest bytes x e =
    let p = parts bytes x e in
    let s0 = bytes_spelt 56 bytes p.creator.0 p.creator.1 p.creator-is in
    let a : length bytes ≡ 56 + length p.creator.1 = omega (arith, ap length s0.0, length-append p.creator.0 p.creator.1, s0.1) in
    let b : length p.creator.1 ≡ 1 + length p.number.1 = number_rest w8 p.creator.1 p.number p.number-is in
    let d : length p.number.1 ≡ 8 + length p.last.1 = number_rest w64 p.number.1 p.last p.last-is in
    subst (λ (y : Category × List ℕ). length bytes ≡ 65 + length y.1) p.made (omega (arith, a, b, d))
