-- Names and numbers are told apart by their order, and only equal ones tie.
use Rattle.std.proofs.Common.{◌≡◌, ℕ, refl, sym, arith}
use Rattle.std.specs.Prelude.{◌==◌}
use Rattle.std.specs.Bool.{Decides}
use Rattle.std.specs.declared.cmp.Ordering.{Ordering}
use Rattle.std.specs.declared.cmp.Ordering.TheVariants.{Less, Equal, Greater}
use Rattle.std.specs.Ordering.{is_eq, ordering_then, nat_cmp}
use Rattle.std.specs.Cmp.{IsTotalOrder, Equal-is, nat_cmp_total, on_total, then_total, both_tied}
use Rattle.std.specs.Cmp.Lexicographic.{slice_cmp}
use Rattle.std.proofs.lemmas.Cmp.{nat_list_cmp_total}
use Rattle.std.proofs.lemmas.Map.Lookups.{exact_bytes, exact_unsigned}
use Rattle.std.proofs.lemmas.Map.Text.{is_eq-slice_cmp}
use Rattle.ds_label.specs.declared.category.Kind.{Kind}
use Rattle.ds_label.specs.declared.category.Kind.TheVariants.{Secrecy, Integrity}
use Rattle.ds_label.specs.declared.category.Category.{Category}
use Rattle.ds_label.specs.Flow.{Naming}
use Rattle.ds_label.specs.Names.{same_kind, kind_cmp, by_name}
use Rattle.ds_label.specs.Numbers.{by_number}

-- a naming whose order is total, whose ties are equal, and whose test is that of the ties
pub record IsNaming {C : Type 0} (naming : Naming C) : Type 0 where
  pub total : IsTotalOrder naming.compare
  pub exact : (x y : C) → naming.compare x y ≡ Equal → x ≡ y
  pub tells : (x y : C) → naming.same x y ≡ is_eq (naming.compare x y)

kind_cmp_total : IsTotalOrder kind_cmp
kind_cmp_total = record { antisymm = flips; trans = follows; congr = alike }
  where
    flips : (x y : Kind) → kind_cmp x y ≡ Rattle.std.specs.Ordering.ordering_reverse (kind_cmp y x)
    flips Secrecy Secrecy = refl
    flips Secrecy Integrity = refl
    flips Integrity Secrecy = refl
    flips Integrity Integrity = refl

    follows : (x y z : Kind) → kind_cmp x y ≡ Less → kind_cmp y z ≡ Less → kind_cmp x z ≡ Less
    follows Secrecy Secrecy z p q = absurd cc
    follows Secrecy Integrity Secrecy p q = absurd cc
    follows Secrecy Integrity Integrity p q = absurd cc
    follows Integrity Secrecy z p q = absurd cc
    follows Integrity Integrity z p q = absurd cc

    alike : (x y z : Kind) → kind_cmp x y ≡ Equal → kind_cmp x z ≡ kind_cmp y z
    alike Secrecy Secrecy z p = refl
    alike Secrecy Integrity z p = absurd cc
    alike Integrity Secrecy z p = absurd cc
    alike Integrity Integrity z p = refl

kind_exact : (x y : Kind) → kind_cmp x y ≡ Equal → x ≡ y
kind_exact Secrecy Secrecy p = refl
kind_exact Secrecy Integrity p = absurd cc
kind_exact Integrity Secrecy p = absurd cc
kind_exact Integrity Integrity p = refl

kind_tells : (x y : Kind) → same_kind x y ≡ is_eq (kind_cmp x y)
kind_tells Secrecy Secrecy = refl
kind_tells Secrecy Integrity = refl
kind_tells Integrity Secrecy = refl
kind_tells Integrity Integrity = refl

nat_tells : (x y : ℕ) → (x == y) ≡ is_eq (nat_cmp x y)
nat_tells x y = grind (arith, Rattle.std.proofs.lemmas.Bool.Decides.nat_tests)

then_parts : (a b : Ordering) → ordering_then a b ≡ Equal → (a ≡ Equal) × (b ≡ Equal)
then_parts Less b e = absurd cc
then_parts Equal b e = (refl, e)
then_parts Greater b e = absurd cc

category_from_parts : (x y : Category) → x.creator.0 ≡ y.creator.0 → x.kind ≡ y.kind → x.number ≡ y.number → x ≡ y
category_from_parts x y p q r = λ i. record { creator = record { 0 = p i }; kind = q i; number = r i }

pub names : IsNaming by_name
names = record {
  total = then_total (on_total (λ (c : Category). c.creator.0) nat_list_cmp_total) (then_total (on_total (λ (c : Category). c.kind) kind_cmp_total) (on_total (λ (c : Category). c.number) nat_cmp_total));
  exact = λ x y e.
      let a = then_parts (slice_cmp nat_cmp x.creator.0 y.creator.0) (ordering_then (kind_cmp x.kind y.kind) (nat_cmp x.number y.number)) e in
      let b = then_parts (kind_cmp x.kind y.kind) (nat_cmp x.number y.number) a.1 in
      category_from_parts x y (exact_bytes _ _ a.0) (kind_exact _ _ b.0) (exact_unsigned _ _ b.1);
  tells = λ x y. both_tied _ _ _ _ (sym (is_eq-slice_cmp x.creator.0 y.creator.0)) (both_tied _ _ _ _ (kind_tells x.kind y.kind) (nat_tells x.number y.number));
}

pub numbers : IsNaming by_number
numbers = record { total = nat_cmp_total; exact = exact_unsigned; tells = nat_tells }
