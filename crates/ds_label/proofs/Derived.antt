-- What the derived `==` and `cmp` of categories compute.
use Rattle.std.proofs.Common.{◌≡◌, Bool, ◌&&◌, refl, ap}
use Rattle.std.specs.Prelude.{◌==◌, bytes_eq}
use Rattle.std.specs.declared.cmp.Ordering.{Ordering}
use Rattle.std.specs.Ordering.{ordering_then, nat_cmp}
use Rattle.std.specs.Cmp.Lexicographic.{slice_cmp}
use Rattle.ds_label.specs.declared.category.Kind.{Kind}
use Rattle.ds_label.specs.declared.category.Kind.TheVariants.{Secrecy, Integrity}
use Rattle.ds_label.specs.declared.category.Category.{Category}
use Rattle.ds_label.specs.contracts.category.CategoryPartialEq.TheImpl as equal
use Rattle.ds_label.specs.contracts.category.KindPartialEq.TheImpl as equal_kind
use Rattle.ds_label.specs.contracts.category.CategoryOrd.TheImpl as order
use Rattle.ds_label.specs.contracts.category.KindOrd.TheImpl as order_kind
use Rattle.ds_label.specs.Names.{same_category, same_kind, category_cmp, kind_cmp}

kinds_eq : (k l : Kind) → (equal_kind.ghosts).eq k l ≡ same_kind k l
kinds_eq Secrecy Secrecy = refl
kinds_eq Secrecy Integrity = refl
kinds_eq Integrity Secrecy = refl
kinds_eq Integrity Integrity = refl

pub categories_eq : (x y : Category) → (equal.ghosts).eq x y ≡ same_category x y
categories_eq x y = ap (λ (b : Bool). bytes_eq x.creator.0 y.creator.0 && (b && (x.number == y.number))) (kinds_eq x.kind y.kind)

kinds_cmp : (k l : Kind) → (order_kind.ghosts).cmp k l ≡ kind_cmp k l
kinds_cmp Secrecy Secrecy = refl
kinds_cmp Secrecy Integrity = refl
kinds_cmp Integrity Secrecy = refl
kinds_cmp Integrity Integrity = refl

pub categories_cmp : (x y : Category) → (order.ghosts).cmp x y ≡ category_cmp x y
categories_cmp x y = ap (λ (o : Ordering). ordering_then (slice_cmp nat_cmp x.creator.0 y.creator.0) (ordering_then o (nat_cmp x.number y.number))) (kinds_cmp x.kind y.kind)
