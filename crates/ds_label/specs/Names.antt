-- Categories as hosts name them to each other.
use Rattle.std.specs.Prelude.{Bool, true, false, ◌&&◌, ◌==◌, bytes_eq}
use Rattle.std.specs.declared.cmp.Ordering.{Ordering}
use Rattle.std.specs.declared.cmp.Ordering.TheVariants.{Less, Equal, Greater}
use Rattle.std.specs.Ordering.{ordering_then, nat_cmp}
use Rattle.std.specs.Cmp.Lexicographic.{slice_cmp}
use Rattle.ds_label.specs.declared.category.Kind.{Kind}
use Rattle.ds_label.specs.declared.category.Kind.TheVariants.{Secrecy, Integrity}
use Rattle.ds_label.specs.declared.category.Category.{Category}
use Rattle.ds_label.specs.Flow.{Naming}

abbrev pub is_secrecy : Kind → Bool
is_secrecy Secrecy = true
is_secrecy Integrity = false

abbrev pub same_kind : Kind → Kind → Bool
same_kind Secrecy Secrecy = true
same_kind Secrecy Integrity = false
same_kind Integrity Secrecy = false
same_kind Integrity Integrity = true

-- secrecy before integrity
abbrev pub kind_cmp : Kind → Kind → Ordering
kind_cmp Secrecy Secrecy = Equal
kind_cmp Secrecy Integrity = Less
kind_cmp Integrity Secrecy = Greater
kind_cmp Integrity Integrity = Equal

abbrev pub same_category : Category → Category → Bool
same_category a b = bytes_eq a.creator.0 b.creator.0 && (same_kind a.kind b.kind && (a.number == b.number))

-- by the creator's bytes, then by kind, then by number
abbrev pub category_cmp : Category → Category → Ordering
category_cmp a b = ordering_then (slice_cmp nat_cmp a.creator.0 b.creator.0) (ordering_then (kind_cmp a.kind b.kind) (nat_cmp a.number b.number))

abbrev pub by_name : Naming Category
by_name = record { same = same_category; secret = λ c. is_secrecy c.kind; compare = category_cmp }
