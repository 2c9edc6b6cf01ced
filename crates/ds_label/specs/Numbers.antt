-- Categories as a host numbers them for itself: odd numbers are for integrity, even ones for secrecy.
use Rattle.std.specs.Prelude.{ℕ, ◌%◌, ◌==◌, nat_eq}
use Rattle.std.specs.Ordering.{nat_cmp}
use Rattle.ds_label.specs.Flow.{Naming}

abbrev pub by_number : Naming ℕ
by_number = record { same = nat_eq; secret = λ n. n % 2 == 0; compare = nat_cmp }
