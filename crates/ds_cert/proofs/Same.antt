-- Each certificate is the same as itself.
use Rattle.std.proofs.Common.{◌≡◌, ℕ, true, List, refl}
use Rattle.std.specs.Prelude.{◌==◌, bytes_eq}
use Rattle.std.proofs.lemmas.Bool.{eq-eqb}
use Rattle.std.proofs.lemmas.Slice.Eq.{bytes_eq-Decides}
use Rattle.ds_label.specs.declared.category.Category.{Category}
use Rattle.ds_label.specs.Names.{by_name, same_category}
use Rattle.ds_label.proofs.Members.{same-is}
use Rattle.ds_label.proofs.Namings.{names}
use Rattle.ds_cert.specs.declared.delegation.Delegation.{Delegation}
use Rattle.ds_cert.specs.declared.address.Address.{Address}
use Rattle.ds_cert.specs.NoDoubles.{same_delegation, same_address}

bytes_itself : (bytes : List ℕ) → bytes_eq bytes bytes ≡ true
bytes_itself bytes = (bytes_eq-Decides bytes bytes).1 refl

category_itself : (c : Category) → same_category c c ≡ true
category_itself c = (same-is by_name names c c).1 refl

number_itself : (n : ℕ) → (n == n) ≡ true
number_itself n = eq-eqb n n refl

pub delegation_itself : (d : Delegation) → same_delegation d d ≡ true
delegation_itself d = rw (category_itself d.category, bytes_itself d.to.0, number_itself d.from, number_itself d.until, bytes_itself d.by.0, bytes_itself d.signature) refl

pub address_itself : (a : Address) → same_address a a ≡ true
address_itself a = rw (bytes_itself a.exporter.0, bytes_itself a.address, number_itself a.from, number_itself a.until, bytes_itself a.signature) refl
