-- Lists of certificates without doubles.
use Rattle.std.specs.Prelude.{Bool, ◌&&◌, ◌==◌, List, [], ◌∷◌, ◌++◌, bytes_eq, if◌then◌else◌}
use Rattle.std.specs.List.{list_any}
use Rattle.ds_label.specs.Names.{same_category}
use Rattle.ds_cert.specs.declared.delegation.Delegation.{Delegation}
use Rattle.ds_cert.specs.declared.address.Address.{Address}

-- equal in all fields
abbrev pub same_delegation : Delegation → Delegation → Bool
same_delegation a b = same_category a.category b.category && (bytes_eq a.to.0 b.to.0 && ((a.from == b.from) && ((a.until == b.until) && (bytes_eq a.by.0 b.by.0 && bytes_eq a.signature b.signature))))

-- equal in all fields
abbrev pub same_address : Address → Address → Bool
same_address a b = bytes_eq a.exporter.0 b.exporter.0 && (bytes_eq a.address b.address && ((a.from == b.from) && ((a.until == b.until) && bytes_eq a.signature b.signature)))

-- whether a list has the delegation
abbrev pub is_kept : Delegation → List Delegation → Bool
is_kept new kept = list_any (same_delegation new) kept

-- whether a list has the address certificate
abbrev pub is_kept_address : Address → List Address → Bool
is_kept_address new kept = list_any (same_address new) kept

-- the list with the delegation, unless it is there
abbrev pub with_delegation : Delegation → List Delegation → List Delegation
with_delegation new kept = if is_kept new kept then kept else kept ++ new ∷ []

-- the list with the address certificate, unless it is there
abbrev pub with_address : Address → List Address → List Address
with_address new kept = if is_kept_address new kept then kept else kept ++ new ∷ []
