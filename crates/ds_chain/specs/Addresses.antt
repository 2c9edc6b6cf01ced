-- Where an exporter is reached.
use Rattle.std.specs.Prelude.{ℕ, Bool, ◌&&◌, nat_le, nat_lt, List, Option, find, bytes_eq}
use Rattle.ds_label.specs.declared.category.PubKey.{PubKey}
use Rattle.ds_cert.specs.declared.address.Address.{Address}
use Rattle.ds_cert.specs.Good.{is_good_address}

-- whether the certificate says where the exporter is reached at the moment: it is that exporter's, is valid then, and is good
abbrev pub tells : ℕ → PubKey → Address → Bool
tells moment exporter a = bytes_eq a.exporter.0 exporter.0 && ((nat_le a.from moment && nat_lt moment a.until) && is_good_address a)

-- the first such certificate
abbrev pub find_address : List Address → ℕ → PubKey → Option Address
find_address certs moment exporter = find (tells moment exporter) certs
