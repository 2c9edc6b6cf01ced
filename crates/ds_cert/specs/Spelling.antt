-- The one spelling of each value, as a list of bytes. Numbers are big-endian.
use Rattle.std.specs.Prelude.{ℕ, List, ◌++◌, length}
use Rattle.std.specs.List.{flat_map}
use Rattle.std.specs.Int.{w8, w16, w32, w64, to_be_bytes}
use Rattle.ds_label.specs.declared.category.Kind.{Kind}
use Rattle.ds_label.specs.declared.category.Kind.TheVariants.{Secrecy, Integrity}
use Rattle.ds_label.specs.declared.category.Category.{Category}
use Rattle.ds_cert.specs.declared.delegation.Delegation.{Delegation}
use Rattle.ds_cert.specs.declared.address.Address.{Address}
use Rattle.ds_cert.specs.declared.lane.LaneCert.{LaneCert}
use Rattle.ds_cert.specs.declared.cert.Cert.{Cert}
use Rattle.ds_cert.specs.declared.cert.Cert.TheVariants as certs

abbrev pub kind_number : Kind → ℕ
kind_number Secrecy = 0
kind_number Integrity = 1

-- 65 bytes: the creator's key, the kind, the number
unfoldable pub spelling_of_category : Category → List ℕ
spelling_of_category c = c.creator.0 ++ (to_be_bytes w8 (kind_number c.kind) ++ to_be_bytes w64 c.number)

-- a count and that many categories
unfoldable pub spelling_of_label : List Category → List ℕ
spelling_of_label members = to_be_bytes w8 (length members) ++ flat_map spelling_of_category members

-- a count and that many bytes
unfoldable pub spelling_of_address_text : List ℕ → List ℕ
spelling_of_address_text text = to_be_bytes w8 (length text) ++ text

unfoldable pub spelling_of_signature : List ℕ → List ℕ
spelling_of_signature signature = to_be_bytes w16 (length signature) ++ signature

-- what the signature is over: all that stands before the signature's count
unfoldable pub signed_part_of_delegation : Delegation → List ℕ
signed_part_of_delegation d =
    to_be_bytes w8 1
    ++ (spelling_of_category d.category
    ++ (d.to.0
    ++ (to_be_bytes w64 d.from
    ++ (to_be_bytes w64 d.until
    ++ d.by.0))))

unfoldable pub spelling_of_delegation : Delegation → List ℕ
spelling_of_delegation d = signed_part_of_delegation d ++ spelling_of_signature d.signature

unfoldable pub signed_part_of_address : Address → List ℕ
signed_part_of_address a =
    to_be_bytes w8 2
    ++ (a.exporter.0
    ++ (spelling_of_address_text a.address
    ++ (to_be_bytes w64 a.from
    ++ to_be_bytes w64 a.until)))

unfoldable pub spelling_of_address : Address → List ℕ
spelling_of_address a = signed_part_of_address a ++ spelling_of_signature a.signature

unfoldable pub signed_part_of_lane_cert : LaneCert → List ℕ
signed_part_of_lane_cert l =
    to_be_bytes w8 3
    ++ (l.exporter.0
    ++ (to_be_bytes w32 l.lane
    ++ (l.receiver.0
    ++ (spelling_of_label l.label
    ++ (l.key.0
    ++ (to_be_bytes w64 l.from
    ++ to_be_bytes w64 l.until))))))

unfoldable pub spelling_of_lane_cert : LaneCert → List ℕ
spelling_of_lane_cert l = signed_part_of_lane_cert l ++ spelling_of_signature l.signature

abbrev pub spelling_of_cert : Cert → List ℕ
spelling_of_cert (certs.Delegation d) = spelling_of_delegation d
spelling_of_cert (certs.Address a) = spelling_of_address a
