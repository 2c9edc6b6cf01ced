-- The one spelling of a message, as a list of bytes. Numbers are big-endian.
use Rattle.std.specs.Prelude.{ℕ, List, ◌++◌, length}
use Rattle.std.specs.List.{flat_map}
use Rattle.std.specs.Int.{w8, w16, w32, to_be_bytes}
use Rattle.ds_cert.specs.Spelling.{spelling_of_label}
use Rattle.ds_msg.specs.declared.message.Message.{Message}

-- a count and that many bytes
unfoldable pub spelling_of_cert_bytes : List ℕ → List ℕ
spelling_of_cert_bytes bytes = to_be_bytes w16 (length bytes) ++ bytes

-- a count and that many certificates
unfoldable pub spelling_of_certs : List (List ℕ) → List ℕ
spelling_of_certs certs = to_be_bytes w8 (length certs) ++ flat_map spelling_of_cert_bytes certs

-- a count and that many bytes
unfoldable pub spelling_of_payload : List ℕ → List ℕ
spelling_of_payload payload = to_be_bytes w32 (length payload) ++ payload

unfoldable pub spelling_of_message : Message → List ℕ
spelling_of_message m =
    to_be_bytes w8 6
    ++ (m.to.0
    ++ (to_be_bytes w32 m.slot
    ++ (spelling_of_label m.label
    ++ (spelling_of_label m.own
    ++ (spelling_of_label m.clear
    ++ (spelling_of_certs m.certs
    ++ spelling_of_payload m.payload))))))
