-- Whether a certificate's signature is good under the key of its signer.
use Rattle.std.specs.Prelude.{Bool, is_none}
use Rattle.lms_sig.specs.Good.{first_bad}
use Rattle.ds_cert.specs.declared.delegation.Delegation.{Delegation}
use Rattle.ds_cert.specs.declared.address.Address.{Address}
use Rattle.ds_cert.specs.Spelling.{signed_part_of_delegation, signed_part_of_address}

-- nothing is wrong with it
abbrev pub is_good_delegation : Delegation → Bool
is_good_delegation d = is_none (first_bad d.by.0 (signed_part_of_delegation d) d.signature)

-- nothing is wrong with it
abbrev pub is_good_address : Address → Bool
is_good_address a = is_none (first_bad a.exporter.0 (signed_part_of_address a) a.signature)
