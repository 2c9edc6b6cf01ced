-- The certificates that a message may carry.
use Rattle.std.specs.Prelude.{ℕ, List}
use Rattle.std.specs.List.{AllByRecursion}
use Rattle.ds_wire.specs.Fields.{IsBytes}
use Rattle.ds_msg.specs.Ranges.{CertsFit}

-- at most 16 spelled delegations in range, none twice, each a list of bytes
pub record MayCarry (certs : List (List ℕ)) : Type 0 where
  pub fits : CertsFit certs
  pub bytes : AllByRecursion IsBytes certs
