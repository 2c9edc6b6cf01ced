use Rattle.std.proofs.Common.{◌≡◌, ℕ, List, [], ◌∷◌, refl, arith}
use Rattle.std.specs.List.{IsDistinct}
use Rattle.ds_msg.specs.Ranges.{CertsFit, PayloadFits}
use Rattle.ds_rows.proofs.rows_lane.message.Goals as goal

no_certs : (certs : List (List ℕ)) → certs ≡ [] → CertsFit certs
unfolding IsDistinct
no_certs certs is = rw is (record { count = omega arith; each = tt; once = tt })

one_byte : (n : ℕ) (payload : List ℕ) → payload ≡ n ∷ [] → PayloadFits payload
one_byte n payload is = rw is (omega arith)

pub returns : goal.returns
returns c = record {
  to = refl;
  label = c.in_ok-copy.ensures;
  range = record { certs = no_certs c.new-3.result c.new-3.ensures; payload = one_byte c.args.says c.in_ok-from_slice.field-0 c.in_ok-from_slice.ensures };
}
