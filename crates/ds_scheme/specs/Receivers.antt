-- The receiver of a lane.
use Rattle.std.specs.Prelude.{◌≡◌, ℕ, true, Some, length}
use Rattle.lms_sig.specs.Merkle.{public_key}
use Rattle.ds_cert.specs.Ranges.{LaneCertFits}
use Rattle.ds_model.specs.Plan.{HostPlan, LanePlan}
use Rattle.ds_model.specs.ConnectionStep.{inlet_of}
use Rattle.ds_desk.specs.Signing.{key_of}
use Rattle.ds_scheme.specs.TheScheme.{scheme}

-- The host is the lane's receiver: the lane's certificate is good and names it, it has an inlet for the lane, and the
-- certificate names the public key of the key that signs the lane's frames, whose identifier has 16 bytes.
pub record IsReceiver (here : HostPlan) (lane : LanePlan) : Type 0 where
  pub fits : LaneCertFits lane.cert
  pub good : scheme.good_lane lane.cert ≡ true
  pub named : lane.cert.receiver ≡ here.key
  pub inlet : ℕ
  pub declared : inlet_of here lane.cert ≡ Some inlet
  pub signs : lane.cert.key.0 ≡ public_key (key_of lane.signing).params lane.signing.seed lane.signing.identifier
  pub identifier : length lane.signing.identifier ≡ 16
