use Rattle.std.proofs.Common.{arith}
use Rattle.ds_cert.specs.Ranges.{LaneCertFits, LaneCertRange}
use Rattle.ds_cert.specs.Reading.{lane_cert_at, read_lane_cert}
use Rattle.ds_cert.specs.Spelling.{spelling_of_lane_cert}
use Rattle.ds_cert.proofs.RecordLaws.{is_lane_cert}
use Rattle.ds_cert.proofs.Wholes.{found_whole, only_whole}
use Rattle.ds_cert.proofs.lane.LaneCert.decode.Goals as goal

pub returns-clause-found : goal.returns-clause-found
unfolding read_lane_cert
returns-clause-found c = found_whole LaneCertFits spelling_of_lane_cert lane_cert_at is_lane_cert LaneCertRange (λ x fits. fits.range) c.args.input.now c.read.result (λ i. omega (arith, c.type_inv.input i)) c.read.ensures

pub returns-clause-only : goal.returns-clause-only
unfolding read_lane_cert
returns-clause-only c = λ x fits e. only_whole LaneCertFits spelling_of_lane_cert lane_cert_at is_lane_cert c.args.input.now c.read.result x c.read.ensures fits e
