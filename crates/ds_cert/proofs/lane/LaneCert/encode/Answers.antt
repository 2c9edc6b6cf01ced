use Rattle.std.proofs.Common.{rules, append_assoc}
use Rattle.ds_cert.specs.Spelling.{spelling_of_lane_cert}
use Rattle.ds_cert.proofs.lane.LaneCert.encode.Goals as goal

pub returns : goal.returns
unfolding spelling_of_lane_cert
returns c = search (rules, append_assoc)
