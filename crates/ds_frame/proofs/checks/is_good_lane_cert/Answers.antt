use Rattle.ds_cert.specs.Spelling.{signed_part_of_lane_cert}
use Rattle.ds_frame.proofs.Goods.{is_test}
use Rattle.ds_frame.proofs.checks.is_good_lane_cert.Goals as goal

pub returns : goal.returns
returns c =
    let lane = c.args.lane.now in
    is_test c.in_ok-good.good lane.exporter.0 (signed_part_of_lane_cert lane) lane.signature c.in_ok-good.ensures
