use Rattle.std.proofs.Common.{◌≡◌, map, refl, ap, ◌∙◌}
use Rattle.std.proofs.lemmas.Result.{IfOk-weaker}
use Rattle.ds_lane.specs.Lanes.{stamp_of}
use Rattle.ds_share.specs.Entries.{AreRising, SpellsLane, lane_spelled}
use Rattle.ds_share.proofs.Entries.{are_rising}
use Rattle.ds_share.proofs.lane.lane_entries.Goals as goal

pub returns-clause-spelled : goal.returns-clause-spelled
returns-clause-spelled c =
    let b = c.args.state.now.lane in
    IfOk-weaker c.spelled.result (λ v. v.items ≡ map lane_spelled c.history.result.now) (λ v. SpellsLane v.items)
    (λ v is. record { lane = b; replay = c.is_replay.ensures; spelled = is ∙ ap (map lane_spelled) c.history.ensures }) c.spelled.ensures

pub returns-clause-rising : goal.returns-clause-rising
returns-clause-rising c =
    let b = c.args.state.now.lane in
    IfOk-weaker c.spelled.result (λ v. v.items ≡ map lane_spelled c.history.result.now) (λ v. AreRising v.items)
    (λ v is. are_rising lane_spelled stamp_of (λ e. refl) b.before b.history v.items c.is_replay.ensures.rises (is ∙ ap (map lane_spelled) c.history.ensures)) c.spelled.ensures
