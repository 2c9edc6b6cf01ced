use Rattle.std.proofs.Common.{◌≡◌, map, refl, ap, ◌∙◌}
use Rattle.std.proofs.lemmas.Result.{IfOk-weaker}
use Rattle.ds_box.specs.Boxes.{stamp_of}
use Rattle.ds_share.specs.Entries.{AreRising, SpellsBox, box_spelled}
use Rattle.ds_share.proofs.Entries.{are_rising}
use Rattle.ds_share.proofs.mailbox.box_entries.Goals as goal

pub returns-clause-spelled : goal.returns-clause-spelled
returns-clause-spelled c =
    let b = c.args.state.now.mailbox in
    IfOk-weaker c.spelled.result (λ v. v.items ≡ map box_spelled c.history.result.now) (λ v. SpellsBox v.items)
    (λ v is. record { mailbox = b; replay = c.is_replay.ensures; spelled = is ∙ ap (map box_spelled) c.history.ensures }) c.spelled.ensures

pub returns-clause-rising : goal.returns-clause-rising
returns-clause-rising c =
    let b = c.args.state.now.mailbox in
    IfOk-weaker c.spelled.result (λ v. v.items ≡ map box_spelled c.history.result.now) (λ v. AreRising v.items)
    (λ v is. are_rising box_spelled stamp_of (λ e. refl) b.before b.history v.items c.is_replay.ensures.rises (is ∙ ap (map box_spelled) c.history.ensures)) c.spelled.ensures
