use Rattle.std.proofs.Common.{◌≡◌, Some, sym, ap, ◌∙◌}
use Rattle.std.specs.Prelude.{slice_get, option_copied}
use Rattle.ds_share.specs.Spelling.{spelling_of_waiting}
use Rattle.ds_share.proofs.Pieces.{one_spelled}
use Rattle.ds_share.proofs.lane.front_bytes.Goals as goal

pub loop-place-preserved : goal.loop-place-preserved
loop-place-preserved c =
    let xs = c.args.state.now.lane.waiting in
    let here : slice_get xs c.loop-place.place ≡ Some c.in-Some.waiting.now = sym c.waiting.ensures ∙ ap option_copied c.in-Some.is in
    c.in_ok-append_waiting.ensures ∙ (rw c.loop-place.invariant (sym (one_spelled spelling_of_waiting xs c.loop-place.place c.in-Some.waiting.now here)))
