use Rattle.std.proofs.Common.{◌≡◌, ◌++◌, ◌∷◌, [], Some, sym, ap, ◌∙◌}
use Rattle.std.specs.Prelude.{slice_get, option_copied}
use Rattle.ds_queue.proofs.Copies.{one_copied}
use Rattle.ds_lane.proofs.copying.copies_of.Goals as goal

pub loop-place-preserved : goal.loop-place-preserved
loop-place-preserved c =
    let xs = c.args.waiting.now.items in
    let here : slice_get xs c.loop-place.place ≡ Some c.in-Some.message.now = sym c.get.ensures ∙ ap option_copied c.in-Some.is in
    let pushed : c.push.new.self.items ≡ c.loop-place.copied.items ++ c.in_ok-copy.field-0 ∷ [] = c.in_ok-push.ensures.items in
    rw (pushed, c.in_ok-copy.ensures, c.loop-place.invariant) (sym (one_copied xs c.loop-place.place c.in-Some.message.now here))
