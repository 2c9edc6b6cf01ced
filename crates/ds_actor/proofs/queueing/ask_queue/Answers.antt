use Rattle.std.proofs.Common.{Some, sym, ap, ◌∙◌}
use Rattle.ds_model.specs.ProcessStep.{queue_at}
use Rattle.ds_actor.proofs.Sites.{same_lane}
use Rattle.ds_actor.proofs.queueing.ask_queue.Goals as goal

pub returns-in_default-clause-asked : goal.returns-in_default-clause-asked
returns-in_default-clause-asked g c = λ here rows plan x y.
    ap (queue_at x c.args.message.now) (same_lane (g.S.Site.seen c.args.site.now) rows plan c.args.message.now.to c.args.message.now.label ∙ (sym c.lane_to.ensures.place ∙ c.in_default.is))

pub returns-clause-asked : goal.returns-clause-asked
returns-clause-asked g c = λ here rows plan x y.
    ap (queue_at x c.args.message.now) (same_lane (g.S.Site.seen c.args.site.now) rows plan c.args.message.now.to c.args.message.now.label ∙ (sym c.lane_to.ensures.place ∙ c.in-Some.is))
    ∙ ap (λ m. queue_at x m (Some c.in-Some.place)) (sym c.in_ok-queued.ensures)
