use Rattle.std.proofs.Common.{◌≡◌, ◌∙◌}
use Rattle.std.proofs.lemmas.Result.{IfOk-weaker}
use Rattle.ds_sim.specs.Sims.{text_now}
use Rattle.ds_world.specs.Worlds.{world_of}
use Rattle.ds_summary.specs.Counts.{count, world_counts}
use Rattle.ds_summary.specs.Summaries.{summary}
use Rattle.ds_summary.proofs.summarize.summary_of.Goals as goal

pub returns : goal.returns
returns c =
    IfOk-weaker c.written.result
    (λ made. made.items ≡ summary c.args.number c.args.events (count c.as_slice.result.now) c.as_slice-2.result.now)
    (λ made. made.items ≡ summary c.args.number c.args.events (count (world_counts (world_of c.args.world.now))) (text_now c.args.world.now))
    (λ made same. same
    ∙ (λ i. summary c.args.number c.args.events (count (c.as_slice.ensures.value i)) (c.as_slice-2.ensures.value i))
    ∙ (λ i. summary c.args.number c.args.events (c.in_ok-all.ensures i) (c.in_ok-text.ensures i)))
    c.written.ensures
