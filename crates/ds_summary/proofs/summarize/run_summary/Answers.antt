use Rattle.std.proofs.Common.{◌≡◌, ◌∙◌, ℕ, ap}
use Rattle.std.proofs.lemmas.Result.{IfOk-weaker}
use Rattle.ds_sim.specs.Sims.{text_now}
use Rattle.ds_world.specs.Worlds.{world_of}
use Rattle.ds_summary.specs.Counts.{count, world_counts}
use Rattle.ds_summary.specs.Summaries.{summary}
use Rattle.ds_summary.specs.Runs.{IsSummaryOf}
use Rattle.ds_summary.proofs.Written.{is_summary}
use Rattle.ds_summary.proofs.summarize.run_summary.Goals as goal

pub returns : goal.returns
returns c =
    IfOk-weaker c.summary_of.result
    (λ made. made.items ≡ summary c.args.number c.len.result (count (world_counts (world_of c.canonical.new.self))) (text_now c.canonical.new.self))
    (λ made. IsSummaryOf c.args.number c.args.doc made.items)
    (λ made same. is_summary c.args.number c.args.doc c.in_ok-world.world c.canonical.new.self c.in_ok-events.events made.items
    c.requires.document c.requires.events c.in_ok-world.ensures.doc c.in_ok-world.ensures.start
    c.in_ok-events.ensures.list c.in_ok-events.ensures.ok c.in_ok-events.ensures.lawful c.in_ok-events.ensures.doc
    (same ∙ ap (λ (n : ℕ). summary c.args.number n (count (world_counts (world_of c.canonical.new.self))) (text_now c.canonical.new.self)) c.len.ensures))
    c.summary_of.ensures
