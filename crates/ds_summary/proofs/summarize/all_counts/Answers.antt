use Rattle.std.proofs.Common.{◌≡◌}
use Rattle.std.proofs.lemmas.Result.{IfOk-weaker}
use Rattle.ds_world.specs.Worlds.{world_of}
use Rattle.ds_summary.specs.Counts.{count, world_counts}
use Rattle.ds_summary.specs.Parts.{world_part}
use Rattle.ds_summary.proofs.Whole.{counts_are}
use Rattle.ds_summary.proofs.summarize.all_counts.Goals as goal

pub returns : goal.returns
returns c =
    IfOk-weaker c.all_parts.result (λ all. all.items ≡ world_part c.args.world.now) (λ all. count all.items ≡ count (world_counts (world_of c.args.world.now)))
    (λ all same. counts_are c.args.world.now all.items same) c.all_parts.ensures
