use Rattle.std.proofs.Common.{subst}
use Rattle.std.specs.Prelude.{unwrap_or}
use Rattle.ds_merge.specs.Walk.{no_entry, IsPair}
use Rattle.ds_merge.proofs.merging.strange_at.Goals as goal

pub returns-in-None : goal.returns-in-None
returns-in-None c =
    subst (λ o. IsPair (unwrap_or o no_entry) c.args.event.now c.pair_or_fault.result) c.in-None.ensures
    (c.pair_or_fault.ensures no_entry c.args.event.now c.no_entry_of.ensures c.copy.ensures)
