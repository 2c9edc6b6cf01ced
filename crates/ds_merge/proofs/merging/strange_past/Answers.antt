use Rattle.ds_merge.proofs.merging.strange_past.Goals as goal

pub returns : goal.returns
returns c = c.pair_or_fault.ensures _ _ c.copy.ensures c.no_event_of.ensures
