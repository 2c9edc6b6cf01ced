use Rattle.std.proofs.Common.{◌-◌, length, ap, slice_index_or}
use Rattle.ds_merge.proofs.Lookups.{finds_step}
use Rattle.ds_merge.proofs.index.HistoryIndex.new.Goals as goal

pub loop-behind-preserved : goal.loop-behind-preserved
loop-behind-preserved c =
    let hs = c.args.histories.now in
    let place = length hs - 1 - c.loop-behind.behind in
    finds_step c.loop-behind.places c.insert.new.self hs c.loop-behind.behind (slice_index_or hs place c.index-histories-place.result) c.loop-behind-test.true
    (ap (λ d. slice_index_or hs place d) c.index-histories-place.is) c.in_ok-insert.ensures.updates.0 c.loop-behind.invariant
