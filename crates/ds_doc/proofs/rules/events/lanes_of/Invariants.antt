use Rattle.std.proofs.Common.{◌≡◌, ◌≤◌, ◌+◌, ◌-◌, ◌^◌, min, sum, drop}
use Rattle.ds_doc.proofs.rules.events.lanes_of.Given as goal

abbrev pub invariant-loop-more : goal.invariant-loop-more
invariant-loop-more l = record {
  total : min (l.count + sum (drop l.more-index l.lanes)) (2 ^ 64 - 1) ≡ min (sum l.lanes) (2 ^ 64 - 1);
  most : l.count ≤ 2 ^ 64 - 1;
}
