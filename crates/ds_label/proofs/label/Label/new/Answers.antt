use Rattle.std.proofs.Common.{arith}
use Rattle.ds_label.specs.Names.{by_name}
use Rattle.ds_label.proofs.Members.{IsRising-nil}
use Rattle.ds_label.proofs.label.Label.new.Goals as goal

pub invariant_of-result : goal.invariant_of-result
invariant_of-result c = rw c.new.ensures.items (IsRising-nil by_name, omega arith)
