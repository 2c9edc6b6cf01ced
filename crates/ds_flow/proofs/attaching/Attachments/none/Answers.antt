use Rattle.std.proofs.Common.{sym, subst}
use Rattle.ds_flow.specs.Carried.{MayCarry}
use Rattle.ds_flow.proofs.Carries.{carries_none}
use Rattle.ds_flow.proofs.attaching.Attachments.none.Goals as goal

pub invariant_of-result : goal.invariant_of-result
invariant_of-result c = subst MayCarry (sym c.new.ensures) carries_none
