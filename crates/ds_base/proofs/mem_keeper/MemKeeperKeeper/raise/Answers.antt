use Rattle.std.proofs.Common.{◌≡◌, sym, ◌∙◌}
use Rattle.ds_base.proofs.mem_keeper.MemKeeperKeeper.raise.Goals as goal

pub returns-then-contains-clause-stands : goal.returns-then-contains-clause-stands
returns-then-contains-clause-stands c = λ kept err. rw (← c.self.view_is) (c.pass.ensures.due.0 (sym c.is_err.ensures.value ∙ c.if-is_err.true))

pub returns-else-contains-clause-stands : goal.returns-else-contains-clause-stands
returns-else-contains-clause-stands c = λ kept err. rw (← c.self.view_is) (c.pass.ensures.due.0 (sym c.is_err.ensures.value ∙ c.if-is_err.true))
