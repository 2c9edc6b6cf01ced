use Rattle.std.proofs.Common.{refl}
use Rattle.ds_model.specs.Desk.{Ticked}
use Rattle.ds_desk.specs.Desks.{kept_of}
use Rattle.ds_desk.proofs.Grows.{grown}
use Rattle.ds_desk.proofs.state.DeskState.tick.Goals as goal

pub returns-clause-kept : goal.returns-clause-kept
returns-clause-kept c =
    rw (c.max-self.ensures, c.enter.ensures.items, c.reserve.ensures.same) (grown (kept_of c.args.self.now) c.args.stamp c.args.who (Ticked c.args.to) c.requires.kept c.requires.later (λ s plan. refl))
