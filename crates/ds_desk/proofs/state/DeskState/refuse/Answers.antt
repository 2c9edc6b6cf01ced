use Rattle.ds_model.specs.Desk.{Denied}
use Rattle.ds_desk.specs.Desks.{kept_of}
use Rattle.ds_desk.proofs.Grows.{grown}
use Rattle.ds_desk.proofs.state.DeskState.refuse.Goals as goal

pub returns-clause-kept : goal.returns-clause-kept
returns-clause-kept c =
    rw c.enter.ensures.items (grown (kept_of c.args.self.now) c.args.stamp c.args.who (Denied c.args.rule) c.requires.kept c.requires.later c.requires.may)
