use Rattle.ds_model.specs.Desk.{Mapped}
use Rattle.ds_desk.specs.Desks.{kept_of}
use Rattle.ds_desk.proofs.Grows.{grown, passes}
use Rattle.ds_desk.proofs.state.DeskState.map_foreign.Goals as goal

pub returns-in-Ok-clause-kept : goal.returns-in-Ok-clause-kept
returns-in-Ok-clause-kept c =
    let replay = grown (kept_of c.args.self.now) c.args.stamp c.args.who (Mapped c.args.name) c.requires.kept c.requires.later (λ s plan. rw (← c.requires.kept.table) (passes _ _ c.in-Ok.ensures.rule)) in
    rw (c.enter.ensures.items, c.reserve.ensures.same, c.in-Ok.ensures.rows, c.mapped.ensures.here, c.requires.kept.table) (rw c.requires.kept.table at replay)
