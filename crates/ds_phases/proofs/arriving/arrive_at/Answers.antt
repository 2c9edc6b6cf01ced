use Rattle.std.proofs.Common.{None, slice_set}
use Rattle.ds_phases.specs.Arrivals.{ArrivedOne}
use Rattle.ds_phases.proofs.Giving.{kept_there, none_came, on_error, one_came}
use Rattle.ds_phases.proofs.arriving.arrive_at.Goals as goal

pub returns-clause-ok : goal.returns-clause-ok
returns-clause-ok g c =
    one_came c.args.place _ c.in_ok-made.made c.args.tasks.now c.index-tasks-place.result c.index-tasks-place-2.result c.give.new.task c.arrived_at-arrived.result c.in_ok-piece.piece.items c.as_slice.result.now c.stamp_of-least.result
    c.requires.within c.index-tasks-place.is c.index-tasks-place-2.is c.arrived_at-arrived.ensures c.in_ok-piece.ensures c.as_slice.ensures.value c.stamp_of-least.ensures
    c.in_ok-made.ensures.given c.in_ok-made.ensures.events c.in_ok-made.ensures.one c.in_ok-made.ensures.still

pub returns-in_err-piece-clause-err : goal.returns-in_err-piece-clause-err
returns-in_err-piece-clause-err g c =
    on_error c.from_residual.result (ArrivedOne c.args.place None 0 c.args.tasks.now c.args.tasks.now)
    (none_came c.args.place c.args.tasks.now c.index-tasks-place.result c.requires.within)

pub returns-in_err-made-clause-err : goal.returns-in_err-made-clause-err
returns-in_err-made-clause-err g c =
    on_error c.from_residual-in_err-made.result (ArrivedOne c.args.place None 0 c.args.tasks.now (slice_set c.args.tasks.now c.args.place c.give.new.task))
    (kept_there c.args.place c.args.tasks.now c.index-tasks-place-2.result c.give.new.task c.requires.within c.in_err-made.ensures.err)
