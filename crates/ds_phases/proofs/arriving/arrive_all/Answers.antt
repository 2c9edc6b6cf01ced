use Rattle.std.proofs.Common.{◌+◌, None, refl, arith}
use Rattle.ds_phases.specs.Arrivals.{SomeArrived}
use Rattle.ds_phases.proofs.Giving.{on_error}
use Rattle.ds_phases.proofs.Places.{arrived_all, arrived_more, arrived_some, by_none, may_one}
use Rattle.ds_phases.proofs.arriving.arrive_all.Goals as goal

pub returns-in_err-made-clause-err : goal.returns-in_err-made-clause-err
returns-in_err-made-clause-err g c =
    on_error c.from_residual.result (SomeArrived c.args.feeds.now c.args.tasks.now c.arrive_at.new.tasks)
    (arrived_some c.args.feeds.now c.loop-place.place c.loop-place.made c.args.tasks.now c.loop-place.tasks c.arrive_at.new.tasks c.loop-place.invariant c.in_err-made.ensures.err)

pub returns-in_err-made-clause-may : goal.returns-in_err-made-clause-may
returns-in_err-made-clause-may g c = λ nodes may.
    may_one nodes c.loop-place.place None 0 c.loop-place.tasks c.arrive_at.new.tasks c.in_err-made.ensures.err (c.loop-place.invariant.may nodes may)

pub loop-place-preserved : goal.loop-place-preserved
loop-place-preserved g c =
    arrived_more c.args.feeds.now c.loop-place.place c.loop-place.made c.in_ok-made.field-0 (c.loop-place.made + c.in_ok-made.field-0) _ c.args.tasks.now c.loop-place.tasks c.arrive_at.new.tasks
    c.loop-place.invariant (by_none c.args.feeds.now c.loop-place.place _ (omega (arith, c.loop-place-test.true, c.requires.feeds))) c.in_ok-made.ensures.ok refl

pub returns-clause-ok : goal.returns-clause-ok
returns-clause-ok g c =
    arrived_all c.args.feeds.now c.loop-place.place c.loop-place.made c.args.tasks.now c.loop-place.tasks c.loop-place.invariant
    (omega (arith, c.loop-place-test.false)) (omega (arith, c.loop-place.auto.place-end))
