use Rattle.std.proofs.Common.{◌<◌, length, refl, sym, ◌∙◌, arith}
use Rattle.ds_merge.specs.Tables.{seen, events_of}
use Rattle.ds_merge.proofs.Walks.{event_is, count_is, taken_small, goes_none, run_more, goes_more, stands_more, stops}
use Rattle.ds_merge.proofs.walking.walk.Goals as goal

pub loop-at-init : goal.loop-at-init
loop-at-init g c = (refl, goes_none g.M.Machine.after g.M.Machine.moves g.M.Machine.entry g.M.Machine.answer c.args.machine.now c.args.histories.now (events_of c.args.records.now c.args.places.now), c.requires.fresh)

pub returns-then-not-branch : goal.returns-then-not-branch
returns-then-not-branch g c =
    let inv = c.loop-at.invariant in
    let es = events_of c.args.records.now c.args.places.now in
    let below : c.loop-at.at < length es = omega (arith, c.loop-at-test.true, count_is c.args.records.now c.args.places.now) in
    let is = event_is c.args.records.now c.args.places.now c.loop-at.at _ c.loop-at-test.true ∙ sym c.event_at-event.ensures in
    let stuck = rw c.if-not-branch.true at c.in_ok-goes_past.ensures in (
      stops g.M.Machine.after g.M.Machine.moves g.M.Machine.entry g.M.Machine.answer c.args.machine.now c.loop-at.machine c.args.histories.now es c.loop-at.at
          c.event_at-event.result.now (seen c.loop-at.tables) below is inv.0 inv.2 inv.1 stuck,
      inv.2,
    )

pub take-requires : goal.take-requires
take-requires g c = λ name.
    omega (arith, taken_small (events_of c.args.records.now c.args.places.now) c.loop-at.at (seen c.loop-at.tables) name c.loop-at.invariant.2, c.loop-at-test.true, c.loop-at.auto.at-end)

pub loop-at-preserved : goal.loop-at-preserved
loop-at-preserved g c =
    let inv = c.loop-at.invariant in
    let es = events_of c.args.records.now c.args.places.now in
    let below : c.loop-at.at < length es = omega (arith, c.loop-at-test.true, count_is c.args.records.now c.args.places.now) in
    let is = event_is c.args.records.now c.args.places.now c.loop-at.at _ c.loop-at-test.true ∙ sym c.event_at-event.ensures in
    let passes = rw c.if-not-branch.false at c.in_ok-goes_past.ensures in (
      run_more g.M.Machine.after g.M.Machine.moves g.M.Machine.entry g.M.Machine.answer c.args.machine.now c.loop-at.machine c.goes_past.new.machine es c.loop-at.at
          c.event_at-event.result.now below is inv.0 passes.1,
      goes_more g.M.Machine.after g.M.Machine.moves g.M.Machine.entry g.M.Machine.answer c.args.machine.now c.loop-at.machine c.args.histories.now es c.loop-at.at
          c.event_at-event.result.now (seen c.loop-at.tables) is inv.0 inv.2 inv.1 passes.0,
      stands_more g.M.Machine.after g.M.Machine.moves g.M.Machine.entry g.M.Machine.answer es c.loop-at.at c.event_at-event.result.now (seen c.loop-at.tables) (seen c.take.new.self) below is inv.2 c.in_ok-take.ensures,
    )
