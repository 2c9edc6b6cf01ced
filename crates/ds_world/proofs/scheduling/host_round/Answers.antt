use Rattle.std.proofs.Common.{◌∙◌, ap}
use Rattle.ds_model.specs.Lists.{gathered}
use Rattle.ds_plan.specs.declared.doc.Doc.{Doc}
use Rattle.ds_world.specs.Makings.{schedule_of, tries_all}
use Rattle.ds_world.proofs.Tried.{frames_of, host_tried}
use Rattle.ds_world.proofs.Hands.{goes_more}
use Rattle.ds_world.proofs.scheduling.host_round.Goals as goal

pub returns-clause-made : goal.returns-clause-made
returns-clause-made c =
    let d : Doc = c.args.world.now.doc in
    host_tried d c.args.host c.in_ok-procs.procs c.in_ok-lanes.lanes (schedule_of c.args.world.now c.args.making.now) (schedule_of c.steps.new.world c.steps.new.making) (schedule_of c.frames.new.world c.frames.new.making)
    c.in_ok-procs.ensures c.in_ok-lanes.ensures c.in_ok-steps.ensures.made
    (c.in_ok-frames.ensures.made ∙ ap (λ (x : Doc). tries_all x (gathered (frames_of c.args.host) c.in_ok-lanes.lanes) (schedule_of c.steps.new.world c.steps.new.making)) c.steps.ensures.doc)

pub returns-clause-goes : goal.returns-clause-goes
returns-clause-goes c = goes_more c.args.world.now c.steps.new.world c.frames.new.world c.args.making.now c.steps.new.making c.frames.new.making c.steps.ensures.doc c.in_ok-steps.ensures.goes c.in_ok-frames.ensures.goes
