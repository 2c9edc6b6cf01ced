use Rattle.std.proofs.Common.{◌≡◌, ◌∙◌, ◌+◌, List, suc, ap, arith}
use Rattle.ds_plan.specs.declared.doc.Doc.{Doc}
use Rattle.ds_plan.specs.declared.event.Event.{Event}
use Rattle.ds_world.specs.Makings.{goes_rounds, schedule_of}
use Rattle.ds_world.specs.Worlds.{world_of}
use Rattle.ds_world.proofs.Hands.{whole_count, whole_lawful, whole_spelled}
use Rattle.ds_world.proofs.Tried.{is_canonical, is_run}
use Rattle.ds_world.proofs.world.World.canonical.Goals as goal

pub returns-clause-list : goal.returns-clause-list
returns-clause-list c =
    let d : Doc = c.args.self.now.doc in
    let enough : c.from-most.result + 1 ≡ suc c.args.budget = omega (arith, c.from-most.ensures) in
    is_canonical d c.args.budget (world_of c.args.self.now) (world_of c.rounds.new.world) c.rounds.new.making.events c.rounds.new.making.left (c.from-most.result + 1) enough
    (c.in_ok-rounds.ensures.made ∙ ap (λ (events : List Event). goes_rounds d c.args.budget (c.from-most.result + 1) (schedule_of c.args.self.now (record { events = events; left = c.args.budget }))) c.new.ensures)

pub returns-clause-ok : goal.returns-clause-ok
returns-clause-ok c =
    let d : Doc = c.args.self.now.doc in
    let enough : c.from-most.result + 1 ≡ suc c.args.budget = omega (arith, c.from-most.ensures) in
    is_run d c.args.budget (world_of c.args.self.now) (world_of c.rounds.new.world) c.rounds.new.making.events c.rounds.new.making.left (c.from-most.result + 1) enough
    (c.in_ok-rounds.ensures.made ∙ ap (λ (events : List Event). goes_rounds d c.args.budget (c.from-most.result + 1) (schedule_of c.args.self.now (record { events = events; left = c.args.budget }))) c.new.ensures)

pub returns-clause-lawful : goal.returns-clause-lawful
returns-clause-lawful c = whole_lawful c.args.self.now c.rounds.new.world (record { events = c.new.result; left = c.args.budget }) c.rounds.new.making c.new.ensures c.in_ok-rounds.ensures.goes c.hands.ensures

pub returns-clause-count : goal.returns-clause-count
returns-clause-count c = whole_count c.args.self.now c.rounds.new.world (record { events = c.new.result; left = c.args.budget }) c.rounds.new.making c.new.ensures c.in_ok-rounds.ensures.goes

pub returns-clause-spelled : goal.returns-clause-spelled
returns-clause-spelled c = whole_spelled c.args.self.now c.rounds.new.world (record { events = c.new.result; left = c.args.budget }) c.rounds.new.making c.new.ensures c.in_ok-rounds.ensures.goes c.hands.ensures
