use Rattle.std.proofs.Common.{◌∙◌, ap}
use Rattle.ds_plan.specs.declared.doc.Doc.{Doc}
use Rattle.ds_world.specs.Makings.{connects_all, schedule_of}
use Rattle.ds_world.proofs.Tried.{round_tried}
use Rattle.ds_world.proofs.Hands.{goes_more}
use Rattle.ds_world.proofs.scheduling.round.Goals as goal

pub returns-clause-made : goal.returns-clause-made
returns-clause-made c =
    let d : Doc = c.args.world.now.doc in
    round_tried d c.args.budget c.in_ok-hosts.hosts c.in_ok-conns.conns (schedule_of c.args.world.now c.args.making.now) (schedule_of c.hosts_round.new.world c.hosts_round.new.making) (schedule_of c.all_connect.new.world c.all_connect.new.making)
    c.in_ok-hosts.ensures c.in_ok-conns.ensures c.in_ok-hosts_round.ensures.made
    (c.in_ok-all_connect.ensures.made ∙ ap (λ (x : Doc). connects_all x c.args.budget c.in_ok-conns.conns (schedule_of c.hosts_round.new.world c.hosts_round.new.making)) c.hosts_round.ensures.doc)

pub returns-clause-goes : goal.returns-clause-goes
returns-clause-goes c = goes_more c.args.world.now c.hosts_round.new.world c.all_connect.new.world c.args.making.now c.hosts_round.new.making c.all_connect.new.making c.hosts_round.ensures.doc c.in_ok-hosts_round.ensures.goes c.in_ok-all_connect.ensures.goes
