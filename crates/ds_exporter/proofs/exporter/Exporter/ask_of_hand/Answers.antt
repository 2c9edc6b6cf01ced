use Rattle.ds_exporter.specs.HostStates.{state_of}
use Rattle.ds_exporter.specs.Queueing.{LeadsToLane}
use Rattle.ds_exporter.proofs.Places.{there_is}
use Rattle.ds_exporter.proofs.QueueSteps.{leads}
use Rattle.ds_exporter.proofs.exporter.Exporter.ask_of_hand.Goals as goal

pub returns : goal.returns
returns c =
    let e = state_of c.self.inside.parts in
    let within = rw (← c.self.view_is) at c.requires.there in
    rw (← c.self.view_is) (there_is (LeadsToLane c.args.place e c.in_ok-ask.ask) e.procs c.args.place within (λ x h. leads e c.args.place x h c.in_ok-ask.ask (c.in_ok-ask.ensures x h)))
