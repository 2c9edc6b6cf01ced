use Rattle.std.proofs.Common.{refl, subst}
use Rattle.ds_actor.specs.declared.ask.ProcessAsk.{ProcessAsk}
use Rattle.ds_exporter.specs.Queueing.{LeadsToLane}
use Rattle.ds_exporter.proofs.OneStep.{waits_still}
use Rattle.ds_exporter.proofs.exporter.Exporter.queue.Goals as goal

pub returns-in-Waits-clause-ok : goal.returns-in-Waits-clause-ok
returns-in-Waits-clause-ok c =
    let asks = subst (λ (a : ProcessAsk). LeadsToLane c.args.index c.args.self.now a) c.in-Waits.is c.in_ok-ask_of_hand.ensures in
    let still = waits_still c.args.self.now c.args.index c.requires.there (λ x h. asks x h) in
    (refl, still.0, still.1)
