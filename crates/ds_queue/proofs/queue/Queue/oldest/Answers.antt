use Rattle.ds_queue.proofs.Fronts.{front_seen}
use Rattle.ds_queue.proofs.queue.Queue.oldest.Goals as goal

pub returns : goal.returns
returns g c = front_seen c.get.result c.args.self.now.items c.get.ensures
