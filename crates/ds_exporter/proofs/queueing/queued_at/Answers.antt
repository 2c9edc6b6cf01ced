use Rattle.ds_exporter.proofs.Places.{there_now}
use Rattle.ds_exporter.proofs.queueing.queued_at.Goals as goal

pub sent-requires-clause-room : goal.sent-requires-clause-room
sent-requires-clause-room c = (c.requires.ready c.index_mut.result.now (there_now c.args.procs.now.items c.args.place c.index_mut.result.now c.requires.place c.index_mut.ensures.value)).room

pub sent-requires-clause-going : goal.sent-requires-clause-going
sent-requires-clause-going c = (c.requires.ready c.index_mut.result.now (there_now c.args.procs.now.items c.args.place c.index_mut.result.now c.requires.place c.index_mut.ensures.value)).going
