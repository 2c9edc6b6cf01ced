use Rattle.ds_exporter.proofs.Places.{there_now}
use Rattle.ds_exporter.proofs.acting.delegated_at.Goals as goal

pub delegated-requires-clause-room : goal.delegated-requires-clause-room
delegated-requires-clause-room c = (c.requires.ready c.index_mut.result.now (there_now c.args.procs.now.items c.args.place c.index_mut.result.now c.requires.place c.index_mut.ensures.value)).room

pub delegated-requires-clause-going : goal.delegated-requires-clause-going
delegated-requires-clause-going c = (c.requires.ready c.index_mut.result.now (there_now c.args.procs.now.items c.args.place c.index_mut.result.now c.requires.place c.index_mut.ensures.value)).going
