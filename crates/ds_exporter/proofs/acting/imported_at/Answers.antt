use Rattle.ds_exporter.proofs.Places.{there_now}
use Rattle.ds_exporter.proofs.acting.imported_at.Goals as goal

pub imported-requires-clause-room : goal.imported-requires-clause-room
imported-requires-clause-room c = (c.requires.ready c.index_mut.result.now (there_now c.args.procs.now.items c.args.place c.index_mut.result.now c.requires.place c.index_mut.ensures.value)).room

pub imported-requires-clause-going : goal.imported-requires-clause-going
imported-requires-clause-going c = (c.requires.ready c.index_mut.result.now (there_now c.args.procs.now.items c.args.place c.index_mut.result.now c.requires.place c.index_mut.ensures.value)).going
