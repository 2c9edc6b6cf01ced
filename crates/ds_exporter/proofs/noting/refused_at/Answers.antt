use Rattle.ds_exporter.proofs.Places.{there_now}
use Rattle.ds_exporter.proofs.noting.refused_at.Goals as goal

pub refuse-requires-clause-room : goal.refuse-requires-clause-room
refuse-requires-clause-room c = (c.requires.ready c.index_mut.result.now (there_now c.args.procs.now.items c.args.place c.index_mut.result.now c.requires.place c.index_mut.ensures.value)).room

pub refuse-requires-clause-going : goal.refuse-requires-clause-going
refuse-requires-clause-going c = (c.requires.ready c.index_mut.result.now (there_now c.args.procs.now.items c.args.place c.index_mut.result.now c.requires.place c.index_mut.ensures.value)).going
