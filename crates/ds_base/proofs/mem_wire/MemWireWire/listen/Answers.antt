use Rattle.ds_base.proofs.mem_wire.MemWireWire.listen.Goals as goal

pub returns-clause-due : goal.returns-clause-due
returns-clause-due g c = rw (← c.self.view_is) c.pass.ensures.due
