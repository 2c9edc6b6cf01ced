use Rattle.std.proofs.Common.{rules, inl}
use Rattle.ds_base.proofs.mem_wire.MemWireWire.connect.Goals as goal

pub returns-in_err-pass-clause-due : goal.returns-in_err-pass-clause-due
returns-in_err-pass-clause-due g c = let due = c.in_err-pass.ensures.due.0 (search rules) in rw (← c.self.view_is) (λ _. inl due, λ _. search rules)
