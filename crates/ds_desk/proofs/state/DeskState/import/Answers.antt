use Rattle.ds_desk.proofs.state.DeskState.import.Goals as goal

pub returns-in-Ok-Delegation-clause-entry : goal.returns-in-Ok-Delegation-clause-entry
returns-in-Ok-Delegation-clause-entry c = λ s plan. rw (c.in-Ok-Delegation.ensures.exact, c.in-Ok-Delegation.field-0-is) (c.take_delegation.ensures.entry s)

pub returns-in-Ok-Address-clause-entry : goal.returns-in-Ok-Address-clause-entry
returns-in-Ok-Address-clause-entry c = λ s plan. rw (c.in-Ok-Address.ensures.exact, c.in-Ok-Address.field-0-is) (c.take_address.ensures.entry s)
