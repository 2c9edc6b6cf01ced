use Rattle.ds_model.specs.Desk.{Delegating}
use Rattle.ds_desk.specs.Desks.{entered, kept_of}
use Rattle.ds_desk.specs.Replies.{entry_for}
use Rattle.ds_share.proofs.Judgements.{some_plan, some_scheme}
use Rattle.ds_share.proofs.Tellings.{delegation_enters, delegation_stays, tells_delegation}
use Rattle.ds_share.proofs.desk_acts.delegate.Goals as goal

pub returns-clause-told : goal.returns-clause-told
returns-clause-told g c =
    λ s plan. rw c.tell_delegation.ensures (tells_delegation s plan (kept_of c.args.desk.now) c.args.category c.args.to c.args.from c.args.until c.delegate-answer.result (c.delegate-answer.ensures.answer s plan))

pub returns-clause-state : goal.returns-clause-state
returns-clause-state g c =
    let old = kept_of c.args.desk.now in
    λ s plan. rw c.tell_delegation.ensures (delegation_enters c.delegate-answer.result old (entered c.args.stamp c.args.who (entry_for s plan old (Delegating c.args.category c.args.to c.args.from c.args.until)) old) (kept_of c.delegate-answer.new.self) (c.delegate-answer.ensures.entry s plan))

pub returns-clause-err : goal.returns-clause-err
returns-clause-err g c =
    let old = kept_of c.args.desk.now in
    rw c.tell_delegation.ensures (delegation_stays c.delegate-answer.result old
    (entered c.args.stamp c.args.who (entry_for some_scheme some_plan old (Delegating c.args.category c.args.to c.args.from c.args.until)) old) (kept_of c.delegate-answer.new.self)
    (c.delegate-answer.ensures.entry some_scheme some_plan))
