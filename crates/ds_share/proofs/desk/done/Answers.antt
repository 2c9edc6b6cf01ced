use Rattle.ds_share.proofs.desk.done.Goals as goal

pub returns-in-Delegate-clause-told : goal.returns-in-Delegate-clause-told
returns-in-Delegate-clause-told g c = λ s plan. rw c.in-Delegate.is (c.delegate.ensures.told s plan)

pub returns-in-Delegate-clause-state : goal.returns-in-Delegate-clause-state
returns-in-Delegate-clause-state g c = λ s plan. rw c.in-Delegate.is (c.delegate.ensures.state s plan)

pub returns-in-Import-clause-told : goal.returns-in-Import-clause-told
returns-in-Import-clause-told g c = λ s plan. rw c.in-Import.is (c.import.ensures.told s plan)

pub returns-in-Import-clause-state : goal.returns-in-Import-clause-state
returns-in-Import-clause-state g c = λ s plan. rw c.in-Import.is (c.import.ensures.state s plan)

pub returns-in-MapForeign-clause-told : goal.returns-in-MapForeign-clause-told
returns-in-MapForeign-clause-told g c = λ s plan. rw c.in-MapForeign.is (c.map_foreign.ensures.told s plan)

pub returns-in-MapForeign-clause-state : goal.returns-in-MapForeign-clause-state
returns-in-MapForeign-clause-state g c = λ s plan. rw c.in-MapForeign.is (c.map_foreign.ensures.state s plan)

pub returns-in-JudgeSend-clause-told : goal.returns-in-JudgeSend-clause-told
returns-in-JudgeSend-clause-told g c = λ s plan. rw c.in-JudgeSend.is (c.judge_sent.ensures.told s plan)

pub returns-in-JudgeFrame-clause-told : goal.returns-in-JudgeFrame-clause-told
returns-in-JudgeFrame-clause-told g c = λ s plan. rw c.in-JudgeFrame.is (c.judge_framed.ensures.told s plan)

pub returns-in-JudgeArrive-clause-told : goal.returns-in-JudgeArrive-clause-told
returns-in-JudgeArrive-clause-told g c = λ s plan. rw c.in-JudgeArrive.is (c.judge_arrived.ensures.told s plan)
