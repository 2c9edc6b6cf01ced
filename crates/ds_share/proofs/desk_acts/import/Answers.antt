use Rattle.std.proofs.Common.{List, ℕ, subst}
use Rattle.ds_model.specs.Desk.{Done, Importing}
use Rattle.ds_desk.specs.Desks.{entered, kept_of}
use Rattle.ds_desk.specs.Replies.{Answers, Enters, entry_for, reply_for}
use Rattle.ds_share.proofs.Judgements.{some_plan, some_scheme}
use Rattle.ds_share.proofs.Tellings.{import_enters, import_stays, tells_import}
use Rattle.ds_share.proofs.desk_acts.import.Goals as goal

pub returns-clause-told : goal.returns-clause-told
returns-clause-told c =
    let old = kept_of c.args.desk.now in
    λ s plan. rw c.tell_import.ensures (tells_import s plan old c.args.cert (rw c.as_slice.ensures at c.show_bytes.ensures) c.import-answer.result
    (subst (λ (bytes : List ℕ). Answers (λ _. Done) c.import-answer.result (reply_for s plan old (Importing bytes))) c.as_slice-2.ensures (c.import-answer.ensures.answer s plan)))

pub returns-clause-state : goal.returns-clause-state
returns-clause-state c =
    let old = kept_of c.args.desk.now in
    λ s plan. rw c.tell_import.ensures (import_enters c.args.cert c.import-answer.result old (entered c.args.stamp c.args.who (entry_for s plan old (Importing c.args.cert)) old) (kept_of c.import-answer.new.self)
    (subst (λ (bytes : List ℕ). Enters c.import-answer.result old (entered c.args.stamp c.args.who (entry_for s plan old (Importing bytes)) old) (kept_of c.import-answer.new.self)) c.as_slice-2.ensures (c.import-answer.ensures.entry s plan)))

pub returns-clause-err : goal.returns-clause-err
returns-clause-err c =
    let old = kept_of c.args.desk.now in
    rw c.tell_import.ensures (import_stays c.args.cert c.import-answer.result old (entered c.args.stamp c.args.who (entry_for some_scheme some_plan old (Importing c.as_slice-2.result.now)) old) (kept_of c.import-answer.new.self)
    (c.import-answer.ensures.entry some_scheme some_plan))
