use Rattle.ds_model.specs.Desk.{Mapping}
use Rattle.ds_desk.specs.Desks.{entered, kept_of}
use Rattle.ds_desk.specs.Replies.{entry_for}
use Rattle.ds_share.proofs.Judgements.{some_plan, some_scheme}
use Rattle.ds_share.proofs.Tellings.{mapping_enters, mapping_stays, tells_mapping}
use Rattle.ds_share.proofs.desk_acts.map_foreign.Goals as goal

pub returns-clause-told : goal.returns-clause-told
returns-clause-told c =
    λ s plan. rw (c.tell_mapping.ensures, c.in_ok-body.ensures) (tells_mapping s plan (kept_of c.args.desk.now) c.args.name c.map_foreign-answer.result (c.map_foreign-answer.ensures.answer s plan))

pub returns-clause-state : goal.returns-clause-state
returns-clause-state c =
    let old = kept_of c.args.desk.now in
    λ s plan. rw c.tell_mapping.ensures (mapping_enters c.in_ok-body.body c.map_foreign-answer.result old (entered c.args.stamp c.args.who (entry_for s plan old (Mapping c.args.name)) old) (kept_of c.map_foreign-answer.new.self) (c.map_foreign-answer.ensures.entry s plan))

pub returns-clause-err : goal.returns-clause-err
returns-clause-err c =
    let old = kept_of c.args.desk.now in
    rw c.tell_mapping.ensures (mapping_stays c.in_ok-body.body c.map_foreign-answer.result old (entered c.args.stamp c.args.who (entry_for some_scheme some_plan old (Mapping c.args.name)) old) (kept_of c.map_foreign-answer.new.self) (c.map_foreign-answer.ensures.entry some_scheme some_plan))
