use Rattle.ds_share.specs.Desks.{change_for, given_for}
use Rattle.ds_share.proofs.Judgements.{receipt_of_act, some_plan, some_scheme}
use Rattle.ds_share.proofs.desk.SharedDesk.act.Goals as goal

pub returns-clause-ok : goal.returns-clause-ok
returns-clause-ok g c =
    let desk = c.deref_mut.result.now in
    receipt_of_act c.args.stamp c.args.act desk (change_for some_scheme some_plan desk c.args.act) (given_for c.args.act) c.act_in.result (c.act_in.ensures.receipt some_scheme some_plan) c.act_in.ensures.says
