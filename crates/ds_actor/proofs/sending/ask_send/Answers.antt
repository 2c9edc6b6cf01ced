use Rattle.std.proofs.Common.{sym, subst, ◌∙◌}
use Rattle.std.specs.Prelude.{IfOk}
use Rattle.ds_model.specs.ProcessStep.{Ask}
use Rattle.ds_actor.specs.Asks.{IsAsked}
use Rattle.ds_actor.specs.Seen.{process_of}
use Rattle.ds_actor.specs.Sites.{labels_of}
use Rattle.ds_actor.proofs.Sites.{three_named}
use Rattle.ds_actor.proofs.Sends.{sent_here, sent_away}
use Rattle.ds_actor.proofs.sending.ask_send.Goals as goal

pub returns-then-is_own-clause-asked : goal.returns-then-is_own-clause-asked
returns-then-is_own-clause-asked g c = λ rows table agreed named plan hand y.
    let site = g.S.Site.seen c.args.site.now in let p = c.args.process.now.process in
    subst (λ (k : Ask). IfOk c.ask_here.result (λ a. IsAsked site.here rows (process_of site.here rows hand p) y a k))
    (sent_here site rows plan hand p c.args.host c.args.slot c.args.reg c.args.label.now c.args.own.now c.args.clear.now (sym c.is_own.ensures ∙ c.if-is_own.true))
    (c.ask_here.ensures.asked rows table agreed named plan hand y c.args.host)

pub returns-else-is_own-clause-names : goal.returns-else-is_own-clause-names
returns-else-is_own-clause-names g c = λ rows table agreed named. c.ask_away.ensures.names rows

pub returns-else-is_own-clause-asked : goal.returns-else-is_own-clause-asked
returns-else-is_own-clause-asked g c = λ rows table agreed named plan hand y.
    let site = g.S.Site.seen c.args.site.now in let p = c.args.process.now.process in
    subst (λ (k : Ask). IfOk c.ask_away.result (λ a. IsAsked site.here rows (process_of site.here rows hand p) y a k))
    (sent_away site rows plan hand p c.args.host c.args.slot c.args.reg c.args.label.now c.args.own.now c.args.clear.now (sym c.is_own.ensures ∙ c.if-is_own.false))
    (c.ask_away.ensures.asked rows table agreed (three_named site.here rows p.label p.own p.clear (labels_of site.boxes) named) plan hand y)
