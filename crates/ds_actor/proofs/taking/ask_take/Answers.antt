use Rattle.std.proofs.Common.{Some, None, sym, ◌∙◌}
use Rattle.ds_actor.proofs.Takes.{no_box, take_is}
use Rattle.ds_actor.proofs.taking.ask_take.Goals as goal

pub returns-in_default-clause-asked : goal.returns-in_default-clause-asked
returns-in_default-clause-asked g c = λ rows table agreed named plan hand y.
    no_box (g.S.Site.seen c.args.site.now) rows table plan hand c.args.process.now.process c.args.index c.args.reg c.args.slot named (sym c.box_with.ensures.place ∙ c.in_default.is)

pub returns-in-Some-refusal-clause-asked : goal.returns-in-Some-refusal-clause-asked
returns-in-Some-refusal-clause-asked g c = λ rows table agreed named plan hand y.
    take_is (g.S.Site.seen c.args.site.now) rows table plan hand c.args.process.now.process c.args.index c.args.reg c.args.slot named
    c.in-Some.place c.box_owner-owner.result c.box_label.result.now c.in-Some.ensures.within c.box_owner-owner.ensures c.box_label.ensures
    (Some c.in-Some-refusal.rule) (sym c.box_with.ensures.place ∙ c.in-Some.is) (sym c.refusal.ensures ∙ c.in-Some-refusal.is)

pub returns-clause-asked : goal.returns-clause-asked
returns-clause-asked g c = λ rows table agreed named plan hand y.
    take_is (g.S.Site.seen c.args.site.now) rows table plan hand c.args.process.now.process c.args.index c.args.reg c.args.slot named
    c.in-Some.place c.box_owner-owner.result c.box_label.result.now c.in-Some.ensures.within c.box_owner-owner.ensures c.box_label.ensures
    None (sym c.box_with.ensures.place ∙ c.in-Some.is) (sym c.refusal.ensures ∙ c.in_default-refusal.is)
