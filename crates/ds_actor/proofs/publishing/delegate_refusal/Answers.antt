use Rattle.std.proofs.Common.{sym, ap, ◌∙◌}
use Rattle.ds_actor.specs.Usable.{usable_number}
use Rattle.ds_actor.proofs.Publishes.{not_known, not_held, all_but_public}
use Rattle.ds_actor.proofs.publishing.delegate_refusal.Goals as goal

pub returns-in_default : goal.returns-in_default
returns-in_default c = λ rows table agreed named hand.
    sym (not_known c.args.here.now rows c.args.process.now.process c.args.category.now
    (ap (λ us. usable_number c.args.here.now us c.args.category.now) (sym c.names.ensures.names) ∙ (sym c.number_in.ensures ∙ c.in_default.is)))

pub returns-then-not-owns : goal.returns-then-not-owns
returns-then-not-owns c = λ rows table agreed named hand.
    sym (not_held c.args.here.now rows c.args.process.now.process c.args.category.now table agreed named c.in-Some.number
    (ap (λ us. usable_number c.args.here.now us c.args.category.now) (sym c.names.ensures.names) ∙ (sym c.number_in.ensures ∙ c.in-Some.is)) (sym c.owns.ensures ∙ c.if-not-owns.true))

pub returns : goal.returns
returns c = λ rows table agreed named hand.
    c.publish_refusal.ensures c.args.here.now rows table agreed named hand
    ∙ sym (all_but_public c.args.here.now rows c.args.process.now.process c.args.category.now table agreed named c.in-Some.number
    (ap (λ us. usable_number c.args.here.now us c.args.category.now) (sym c.names.ensures.names) ∙ (sym c.number_in.ensures ∙ c.in-Some.is)) (sym c.owns.ensures ∙ c.if-not-owns.false))
