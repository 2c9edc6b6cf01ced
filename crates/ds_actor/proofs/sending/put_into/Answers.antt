use Rattle.std.proofs.Common.{[], sym, ap, ◌∙◌}
use Rattle.ds_label.specs.Numbers.{by_number}
use Rattle.ds_model.specs.ProcessRules.{mailbox_rule}
use Rattle.ds_actor.specs.Sites.{labels_of}
use Rattle.ds_actor.proofs.Sites.{first_named, rest_named}
use Rattle.ds_actor.proofs.Sends.{put_refused, put_put}
use Rattle.ds_actor.proofs.sending.put_into.Goals as goal

pub returns-in-Err-clause-asked : goal.returns-in-Err-clause-asked
returns-in-Err-clause-asked g c = λ rows table agreed named have plan hand y host.
    let site = g.S.Site.seen c.args.site.now in let p = c.args.process.now.process in let n = c.args.numbers in
    put_refused site rows table plan hand p host c.args.slot c.args.reg n
    (rest_named site.here rows p.label p.own p.clear (labels_of site.boxes) named) (first_named site.here rows n.label n.own n.clear [] have)
    c.box_with-place.result c.box_with-place.ensures.place c.box_with-place.ensures.within c.in-Err.rule
    (ap (λ t. mailbox_rule by_number t n.label) (sym c.label_of.ensures) ∙ sym c.in-Err.ensures.numbers)

pub returns-clause-asked : goal.returns-clause-asked
returns-clause-asked g c = λ rows table agreed named have plan hand y host.
    let site = g.S.Site.seen c.args.site.now in let p = c.args.process.now.process in let n = c.args.numbers in
    put_put site rows table plan hand p host c.args.slot c.args.reg n
    (rest_named site.here rows p.label p.own p.clear (labels_of site.boxes) named) (first_named site.here rows n.label n.own n.clear [] have)
    c.box_with-place.result c.box_with-place.ensures.place c.box_with-place.ensures.within c.in-Some.place c.in_ok-message.message
    (ap (λ t. mailbox_rule by_number t n.label) (sym c.label_of.ensures) ∙ sym c.in_default.ensures.numbers)
    c.in-Some.is (c.in_ok-message.ensures.from ∙ c.here.ensures) c.in_ok-message.ensures.labels c.in_ok-message.ensures.payload
