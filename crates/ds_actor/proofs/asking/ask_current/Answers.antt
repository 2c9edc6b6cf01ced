use Rattle.std.proofs.Common.{Some, sym, ap, subst, ◌∙◌}
use Rattle.std.specs.Prelude.{IfOk, length}
use Rattle.ds_script.specs.declared.op.Op.TheVariants as ops
use Rattle.ds_actor.specs.Sites.{labels_of}
use Rattle.ds_actor.specs.Asks.{IsAmongHosts}
use Rattle.ds_actor.specs.Asking.{IsAnswer}
use Rattle.ds_actor.proofs.Sites.{three_named}
use Rattle.ds_actor.proofs.Askings.{each_here, can_end, outside_ok, silent_is, silent_ok, label_ok, category_ok, delegate_is}
use Rattle.ds_actor.proofs.asking.ask_current.Goals as goal

pub key-requires : goal.key-requires
key-requires g c =
    let site = g.S.Site.seen c.args.site.now in let v = c.args.process.now in
    each_here (IsAmongHosts (length site.keys)) v.process.script v.process.course.place (ops.Delegate c.in-Delegate.reg c.in-Delegate.category c.in-Delegate.to c.in-Delegate.from c.in-Delegate.until)
    c.requires.scripts (sym (ap Some (sym c.in-Delegate.is) ∙ c.in-Some.ensures.op))

pub returns-in-Send-clause-ok : goal.returns-in-Send-clause-ok
returns-in-Send-clause-ok g c =
    let site = g.S.Site.seen c.args.site.now in let v = c.args.process.now in
    let op = ops.Send c.in-Send.host c.in-Send.slot c.in-Send.reg c.in-Send.label c.in-Send.own c.in-Send.clear in
    subst (λ o. IfOk c.ask_send.result (IsAnswer site c.args.index o v v)) (ap Some (sym c.in-Send.is) ∙ c.in-Some.ensures.op)
    (outside_ok site c.args.index (Some op) v c.ask_send.result (can_end v c.in-Some.op.now c.in-Some.ensures.op c.requires.room c.requires.spare)
    c.ask_send.ensures.outside c.ask_send.ensures.copied c.ask_send.ensures.range c.ask_send.ensures.names c.ask_send.ensures.asked)

pub returns-in-Take-clause-ok : goal.returns-in-Take-clause-ok
returns-in-Take-clause-ok g c =
    let site = g.S.Site.seen c.args.site.now in let v = c.args.process.now in
    subst (λ o. IsAnswer site c.args.index o v v c.ask_take.result) (ap Some (sym c.in-Take.is) ∙ c.in-Some.ensures.op)
    (silent_is site c.args.index (Some (ops.Take c.in-Take.reg c.in-Take.slot)) v c.ask_take.result (can_end v c.in-Some.op.now c.in-Some.ensures.op c.requires.room c.requires.spare)
    c.ask_take.ensures.sends_nothing c.ask_take.ensures.range c.ask_take.ensures.asked)

pub returns-in_ok-label-in-SetLabel-clause-ok : goal.returns-in_ok-label-in-SetLabel-clause-ok
returns-in_ok-label-in-SetLabel-clause-ok g c =
    let site = g.S.Site.seen c.args.site.now in let v = c.args.process.now in let r = c.set_label.result in
    let is = c.set_label.ensures in
    subst (λ o. IfOk r (IsAnswer site c.args.index o v c.set_label.new.process))
    (ap Some (ap ops.SetLabel c.in_ok-label-in-SetLabel.ensures ∙ sym c.in-SetLabel.is) ∙ c.in-Some.ensures.op)
    (label_ok site c.args.index v c.set_label.new.process r c.in_ok-label-in-SetLabel.label c.here.result.now c.here.ensures
    (can_end v c.in-Some.op.now c.in-Some.ensures.op c.requires.room c.requires.spare) is.inside is.still is.moved
    (record { names = is.names; labels = is.labels; asked = is.asked }))

pub returns-in-NewCat-clause-ok : goal.returns-in-NewCat-clause-ok
returns-in-NewCat-clause-ok g c =
    let site = g.S.Site.seen c.args.site.now in let v = c.args.process.now in let r = c.new_category.result in
    let is = c.new_category.ensures in
    subst (λ o. IfOk r (IsAnswer site c.args.index o v c.new_category.new.process))
    (ap Some (sym c.in-NewCat.is) ∙ c.in-Some.ensures.op)
    (category_ok site c.args.index v c.new_category.new.process r c.in-NewCat.kind c.here-in-NewCat.result.now c.here-in-NewCat.ensures
    (can_end v c.in-Some.op.now c.in-Some.ensures.op c.requires.room c.requires.spare) is.inside is.still is.moved
    (record { names = is.names; labels = is.labels; asked = is.asked }))

pub returns-in-Delegate-clause-ok : goal.returns-in-Delegate-clause-ok
returns-in-Delegate-clause-ok g c =
    let site = g.S.Site.seen c.args.site.now in let v = c.args.process.now in
    subst (λ o. IsAnswer site c.args.index o v v c.ask_delegate.result) (ap Some (sym c.in-Delegate.is) ∙ c.in-Some.ensures.op)
    (delegate_is site c.args.index v c.in-Delegate.reg c.in-Delegate.to c.in-Delegate.from c.in-Delegate.until c.in-Delegate.category c.ask_delegate.result
    c.here-in-Delegate.result.now c.key.result.now c.here-in-Delegate.ensures c.key.ensures
    (can_end v c.in-Some.op.now c.in-Some.ensures.op c.requires.room c.requires.spare)
    c.ask_delegate.ensures.sends_nothing (c.ask_delegate.ensures.range site) c.ask_delegate.ensures.asked)

pub returns-in-Map-clause-ok : goal.returns-in-Map-clause-ok
returns-in-Map-clause-ok g c =
    let site = g.S.Site.seen c.args.site.now in let v = c.args.process.now in
    subst (λ o. IsAnswer site c.args.index o v v c.ask_map.result) (ap Some (sym c.in-Map.is) ∙ c.in-Some.ensures.op)
    (silent_is site c.args.index (Some (ops.Map c.in-Map.category)) v c.ask_map.result (can_end v c.in-Some.op.now c.in-Some.ensures.op c.requires.room c.requires.spare)
    c.ask_map.ensures.sends_nothing (c.ask_map.ensures.range site)
    (λ rows table agreed named plan hand y. c.ask_map.ensures.asked site.here rows table agreed (three_named site.here rows v.process.label v.process.own v.process.clear (labels_of site.boxes) named) hand y))

pub returns-in-Import-clause-ok : goal.returns-in-Import-clause-ok
returns-in-Import-clause-ok g c =
    let site = g.S.Site.seen c.args.site.now in let v = c.args.process.now in
    subst (λ o. IfOk c.ask_import.result (IsAnswer site c.args.index o v v)) (ap Some (sym c.in-Import.is) ∙ c.in-Some.ensures.op)
    (silent_ok site c.args.index (Some (ops.Import c.in-Import.reg)) v c.ask_import.result (can_end v c.in-Some.op.now c.in-Some.ensures.op c.requires.room c.requires.spare)
    c.ask_import.ensures.sends_nothing (c.ask_import.ensures.range site)
    (λ rows table agreed named plan hand y. c.ask_import.ensures.asked site.here rows table agreed (three_named site.here rows v.process.label v.process.own v.process.clear (labels_of site.boxes) named) hand y))
