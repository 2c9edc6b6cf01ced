use Rattle.std.proofs.Common.{◌≡◌, map, refl, ap, ◌∙◌}
use Rattle.ds_script.specs.declared.actor.Actor.{Actor}
use Rattle.ds_model.specs.Lists.{at}
use Rattle.ds_exporter.specs.HostStates.{box_of, process_of, state_of}
use Rattle.ds_exporter.specs.Mailboxes.{put_in}
use Rattle.ds_exporter.specs.Stepping.{proc_actor, sent_proc}
use Rattle.ds_exporter.proofs.PutSteps.{fits_sent, stepped_put}
use Rattle.ds_exporter.proofs.exporter.Exporter.put_mail.Goals as goal

pub invariant_of-self-2 : goal.invariant_of-self-2
invariant_of-self-2 c =
    let e = state_of c.self.inside.parts in
    let within = rw (← c.self.view_is) at c.requires.there in
    let free = rw (← c.self.view_is) at c.requires.free in
    let named = rw (← c.self.view_is) at c.requires.named in
    let who : Actor = proc_actor c.self.inside.parts.host c.args.index in
    let procs : map process_of c.sent_at.new.procs.items ≡ at c.args.index sent_proc e.procs = c.sent_at.ensures ∙ ap (at c.args.index sent_proc) c.in_ok-reserve_proc.ensures.same in
    let boxes : map box_of c.put_at.new.boxes.items ≡ at c.args.place (put_in c.args.stamp who c.args.message) e.boxes = c.put_at.ensures ∙ ap (at c.args.place (put_in c.args.stamp who c.args.message)) c.in_ok-reserve_box.ensures.same in
    rw (procs, boxes) (fits_sent e c.args.index c.args.place c.args.stamp who c.args.message within (λ x h. free x h) named c.self.invariant)

pub returns-clause-ok : goal.returns-clause-ok
returns-clause-ok c =
    let e = state_of c.self.inside.parts in
    let within = rw (← c.self.view_is) at c.requires.there in
    let free = rw (← c.self.view_is) at c.requires.free in
    let asks = rw (← c.self.view_is) at c.requires.asks in
    let below = rw (← c.self.view_is) at c.requires.later in
    let who : Actor = proc_actor c.self.inside.parts.host c.args.index in
    let procs : map process_of c.sent_at.new.procs.items ≡ at c.args.index sent_proc e.procs = c.sent_at.ensures ∙ ap (at c.args.index sent_proc) c.in_ok-reserve_proc.ensures.same in
    let boxes : map box_of c.put_at.new.boxes.items ≡ at c.args.place (put_in c.args.stamp who c.args.message) e.boxes = c.put_at.ensures ∙ ap (at c.args.place (put_in c.args.stamp who c.args.message)) c.in_ok-reserve_box.ensures.same in
    rw (procs, boxes, ← c.self.view_is) (stepped_put e c.args.index c.args.place c.args.stamp who c.args.message within (λ x h. free x h) refl (λ x h. asks x h) below)
