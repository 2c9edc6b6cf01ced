use Rattle.std.proofs.Common.{◌≡◌, List, Some, map, slice_get, ap, subst, ◌∙◌, refl}
use Rattle.ds_label.specs.declared.category.PubKey.{PubKey}
use Rattle.ds_script.specs.declared.actor.Actor.{Actor}
use Rattle.ds_map.specs.Table.{IsTable}
use Rattle.ds_model.specs.Lists.{at}
use Rattle.ds_exporter.specs.HostStates.{HostBox, HostProcess, box_of, process_of, state_of}
use Rattle.ds_exporter.specs.Taking.{TakesSo, taken_box, took_proc}
use Rattle.ds_exporter.specs.Stepping.{proc_actor}
use Rattle.ds_exporter.proofs.TakeSteps.{fits_taken, stepped_take, still_take}
use Rattle.ds_exporter.proofs.exporter.Exporter.take_mail.Goals as goal

pub invariant_of-self-in-Ok : goal.invariant_of-self-in-Ok
invariant_of-self-in-Ok c =
    let e = state_of c.self.inside.parts in
    let within = rw (← c.self.view_is) at c.requires.there in
    let free = rw (← c.self.view_is) at c.requires.free in
    let inside = rw (← c.self.view_is) at c.requires.place in
    let who : Actor = proc_actor c.self.inside.parts.host c.args.index in
    let table : IsTable e.desk.here e.desk.desk.rows = subst (λ (here : PubKey). IsTable here e.desk.desk.rows) c.self.invariant.desk.table c.rows-rows.ensures.table in
    let first : (b : HostBox) → slice_get e.boxes c.args.place ≡ Some b → slice_get b.mailbox.waiting 0 ≡ Some c.in-Ok.message
    = λ b h. c.in-Ok.ensures.taken b (ap (λ (bs : List HostBox). slice_get bs c.args.place) c.in_ok-reserve_box.ensures.same ∙ h) in
    let takes : (x : HostProcess) → slice_get e.procs c.args.index ≡ Some x → TakesSo c.args.reg c.args.slot c.in-Ok.message x
    = λ x h. c.took_at.ensures.takes x (ap (λ (xs : List HostProcess). slice_get xs c.args.index) c.in_ok-reserve_proc.ensures.same ∙ h) in
    let procs : map process_of c.took_at.new.procs.items ≡ at c.args.index (took_proc c.args.reg c.args.slot c.in-Ok.message) e.procs
    = c.took_at.ensures.procs ∙ ap (at c.args.index (took_proc c.args.reg c.args.slot c.in-Ok.message)) c.in_ok-reserve_proc.ensures.same in
    let boxes : map box_of c.take_at.new.boxes.items ≡ at c.args.place (taken_box c.args.stamp who) e.boxes = c.in-Ok.ensures.ok ∙ ap (at c.args.place (taken_box c.args.stamp who)) c.in_ok-reserve_box.ensures.same in
    rw (procs, boxes) (fits_taken e c.args.index c.args.place c.args.stamp c.args.reg c.args.slot who c.in-Ok.message within inside (λ x h. free x h) table c.self.invariant first takes)

pub returns-in-Ok-clause-ok : goal.returns-in-Ok-clause-ok
returns-in-Ok-clause-ok c =
    let e = state_of c.self.inside.parts in
    let within = rw (← c.self.view_is) at c.requires.there in
    let free = rw (← c.self.view_is) at c.requires.free in
    let inside = rw (← c.self.view_is) at c.requires.place in
    let asks = rw (← c.self.view_is) at c.requires.asks in
    let below = rw (← c.self.view_is) at c.requires.later in
    let who : Actor = proc_actor c.self.inside.parts.host c.args.index in
    let table : IsTable e.desk.here e.desk.desk.rows = subst (λ (here : PubKey). IsTable here e.desk.desk.rows) c.self.invariant.desk.table c.rows-rows.ensures.table in
    let first : (b : HostBox) → slice_get e.boxes c.args.place ≡ Some b → slice_get b.mailbox.waiting 0 ≡ Some c.in-Ok.message
    = λ b h. c.in-Ok.ensures.taken b (ap (λ (bs : List HostBox). slice_get bs c.args.place) c.in_ok-reserve_box.ensures.same ∙ h) in
    let takes : (x : HostProcess) → slice_get e.procs c.args.index ≡ Some x → TakesSo c.args.reg c.args.slot c.in-Ok.message x
    = λ x h. c.took_at.ensures.takes x (ap (λ (xs : List HostProcess). slice_get xs c.args.index) c.in_ok-reserve_proc.ensures.same ∙ h) in
    let procs : map process_of c.took_at.new.procs.items ≡ at c.args.index (took_proc c.args.reg c.args.slot c.in-Ok.message) e.procs
    = c.took_at.ensures.procs ∙ ap (at c.args.index (took_proc c.args.reg c.args.slot c.in-Ok.message)) c.in_ok-reserve_proc.ensures.same in
    let boxes : map box_of c.take_at.new.boxes.items ≡ at c.args.place (taken_box c.args.stamp who) e.boxes = c.in-Ok.ensures.ok ∙ ap (at c.args.place (taken_box c.args.stamp who)) c.in_ok-reserve_box.ensures.same in
    rw (procs, boxes, ← c.self.view_is) (stepped_take e c.args.index c.args.place c.args.stamp c.args.reg c.args.slot who c.in-Ok.message within inside (λ x h. free x h) table c.self.invariant first takes refl (λ x h. asks x h) below)

pub returns-in-Err-clause-ok : goal.returns-in-Err-clause-ok
returns-in-Err-clause-ok c =
    let e = state_of c.self.inside.parts in
    let within = rw (← c.self.view_is) at c.requires.there in
    let inside = rw (← c.self.view_is) at c.requires.place in
    let asks = rw (← c.self.view_is) at c.requires.asks in
    let still = still_take e c.args.index c.args.place c.args.reg c.args.slot within inside (λ x h. asks x h)
    (λ b h. c.in-Err.ensures.taken b (ap (λ (bs : List HostBox). slice_get bs c.args.place) c.in_ok-reserve_box.ensures.same ∙ h)) in (
      rw (c.in_ok-reserve_proc.ensures.same, c.in-Err.ensures.err, c.in_ok-reserve_box.ensures.same) c.self.view_is,
      rw (← c.self.view_is) still.0,
      rw (← c.self.view_is) still.1,
    )
