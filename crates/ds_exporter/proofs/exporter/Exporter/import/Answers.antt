use Rattle.std.proofs.Common.{◌≡◌, ◌≤◌, ℕ, List, map, ap, subst, ◌∙◌, refl}
use Rattle.ds_script.specs.declared.actor.Actor.{Actor}
use Rattle.ds_model.specs.Lists.{at}
use Rattle.ds_model.specs.Desk.{Act, Importing, Done, Refuse}
use Rattle.ds_desk.specs.Desks.{DeskView, IsReplay, entered, kept_of}
use Rattle.ds_scheme.specs.TheScheme.{scheme}
use Rattle.ds_exporter.specs.HostStates.{process_of, state_of}
use Rattle.ds_exporter.specs.PlainHosts.{site_of}
use Rattle.ds_exporter.specs.Acting.{answer_of, entry_of, imported_proc}
use Rattle.ds_exporter.specs.Stamping.{last_of_desk}
use Rattle.ds_exporter.specs.Stepping.{proc_actor, refused_proc}
use Rattle.ds_exporter.proofs.ActSteps.{ends_imported, ends_refused, fits_done, leaf_imported, stepped_done}
use Rattle.ds_exporter.proofs.exporter.Exporter.import.Goals as goal

pub invariant_of-self-in-Ok : goal.invariant_of-self-in-Ok
invariant_of-self-in-Ok c =
    let e = state_of c.self.inside.parts in
    let within = rw (← c.self.view_is) at c.requires.there in
    let free = rw (← c.self.view_is) at c.requires.free in
    let asks = rw (← c.self.view_is) at c.requires.asks in
    let who : Actor = proc_actor c.self.inside.parts.host c.args.index in
    let act : Act = Importing c.args.bytes.now in
    let desk : kept_of c.import.new.self ≡ entered c.args.stamp who (entry_of e act) e.desk = subst (λ (bytes : List ℕ). kept_of c.import.new.self ≡ entered c.args.stamp who (entry_of e (Importing bytes)) e.desk) c.as_slice.ensures (c.in-Ok.ensures.entry scheme (site_of e)) in
    let answer : answer_of e act ≡ Done = subst (λ (bytes : List ℕ). answer_of e (Importing bytes) ≡ Done) c.as_slice.ensures (c.in-Ok.ensures.answer scheme (site_of e)) in
    let procs : map process_of c.imported_at.new.procs.items ≡ at c.args.index (imported_proc) e.procs = c.imported_at.ensures ∙ ap (at c.args.index (imported_proc)) c.in_ok-reserve_proc.ensures.same in
    rw (desk, procs) (fits_done e c.args.index c.args.stamp who act asks.0 asks.1 (imported_proc) within c.self.invariant (λ x h. ends_imported e c.args.index c.args.stamp who (λ y k. free y k) c.args.bytes.now asks.0 asks.1 answer x h) (subst IsReplay desk c.in-Ok.ensures.kept))

pub returns-in-Ok-clause-ok : goal.returns-in-Ok-clause-ok
returns-in-Ok-clause-ok c =
    let e = state_of c.self.inside.parts in
    let within = rw (← c.self.view_is) at c.requires.there in
    let free = rw (← c.self.view_is) at c.requires.free in
    let asks = rw (← c.self.view_is) at c.requires.asks in
    let who : Actor = proc_actor c.self.inside.parts.host c.args.index in
    let act : Act = Importing c.args.bytes.now in
    let desk : kept_of c.import.new.self ≡ entered c.args.stamp who (entry_of e act) e.desk = subst (λ (bytes : List ℕ). kept_of c.import.new.self ≡ entered c.args.stamp who (entry_of e (Importing bytes)) e.desk) c.as_slice.ensures (c.in-Ok.ensures.entry scheme (site_of e)) in
    let answer : answer_of e act ≡ Done = subst (λ (bytes : List ℕ). answer_of e (Importing bytes) ≡ Done) c.as_slice.ensures (c.in-Ok.ensures.answer scheme (site_of e)) in
    let procs : map process_of c.imported_at.new.procs.items ≡ at c.args.index (imported_proc) e.procs = c.imported_at.ensures ∙ ap (at c.args.index (imported_proc)) c.in_ok-reserve_proc.ensures.same in
    let below = rw (← c.self.view_is) at c.requires.later in
    rw (desk, procs, ← c.self.view_is) (stepped_done e c.args.index c.args.stamp who act asks.0 asks.1 (imported_proc) within c.self.invariant (λ x h. ends_imported e c.args.index c.args.stamp who (λ y k. free y k) c.args.bytes.now asks.0 asks.1 answer x h)
    refl (λ x h. asks.2 x h) below (subst (λ (k : DeskView). last_of_desk k ≤ c.args.stamp) desk c.in-Ok.ensures.last))

pub invariant_of-self-in-Err-Refused : goal.invariant_of-self-in-Err-Refused
invariant_of-self-in-Err-Refused c =
    let e = state_of c.self.inside.parts in
    let within = rw (← c.self.view_is) at c.requires.there in
    let free = rw (← c.self.view_is) at c.requires.free in
    let asks = rw (← c.self.view_is) at c.requires.asks in
    let who : Actor = proc_actor c.self.inside.parts.host c.args.index in
    let act : Act = Importing c.args.bytes.now in
    let desk : kept_of c.import.new.self ≡ entered c.args.stamp who (entry_of e act) e.desk = subst (λ (bytes : List ℕ). kept_of c.import.new.self ≡ entered c.args.stamp who (entry_of e (Importing bytes)) e.desk) c.as_slice.ensures (rw c.in-Err-Refused.field-0-is at (c.in-Err-Refused.ensures.entry scheme (site_of e))) in
    let answer : answer_of e act ≡ Refuse c.in-Err-Refused.rule = subst (λ (bytes : List ℕ). answer_of e (Importing bytes) ≡ Refuse c.in-Err-Refused.rule) c.as_slice.ensures (rw c.in-Err-Refused.field-0-is at (c.in-Err-Refused.ensures.answer scheme (site_of e))) in
    let procs : map process_of c.refused_at.new.procs.items ≡ at c.args.index (refused_proc c.in-Err-Refused.rule) e.procs = c.refused_at.ensures ∙ ap (at c.args.index (refused_proc c.in-Err-Refused.rule)) c.in_ok-reserve_proc.ensures.same in
    rw (desk, procs) (fits_done e c.args.index c.args.stamp who act asks.0 asks.1 (refused_proc c.in-Err-Refused.rule) within c.self.invariant (λ x h. ends_refused e c.args.index c.args.stamp who (λ y k. free y k) act asks.0 asks.1 c.in-Err-Refused.rule answer x h) (subst IsReplay desk c.in-Err-Refused.ensures.kept))

pub returns-in-Err-Refused-clause-ok : goal.returns-in-Err-Refused-clause-ok
returns-in-Err-Refused-clause-ok c =
    let e = state_of c.self.inside.parts in
    let within = rw (← c.self.view_is) at c.requires.there in
    let free = rw (← c.self.view_is) at c.requires.free in
    let asks = rw (← c.self.view_is) at c.requires.asks in
    let who : Actor = proc_actor c.self.inside.parts.host c.args.index in
    let act : Act = Importing c.args.bytes.now in
    let desk : kept_of c.import.new.self ≡ entered c.args.stamp who (entry_of e act) e.desk = subst (λ (bytes : List ℕ). kept_of c.import.new.self ≡ entered c.args.stamp who (entry_of e (Importing bytes)) e.desk) c.as_slice.ensures (rw c.in-Err-Refused.field-0-is at (c.in-Err-Refused.ensures.entry scheme (site_of e))) in
    let answer : answer_of e act ≡ Refuse c.in-Err-Refused.rule = subst (λ (bytes : List ℕ). answer_of e (Importing bytes) ≡ Refuse c.in-Err-Refused.rule) c.as_slice.ensures (rw c.in-Err-Refused.field-0-is at (c.in-Err-Refused.ensures.answer scheme (site_of e))) in
    let procs : map process_of c.refused_at.new.procs.items ≡ at c.args.index (refused_proc c.in-Err-Refused.rule) e.procs = c.refused_at.ensures ∙ ap (at c.args.index (refused_proc c.in-Err-Refused.rule)) c.in_ok-reserve_proc.ensures.same in
    let below = rw (← c.self.view_is) at c.requires.later in
    rw (desk, procs, ← c.self.view_is) (stepped_done e c.args.index c.args.stamp who act asks.0 asks.1 (refused_proc c.in-Err-Refused.rule) within c.self.invariant (λ x h. ends_refused e c.args.index c.args.stamp who (λ y k. free y k) act asks.0 asks.1 c.in-Err-Refused.rule answer x h)
    refl (λ x h. asks.2 x h) below (subst (λ (k : DeskView). last_of_desk k ≤ c.args.stamp) desk c.in-Err-Refused.ensures.last))

pub invariant_of-self-in-Err-NoMemory : goal.invariant_of-self-in-Err-NoMemory
invariant_of-self-in-Err-NoMemory c =
    let desk : kept_of c.import.new.self ≡ kept_of c.self.inside.parts.desk = rw c.in-Err-NoMemory.field-0-is at (c.in-Err-NoMemory.ensures.entry scheme (site_of (state_of c.self.inside.parts))) in
    rw (desk, c.in_ok-reserve_proc.ensures.same) c.self.invariant

pub returns-in-Err-NoMemory-clause-err : goal.returns-in-Err-NoMemory-clause-err
returns-in-Err-NoMemory-clause-err c =
    let desk : kept_of c.import.new.self ≡ kept_of c.self.inside.parts.desk = rw c.in-Err-NoMemory.field-0-is at (c.in-Err-NoMemory.ensures.entry scheme (site_of (state_of c.self.inside.parts))) in
    rw (desk, c.in_ok-reserve_proc.ensures.same) c.self.view_is

pub returns-in-Ok-clause-leaf : goal.returns-in-Ok-clause-leaf
returns-in-Ok-clause-leaf c =
    let e = state_of c.self.inside.parts in
    let who : Actor = proc_actor c.self.inside.parts.host c.args.index in
    let desk : kept_of c.import.new.self ≡ entered c.args.stamp who (entry_of e (Importing c.args.bytes.now)) e.desk = subst (λ (bytes : List ℕ). kept_of c.import.new.self ≡ entered c.args.stamp who (entry_of e (Importing bytes)) e.desk) c.as_slice.ensures (c.in-Ok.ensures.entry scheme (site_of e)) in
    rw (← c.self.view_is) (ap (λ (k : DeskView). k.desk.leaf) desk ∙ leaf_imported e c.args.stamp who c.args.bytes.now)

pub returns-in-Err-Refused-clause-leaf : goal.returns-in-Err-Refused-clause-leaf
returns-in-Err-Refused-clause-leaf c =
    let e = state_of c.self.inside.parts in
    let who : Actor = proc_actor c.self.inside.parts.host c.args.index in
    let desk : kept_of c.import.new.self ≡ entered c.args.stamp who (entry_of e (Importing c.args.bytes.now)) e.desk = subst (λ (bytes : List ℕ). kept_of c.import.new.self ≡ entered c.args.stamp who (entry_of e (Importing bytes)) e.desk) c.as_slice.ensures (rw c.in-Err-Refused.field-0-is at (c.in-Err-Refused.ensures.entry scheme (site_of e))) in
    rw (← c.self.view_is) (ap (λ (k : DeskView). k.desk.leaf) desk ∙ leaf_imported e c.args.stamp who c.args.bytes.now)
