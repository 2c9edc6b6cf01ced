use Rattle.std.proofs.Common.{◌≡◌, ◌≤◌, map, sym, ap, subst, ◌∙◌, inl, inr, refl}
use Rattle.ds_label.specs.declared.rule.Rule.{Rule}
use Rattle.ds_script.specs.declared.actor.Actor.{Actor}
use Rattle.ds_model.specs.Lists.{at}
use Rattle.ds_model.specs.Desk.{Act, Delegating, Made, Refuse}
use Rattle.ds_desk.specs.declared.fault.DeskFault.{DeskFault}
use Rattle.ds_desk.specs.declared.fault.DeskFault.TheVariants.{KeeperFault, Refused}
use Rattle.ds_desk.specs.Desks.{DeskView, IsReplay, entered, kept_of}
use Rattle.ds_scheme.specs.TheScheme.{scheme}
use Rattle.ds_exporter.specs.HostStates.{process_of, state_of}
use Rattle.ds_exporter.specs.PlainHosts.{site_of}
use Rattle.ds_exporter.specs.Acting.{answer_of, delegated_proc, entry_of}
use Rattle.ds_exporter.specs.Stamping.{last_of_desk}
use Rattle.ds_exporter.specs.Stepping.{proc_actor, refused_proc}
use Rattle.ds_exporter.proofs.ActSteps.{ends_delegated, ends_refused, fits_done, leaf_made, leaf_refused, stepped_done}
use Rattle.ds_exporter.proofs.exporter.Exporter.delegate.Goals as goal

pub invariant_of-self-in-Ok : goal.invariant_of-self-in-Ok
invariant_of-self-in-Ok g c =
    let e = state_of c.self.inside.parts in
    let within = rw (← c.self.view_is) at c.requires.there in
    let free = rw (← c.self.view_is) at c.requires.free in
    let asks = rw (← c.self.view_is) at c.requires.asks in
    let who : Actor = proc_actor c.self.inside.parts.host c.args.index in
    let act : Act = Delegating c.args.category c.args.to c.args.from c.args.until in
    let desk : kept_of c.delegate.new.self ≡ entered c.args.stamp who (entry_of e act) e.desk = (c.in-Ok.ensures.entry scheme (site_of e)) in
    let answer : answer_of e act ≡ Made c.in-Ok.bytes = (c.in-Ok.ensures.answer scheme (site_of e)) in
    let procs : map process_of c.delegated_at.new.procs.items ≡ at c.args.index (delegated_proc c.args.category c.args.host c.args.reg c.in-Ok.bytes) e.procs = c.delegated_at.ensures ∙ ap (at c.args.index (delegated_proc c.args.category c.args.host c.args.reg c.in-Ok.bytes)) c.in_ok-reserve_proc.ensures.same in
    rw (desk, procs) (fits_done e c.args.index c.args.stamp who act c.args.reg c.args.host (delegated_proc c.args.category c.args.host c.args.reg c.in-Ok.bytes) within c.self.invariant (λ x h. ends_delegated e c.args.index c.args.stamp who (λ y k. free y k) c.args.category c.args.to c.args.from c.args.until c.args.reg c.args.host c.in-Ok.bytes answer x h) (subst IsReplay desk c.in-Ok.ensures.kept))

pub returns-in-Ok-clause-ok : goal.returns-in-Ok-clause-ok
returns-in-Ok-clause-ok g c =
    let e = state_of c.self.inside.parts in
    let within = rw (← c.self.view_is) at c.requires.there in
    let free = rw (← c.self.view_is) at c.requires.free in
    let asks = rw (← c.self.view_is) at c.requires.asks in
    let who : Actor = proc_actor c.self.inside.parts.host c.args.index in
    let act : Act = Delegating c.args.category c.args.to c.args.from c.args.until in
    let desk : kept_of c.delegate.new.self ≡ entered c.args.stamp who (entry_of e act) e.desk = (c.in-Ok.ensures.entry scheme (site_of e)) in
    let answer : answer_of e act ≡ Made c.in-Ok.bytes = (c.in-Ok.ensures.answer scheme (site_of e)) in
    let procs : map process_of c.delegated_at.new.procs.items ≡ at c.args.index (delegated_proc c.args.category c.args.host c.args.reg c.in-Ok.bytes) e.procs = c.delegated_at.ensures ∙ ap (at c.args.index (delegated_proc c.args.category c.args.host c.args.reg c.in-Ok.bytes)) c.in_ok-reserve_proc.ensures.same in
    let below = rw (← c.self.view_is) at c.requires.later in
    rw (desk, procs, ← c.self.view_is) (stepped_done e c.args.index c.args.stamp who act c.args.reg c.args.host (delegated_proc c.args.category c.args.host c.args.reg c.in-Ok.bytes) within c.self.invariant (λ x h. ends_delegated e c.args.index c.args.stamp who (λ y k. free y k) c.args.category c.args.to c.args.from c.args.until c.args.reg c.args.host c.in-Ok.bytes answer x h)
    refl (λ x h. asks x h) below (subst (λ (k : DeskView). last_of_desk k ≤ c.args.stamp) desk c.in-Ok.ensures.last))

pub invariant_of-self-in-Err-Refused : goal.invariant_of-self-in-Err-Refused
invariant_of-self-in-Err-Refused g c =
    let e = state_of c.self.inside.parts in
    let within = rw (← c.self.view_is) at c.requires.there in
    let free = rw (← c.self.view_is) at c.requires.free in
    let asks = rw (← c.self.view_is) at c.requires.asks in
    let who : Actor = proc_actor c.self.inside.parts.host c.args.index in
    let act : Act = Delegating c.args.category c.args.to c.args.from c.args.until in
    let desk : kept_of c.delegate.new.self ≡ entered c.args.stamp who (entry_of e act) e.desk = (rw c.in-Err-Refused.field-0-is at (c.in-Err-Refused.ensures.entry scheme (site_of e))) in
    let answer : answer_of e act ≡ Refuse c.in-Err-Refused.rule = (rw c.in-Err-Refused.field-0-is at (c.in-Err-Refused.ensures.answer scheme (site_of e))) in
    let procs : map process_of c.refused_at.new.procs.items ≡ at c.args.index (refused_proc c.in-Err-Refused.rule) e.procs = subst (λ (rule : Rule). map process_of c.refused_at.new.procs.items ≡ at c.args.index (refused_proc rule) (map process_of c.reserve_proc.new.procs.items)) c.in-Err-Refused.rule-is c.refused_at.ensures ∙ ap (at c.args.index (refused_proc c.in-Err-Refused.rule)) c.in_ok-reserve_proc.ensures.same in
    rw (desk, procs) (fits_done e c.args.index c.args.stamp who act c.args.reg c.args.host (refused_proc c.in-Err-Refused.rule) within c.self.invariant (λ x h. ends_refused e c.args.index c.args.stamp who (λ y k. free y k) act c.args.reg c.args.host c.in-Err-Refused.rule answer x h) (subst IsReplay desk c.in-Err-Refused.ensures.kept))

pub returns-in-Err-Refused-clause-ok : goal.returns-in-Err-Refused-clause-ok
returns-in-Err-Refused-clause-ok g c =
    let e = state_of c.self.inside.parts in
    let within = rw (← c.self.view_is) at c.requires.there in
    let free = rw (← c.self.view_is) at c.requires.free in
    let asks = rw (← c.self.view_is) at c.requires.asks in
    let who : Actor = proc_actor c.self.inside.parts.host c.args.index in
    let act : Act = Delegating c.args.category c.args.to c.args.from c.args.until in
    let desk : kept_of c.delegate.new.self ≡ entered c.args.stamp who (entry_of e act) e.desk = (rw c.in-Err-Refused.field-0-is at (c.in-Err-Refused.ensures.entry scheme (site_of e))) in
    let answer : answer_of e act ≡ Refuse c.in-Err-Refused.rule = (rw c.in-Err-Refused.field-0-is at (c.in-Err-Refused.ensures.answer scheme (site_of e))) in
    let procs : map process_of c.refused_at.new.procs.items ≡ at c.args.index (refused_proc c.in-Err-Refused.rule) e.procs = subst (λ (rule : Rule). map process_of c.refused_at.new.procs.items ≡ at c.args.index (refused_proc rule) (map process_of c.reserve_proc.new.procs.items)) c.in-Err-Refused.rule-is c.refused_at.ensures ∙ ap (at c.args.index (refused_proc c.in-Err-Refused.rule)) c.in_ok-reserve_proc.ensures.same in
    let below = rw (← c.self.view_is) at c.requires.later in
    rw (desk, procs, ← c.self.view_is) (stepped_done e c.args.index c.args.stamp who act c.args.reg c.args.host (refused_proc c.in-Err-Refused.rule) within c.self.invariant (λ x h. ends_refused e c.args.index c.args.stamp who (λ y k. free y k) act c.args.reg c.args.host c.in-Err-Refused.rule answer x h)
    refl (λ x h. asks x h) below (subst (λ (k : DeskView). last_of_desk k ≤ c.args.stamp) desk c.in-Err-Refused.ensures.last))

pub invariant_of-self-in-Err-KeeperFault : goal.invariant_of-self-in-Err-KeeperFault
invariant_of-self-in-Err-KeeperFault g c =
    let desk : kept_of c.delegate.new.self ≡ kept_of c.self.inside.parts.desk = rw c.in-Err-KeeperFault.field-0-is at (c.in-Err-KeeperFault.ensures.entry scheme (site_of (state_of c.self.inside.parts))) in
    rw (desk, c.in_ok-reserve_proc.ensures.same) c.self.invariant

pub returns-in-Err-KeeperFault-clause-err : goal.returns-in-Err-KeeperFault-clause-err
returns-in-Err-KeeperFault-clause-err g c =
    let desk : kept_of c.delegate.new.self ≡ kept_of c.self.inside.parts.desk = rw c.in-Err-KeeperFault.field-0-is at (c.in-Err-KeeperFault.ensures.entry scheme (site_of (state_of c.self.inside.parts))) in
    rw (desk, c.in_ok-reserve_proc.ensures.same) c.self.view_is

pub invariant_of-self-in-Err-NoMemory : goal.invariant_of-self-in-Err-NoMemory
invariant_of-self-in-Err-NoMemory g c =
    let desk : kept_of c.delegate.new.self ≡ kept_of c.self.inside.parts.desk = rw c.in-Err-NoMemory.field-0-is at (c.in-Err-NoMemory.ensures.entry scheme (site_of (state_of c.self.inside.parts))) in
    rw (desk, c.in_ok-reserve_proc.ensures.same) c.self.invariant

pub returns-in-Err-NoMemory-clause-err : goal.returns-in-Err-NoMemory-clause-err
returns-in-Err-NoMemory-clause-err g c =
    let desk : kept_of c.delegate.new.self ≡ kept_of c.self.inside.parts.desk = rw c.in-Err-NoMemory.field-0-is at (c.in-Err-NoMemory.ensures.entry scheme (site_of (state_of c.self.inside.parts))) in
    rw (desk, c.in_ok-reserve_proc.ensures.same) c.self.view_is

pub returns-in-Ok-clause-raised : goal.returns-in-Ok-clause-raised
returns-in-Ok-clause-raised g c =
    let e = state_of c.self.inside.parts in
    let who : Actor = proc_actor c.self.inside.parts.host c.args.index in
    let act : Act = Delegating c.args.category c.args.to c.args.from c.args.until in
    let desk : kept_of c.delegate.new.self ≡ entered c.args.stamp who (entry_of e act) e.desk = c.in-Ok.ensures.entry scheme (site_of e) in
    let answer : answer_of e act ≡ Made c.in-Ok.bytes = c.in-Ok.ensures.answer scheme (site_of e) in
    let leaf = ap (λ (k : DeskView). k.desk.leaf) desk ∙ leaf_made e c.args.stamp who c.args.category c.args.to c.args.from c.args.until c.in-Ok.bytes answer in
    rw (← c.self.view_is) (inr (leaf, c.in-Ok.ensures.raised))

pub returns-in-Err-Refused-clause-raised : goal.returns-in-Err-Refused-clause-raised
returns-in-Err-Refused-clause-raised g c =
    let e = state_of c.self.inside.parts in
    let who : Actor = proc_actor c.self.inside.parts.host c.args.index in
    let act : Act = Delegating c.args.category c.args.to c.args.from c.args.until in
    let desk : kept_of c.delegate.new.self ≡ entered c.args.stamp who (entry_of e act) e.desk = (rw c.in-Err-Refused.field-0-is at (c.in-Err-Refused.ensures.entry scheme (site_of e))) in
    let answer : answer_of e act ≡ Refuse c.in-Err-Refused.rule = (rw c.in-Err-Refused.field-0-is at (c.in-Err-Refused.ensures.answer scheme (site_of e))) in
    let leaf = ap (λ (k : DeskView). k.desk.leaf) desk ∙ leaf_refused e c.args.stamp who c.args.category c.args.to c.args.from c.args.until c.in-Err-Refused.rule answer in
    let other : (fault : DeskFault) → fault ≡ Refused c.in-Err-Refused.rule → fault ≡ KeeperFault → ⊥ = λ fault is q. not_keeper c.in-Err-Refused.rule (sym is ∙ q) in
    rw (← c.self.view_is) (inl (leaf, c.in-Err-Refused.ensures.untouched (λ q. other c.in-Err-Refused.field-0 c.in-Err-Refused.field-0-is q)))
  where
    not_keeper : (rule : Rule) → Refused rule ≡ KeeperFault → ⊥
    not_keeper rule q = cc
