use Rattle.std.proofs.Common.{◌≡◌, map, ap, ◌∙◌}
use Rattle.ds_model.specs.Lists.{at}
use Rattle.ds_exporter.specs.HostStates.{process_of, state_of}
use Rattle.ds_exporter.specs.Stepping.{refused_proc}
use Rattle.ds_exporter.proofs.OneStep.{fits_refused, stepped_refused}
use Rattle.ds_exporter.proofs.exporter.Exporter.refuse_operation.Goals as goal

pub invariant_of-self-2 : goal.invariant_of-self-2
invariant_of-self-2 c =
    let e = state_of c.self.inside.parts in
    let within = rw (← c.self.view_is) at c.requires.there in
    let free = rw (← c.self.view_is) at c.requires.free in
    let procs : map process_of c.refused_at.new.procs.items ≡ at c.args.place (refused_proc c.args.rule) e.procs = c.refused_at.ensures ∙ ap (at c.args.place (refused_proc c.args.rule)) c.in_ok-reserve_proc.ensures.same in
    rw procs (fits_refused e c.args.place c.args.rule within (λ x h. free x h) c.self.invariant)

pub returns-clause-ok : goal.returns-clause-ok
returns-clause-ok c =
    let e = state_of c.self.inside.parts in
    let within = rw (← c.self.view_is) at c.requires.there in
    let free = rw (← c.self.view_is) at c.requires.free in
    let asks = rw (← c.self.view_is) at c.requires.asks in
    let procs : map process_of c.refused_at.new.procs.items ≡ at c.args.place (refused_proc c.args.rule) e.procs = c.refused_at.ensures ∙ ap (at c.args.place (refused_proc c.args.rule)) c.in_ok-reserve_proc.ensures.same in
    rw (procs, ← c.self.view_is) (λ stamp below. stepped_refused e c.args.place c.args.rule within (λ x h. free x h) (λ x h. asks x h) stamp below)
