use Rattle.std.proofs.Common.{◌≡◌, None, Some, slice_get, sym, subst}
use Rattle.ds_exporter.specs.HostStates.{HostProcess, HostState}
use Rattle.ds_exporter.proofs.QueueSteps.{empty_hand}
use Rattle.ds_exporter.specs.Entering.{Enters, step_access}
use Rattle.ds_exporter.specs.Stepping.{proc_actor}
use Rattle.ds_exporter.proofs.Entering.{steps_enter}
use Rattle.ds_exporter.proofs.exporter.Exporter.step.Goals as goal

pub step_inside-requires-clause-free : goal.step_inside-requires-clause-free
step_inside-requires-clause-free g c = rw (← c.self.view_is) (λ x h. empty_hand x.hand c.has_hand.result (c.has_hand.ensures.hand x h) c.if-has_hand.false)

pub step_outside-requires-clause-free : goal.step_outside-requires-clause-free
step_outside-requires-clause-free g c =
    let free : (x : HostProcess) → slice_get c.args.self.now.procs c.args.index ≡ Some x → x.hand ≡ None
    = rw (← c.self.view_is) (λ x h. empty_hand x.hand c.has_hand.result (c.has_hand.ensures.hand x h) c.if-has_hand.false) in
    subst (λ (s : HostState). (x : HostProcess) → slice_get s.procs c.args.index ≡ Some x → x.hand ≡ None) (sym (c.in_ok-moved-2.ensures.outer c.in_default.is).0) free

pub returns-then-has_hand-clause-entered : goal.returns-then-has_hand-clause-entered
returns-then-has_hand-clause-entered g c = steps_enter c.in_ok-moved.moved c.args.stamp c.args.index c.args.self.now c.queue.new.self c.in_ok-moved.ensures.ok

pub returns-clause-entered : goal.returns-clause-entered
returns-clause-entered g c =
    subst (λ (s : HostState). Enters c.args.stamp (proc_actor s.host c.args.index) (step_access c.args.index s) s c.step_outside.new.self) (c.in_ok-moved-2.ensures.outer c.in_default.is).0
    (steps_enter c.in_ok-moved-3.moved c.args.stamp c.args.index c.step_inside.new.self c.step_outside.new.self c.in_ok-moved-3.ensures.ok)
