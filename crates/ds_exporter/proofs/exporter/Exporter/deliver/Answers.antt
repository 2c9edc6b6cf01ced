use Rattle.std.proofs.Common.{◌≡◌, [], Some, None, slice_get, refl, subst}
use Rattle.ds_inlet.specs.Connections.{Connection}
use Rattle.ds_exporter.specs.Entering.{deliver_access}
use Rattle.ds_exporter.specs.HostStates.{HostState, state_of}
use Rattle.ds_exporter.specs.PlainHosts.{ends_of}
use Rattle.ds_exporter.proofs.DeliverPuts.{delivered, not_passed, nothing_delivered, nothing_touched, some_left}
use Rattle.ds_exporter.proofs.Entering.{enters_same}
use Rattle.ds_exporter.proofs.exporter.Exporter.deliver.Goals as goal

pub returns-then-has_empty_hand-clause-ok : goal.returns-then-has_empty_hand-clause-ok
returns-then-has_empty_hand-clause-ok c =
    let within = rw (← c.self.view_is) at c.requires.there in
    λ link. (
      subst (λ (s : HostState). ends_of link c.args.conn s ≡ delivered s c.args.conn link) c.self.view_is
          (nothing_delivered (state_of c.self.inside.parts) c.args.conn link within
          (λ k h. ((c.has_empty_hand.ensures k h).0 c.if-has_empty_hand.true, not_passed k.passed c.has_passed.result (c.has_passed.ensures k h) c.if-has_passed.false))),
      (λ still. refl, λ same. refl),
    )

pub judge-requires-clause-ready : goal.judge-requires-clause-ready
judge-requires-clause-ready c =
    rw (← c.self.view_is)
    (λ k h. (not_passed k.passed c.has_passed.result (c.has_passed.ensures k h) c.if-has_passed.false, some_left k.hand c.has_empty_hand.result (c.has_empty_hand.ensures k h) c.if-has_empty_hand.false))

pub returns-then-has_empty_hand-clause-entered : goal.returns-then-has_empty_hand-clause-entered
returns-then-has_empty_hand-clause-entered c =
    let e = c.args.self.now in
    let free : (k : Connection) → slice_get e.conns c.args.conn ≡ Some k → (k.hand ≡ []) × (k.passed ≡ None)
    = rw (← c.self.view_is) (λ k h. ((c.has_empty_hand.ensures k h).0 c.if-has_empty_hand.true, not_passed k.passed c.has_passed.result (c.has_passed.ensures k h) c.if-has_passed.false)) in
    λ link k h. enters_same c.args.stamp k.who (deliver_access link c.args.conn e) e e (nothing_touched e c.args.conn link k h (free k h)) refl
