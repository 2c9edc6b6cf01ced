use Rattle.std.proofs.Common.{refl, ap, arith}
use Rattle.std.proofs.lemmas.Bool.Decides.{nat_tests}
use Rattle.ds_world.specs.Makings.{schedule_of}
use Rattle.ds_world.specs.Worlds.{WorldState, world_of}
use Rattle.ds_setup.specs.Events.{meant}
use Rattle.ds_world.proofs.Trying.{kept_event, still_event}
use Rattle.ds_world.proofs.Hands.{goes_event, goes_self}
use Rattle.ds_world.proofs.scheduling.attempt.Goals as goal

pub returns-in-Still-clause-made : goal.returns-in-Still-clause-made
returns-in-Still-clause-made c =
    still_event c.args.world.now.doc (meant c.args.event) (schedule_of c.args.world.now c.args.making.now) (world_of c.try_event.new.self)
    (rw c.in-Still.is at c.in_ok-try_event.ensures.ok).moves

pub returns-in_ok-keep-in-Changed-clause-made : goal.returns-in_ok-keep-in-Changed-clause-made
returns-in_ok-keep-in-Changed-clause-made c = kept_event c.args.world.now.doc (world_of c.args.world.now) (world_of c.try_event.new.self) c.args.making.now.events c.keep.new.making.events c.args.event c.args.making.now.left c.keep.new.making.left
    (rw c.in-Changed.is at c.in_ok-try_event.ensures.ok).moves (grind (arith, nat_tests, c.if-making-eq0.false)) c.in_ok-keep-in-Changed.ensures.events c.in_ok-keep-in-Changed.ensures.left

pub returns-then-making-eq0-clause-goes : goal.returns-then-making-eq0-clause-goes
returns-then-making-eq0-clause-goes c = goes_self c.args.world.now c.args.world.now c.args.making.now c.args.making.now refl refl refl

pub returns-in-Still-clause-goes : goal.returns-in-Still-clause-goes
returns-in-Still-clause-goes c =
    let same = (rw c.in-Still.is at c.in_ok-try_event.ensures.ok).still refl in
    goes_self c.args.world.now c.try_event.new.self c.args.making.now c.args.making.now refl (ap world_of same) (ap (λ (w : WorldState). w.count) same)

pub returns-in_ok-keep-in-Changed-clause-goes : goal.returns-in_ok-keep-in-Changed-clause-goes
returns-in_ok-keep-in-Changed-clause-goes c =
    let after = rw c.in-Changed.is at c.in_ok-try_event.ensures.ok in
    goes_event c.args.world.now c.try_event.new.self c.args.making.now c.keep.new.making c.args.event c.in_ok-keep-in-Changed.ensures.events after.moves.0 (after.changed refl) c.hands.ensures
