use Rattle.std.proofs.Common.{◌≡◌, ◌∙◌, length, ap, arith, refl}
use Rattle.std.specs.Prelude.{◌≢◌}
use Rattle.std.proofs.lemmas.Bool.Decides.{nat_tests}
use Rattle.ds_model.specs.Step.{Deliver}
use Rattle.ds_plan.specs.declared.doc.Doc.{Doc}
use Rattle.ds_world.specs.Makings.{delivers, schedule_of, tries}
use Rattle.ds_world.proofs.Loops.{begins, are_deliveries, part_ends, part_goes}
use Rattle.ds_world.proofs.Hands.{goes_more, goes_self}
use Rattle.ds_world.proofs.scheduling.deliveries.Goals as goal

pub returns-then-len-before-clause-made : goal.returns-then-len-before-clause-made
returns-then-len-before-clause-made c =
    let d : Doc = c.args.world.now.doc in
    let same : length c.attempt.new.making.events ≡ length c.loop.making.events = grind (arith, nat_tests, c.if-len-before.true, c.len.ensures, c.len-before.ensures) in
    part_ends (delivers d c.args.conn) (tries d (Deliver c.args.conn)) (are_deliveries d c.args.conn) c.args.most c.loop.counter c.loop.world c.attempt.new.world c.loop.making c.attempt.new.making
    (delivers d c.args.conn c.args.most (schedule_of c.args.world.now c.args.making.now)) c.loop-test.true
    (c.in_ok-attempt.ensures.made ∙ ap (λ (x : Doc). tries x (Deliver c.args.conn) (schedule_of c.loop.world c.loop.making)) c.loop.invariant.doc) same c.loop.invariant.made

pub loop-preserved : goal.loop-preserved
loop-preserved c =
    let d : Doc = c.args.world.now.doc in
    let differ : length c.attempt.new.making.events ≢ length c.loop.making.events = grind (arith, nat_tests, c.if-len-before.false, c.len.ensures, c.len-before.ensures) in
    record {
      made = part_goes (delivers d c.args.conn) (tries d (Deliver c.args.conn)) (are_deliveries d c.args.conn) c.args.most c.loop.counter c.loop.world c.attempt.new.world c.loop.making c.attempt.new.making
          (delivers d c.args.conn c.args.most (schedule_of c.args.world.now c.args.making.now)) c.loop-test.true
          (c.in_ok-attempt.ensures.made ∙ ap (λ (x : Doc). tries x (Deliver c.args.conn) (schedule_of c.loop.world c.loop.making)) c.loop.invariant.doc) differ c.loop.invariant.made;
      room = c.in_ok-attempt.ensures.room;
      goes = goes_more c.args.world.now c.loop.world c.attempt.new.world c.args.making.now c.loop.making c.attempt.new.making c.loop.invariant.doc c.loop.invariant.goes c.in_ok-attempt.ensures.goes;
      doc = c.attempt.ensures.doc ∙ c.loop.invariant.doc;
    }

pub loop-init : goal.loop-init
loop-init c = record {
  made = begins (delivers c.args.world.now.doc c.args.conn) (tries c.args.world.now.doc (Deliver c.args.conn)) (are_deliveries c.args.world.now.doc c.args.conn) c.args.most (schedule_of c.args.world.now c.args.making.now);
  room = c.requires.room;
  goes = goes_self c.args.world.now c.args.world.now c.args.making.now c.args.making.now refl refl refl;
  doc = refl;
}

pub returns-then-len-before-clause-goes : goal.returns-then-len-before-clause-goes
returns-then-len-before-clause-goes c = goes_more c.args.world.now c.loop.world c.attempt.new.world c.args.making.now c.loop.making c.attempt.new.making c.loop.invariant.doc c.loop.invariant.goes c.in_ok-attempt.ensures.goes
