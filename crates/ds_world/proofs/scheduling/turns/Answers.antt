use Rattle.std.proofs.Common.{◌≡◌, ◌∙◌, length, ap, arith, refl, ◌-◌}
use Rattle.std.specs.Prelude.{◌≢◌}
use Rattle.std.proofs.lemmas.Bool.Decides.{nat_tests}
use Rattle.ds_plan.specs.declared.doc.Doc.{Doc}
use Rattle.ds_world.specs.Makings.{schedule_of, takes_turns}
use Rattle.ds_world.proofs.Loops.{are_turns, one_turn, part_ends, part_goes}
use Rattle.ds_world.proofs.Hands.{goes_more, goes_self}
use Rattle.ds_world.proofs.scheduling.turns.Goals as goal

pub returns-then-len-before-clause-made : goal.returns-then-len-before-clause-made
returns-then-len-before-clause-made c =
    let d : Doc = c.args.world.now.doc in
    let same : length c.turn.new.making.events ≡ length c.loop.making.events = grind (arith, nat_tests, c.if-len-before.true, c.len.ensures, c.len-before.ensures) in
    part_ends (takes_turns d c.args.conn c.args.budget) (one_turn d c.args.conn c.args.budget) (are_turns d c.args.conn c.args.budget (omega (arith, c.loop-test.true))) c.args.budget c.loop.counter c.loop.world c.turn.new.world c.loop.making c.turn.new.making
    (takes_turns d c.args.conn c.args.budget c.args.budget (schedule_of c.args.world.now c.args.making.now)) c.loop-test.true
    (c.in_ok-turn.ensures.made ∙ ap (λ (x : Doc). one_turn x c.args.conn c.args.budget (schedule_of c.loop.world c.loop.making)) c.loop.invariant.doc) same c.loop.invariant.made

pub loop-preserved : goal.loop-preserved
loop-preserved c =
    let d : Doc = c.args.world.now.doc in
    let differ : length c.turn.new.making.events ≢ length c.loop.making.events = grind (arith, nat_tests, c.if-len-before.false, c.len.ensures, c.len-before.ensures) in
    record {
      made = part_goes (takes_turns d c.args.conn c.args.budget) (one_turn d c.args.conn c.args.budget) (are_turns d c.args.conn c.args.budget (omega (arith, c.loop-test.true))) c.args.budget c.loop.counter c.loop.world c.turn.new.world c.loop.making c.turn.new.making
          (takes_turns d c.args.conn c.args.budget c.args.budget (schedule_of c.args.world.now c.args.making.now)) c.loop-test.true
          (c.in_ok-turn.ensures.made ∙ ap (λ (x : Doc). one_turn x c.args.conn c.args.budget (schedule_of c.loop.world c.loop.making)) c.loop.invariant.doc) differ c.loop.invariant.made;
      room = c.in_ok-turn.ensures.room;
      goes = goes_more c.args.world.now c.loop.world c.turn.new.world c.args.making.now c.loop.making c.turn.new.making c.loop.invariant.doc c.loop.invariant.goes c.in_ok-turn.ensures.goes;
      doc = c.turn.ensures.doc ∙ c.loop.invariant.doc;
    }

pub loop-init : goal.loop-init
loop-init c = record {
  made = let e : c.args.budget - 0 ≡ c.args.budget = omega arith in ap (λ n. takes_turns c.args.world.now.doc c.args.conn c.args.budget n (schedule_of c.args.world.now c.args.making.now)) e;
  room = c.requires.room;
  goes = goes_self c.args.world.now c.args.world.now c.args.making.now c.args.making.now refl refl refl;
  doc = refl;
}

pub returns-then-len-before-clause-goes : goal.returns-then-len-before-clause-goes
returns-then-len-before-clause-goes c = goes_more c.args.world.now c.loop.world c.turn.new.world c.args.making.now c.loop.making c.turn.new.making c.loop.invariant.doc c.loop.invariant.goes c.in_ok-turn.ensures.goes
