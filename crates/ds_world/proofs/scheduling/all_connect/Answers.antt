use Rattle.std.proofs.Common.{◌≡◌, ◌∙◌, suc, sym, ◌+◌, ℕ, ap, arith, refl}
use Rattle.ds_model.specs.Schedule.{Schedule}
use Rattle.ds_plan.specs.declared.doc.Doc.{Doc}
use Rattle.ds_world.specs.Makings.{connects, connects_all, schedule_of}
use Rattle.ds_world.proofs.Hands.{goes_more, goes_self}
use Rattle.ds_world.proofs.scheduling.all_connect.Goals as goal

pub loop-conn-preserved : goal.loop-conn-preserved
loop-conn-preserved c =
    let e : c.loop-conn.conn + 1 ≡ suc c.loop-conn.conn = omega arith in
    let d : Doc = c.args.world.now.doc in
    let start : Schedule = schedule_of c.args.world.now c.args.making.now in
    let sch : Schedule = schedule_of c.loop-conn.world c.loop-conn.making in
    let next : Schedule = schedule_of c.connect.new.world c.connect.new.making in
    record {
      made = c.in_ok-connect.ensures.made ∙ ((λ i. connects (c.loop-conn.invariant.doc i) c.args.budget c.loop-conn.conn (c.loop-conn.invariant.made i)) ∙ ap (λ (n : ℕ). connects_all d c.args.budget n start) (sym e));
      room = c.in_ok-connect.ensures.room;
      goes = goes_more c.args.world.now c.loop-conn.world c.connect.new.world c.args.making.now c.loop-conn.making c.connect.new.making c.loop-conn.invariant.doc c.loop-conn.invariant.goes c.in_ok-connect.ensures.goes;
      doc = c.connect.ensures.doc ∙ c.loop-conn.invariant.doc;
    }

pub loop-conn-init : goal.loop-conn-init
loop-conn-init c = record {
  made = refl;
  room = c.requires.room;
  goes = goes_self c.args.world.now c.args.world.now c.args.making.now c.args.making.now refl refl refl;
  doc = refl;
}
