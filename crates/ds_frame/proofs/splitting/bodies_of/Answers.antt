use Rattle.std.proofs.Common.{◌≡◌, ◌++◌, ◌∷◌, [], length-append, arith}
use Rattle.ds_frame.specs.Bodies.{bodies_at}
use Rattle.ds_frame.proofs.BodyLaws.{goes_on, stops, is_done}
use Rattle.ds_frame.proofs.splitting.bodies_of.Goals as goal

pub returns-in_default : goal.returns-in_default
returns-in_default c = stops c.loop.bodies c.args.messages c.loop.counter c.loop.rest.now (bodies_at c.args.messages [] c.args.bytes.now) c.loop-test.true c.in_default.ensures c.loop.invariant.1

pub loop-preserved : goal.loop-preserved
loop-preserved c =
    let copied : c.in_ok-from_slice.field-0 ≡ c.in-Some.body.now = c.in_ok-from_slice.ensures in
    let pushed : c.push.new.self ≡ c.loop.bodies ++ c.in_ok-from_slice.field-0 ∷ [] = c.in_ok-push.ensures.ok in
    rw (pushed, copied) (
      omega (arith, length-append c.loop.bodies (c.in-Some.body.now ∷ []), c.loop.invariant.0),
      goes_on c.loop.bodies c.args.messages c.loop.counter c.loop.rest.now c.in-Some.body.now c.in-Some.after.now (bodies_at c.args.messages [] c.args.bytes.now) c.loop-test.true c.in-Some.ensures c.loop.invariant.1,
    )

pub returns : goal.returns
returns c = is_done c.loop.bodies c.args.messages c.loop.counter c.loop.rest.now (bodies_at c.args.messages [] c.args.bytes.now) c.loop-test.false c.loop.invariant.1
