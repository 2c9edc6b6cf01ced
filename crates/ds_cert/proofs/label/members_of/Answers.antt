use Rattle.std.proofs.Common.{◌≡◌, ◌++◌, ◌∷◌, [], true, false, None, length-append, arith}
use Rattle.std.proofs.lemmas.Result.{err_from_is_err_and}
use Rattle.ds_label.specs.Flow.{is_above, last_of}
use Rattle.ds_label.specs.Names.{by_name}
use Rattle.ds_cert.specs.Reading.{members_at}
use Rattle.ds_cert.proofs.Loops.{goes_on, stops, falls, is_done}
use Rattle.ds_cert.proofs.label.members_of.Goals as goal

pub returns-in_err-member : goal.returns-in_err-member
returns-in_err-member c =
    let p = err_from_is_err_and c.from_residual.result c.from_residual.ensures.1 in
    rw (p.1, p.2) (stops c.in_err-member.field-0.0 c.loop.label c.args.count c.loop.counter c.loop.rest.now (members_at c.args.count None c.args.bytes.now) c.loop-test.true c.in_err-member.ensures c.loop.invariant.1)

pub returns-then-not-goes_last : goal.returns-then-not-goes_last
returns-then-not-goes_last c =
    let above : is_above by_name c.in_ok-member.member (last_of None c.loop.label) ≡ false = cc (c.goes_last.ensures, c.if-not-goes_last.true) in
    falls c.loop.label c.args.count c.loop.counter c.loop.rest.now c.in_ok-member.member c.in_ok-member.after.now (members_at c.args.count None c.args.bytes.now) c.loop-test.true c.in_ok-member.ensures above c.loop.invariant.1

pub loop-preserved : goal.loop-preserved
loop-preserved c =
    let above : is_above by_name c.in_ok-member.member (last_of None c.loop.label) ≡ true = cc (c.goes_last.ensures, c.if-not-goes_last.false) in
    let pushed : c.push_last.new.self ≡ c.loop.label ++ c.in_ok-member.member ∷ [] = c.in_ok-push_last.ensures.ok in
    rw pushed (
      omega (arith, length-append c.loop.label (c.in_ok-member.member ∷ []), c.loop.invariant.0),
      goes_on c.loop.label c.args.count c.loop.counter c.loop.rest.now c.in_ok-member.member c.in_ok-member.after.now (members_at c.args.count None c.args.bytes.now) c.loop-test.true c.in_ok-member.ensures above c.loop.invariant.1,
    )

pub returns : goal.returns
returns c = is_done c.loop.label c.args.count c.loop.counter c.loop.rest.now (members_at c.args.count None c.args.bytes.now) c.loop-test.false c.loop.invariant.1
