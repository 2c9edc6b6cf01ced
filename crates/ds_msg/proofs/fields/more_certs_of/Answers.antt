use Rattle.std.proofs.Common.{◌≡◌, ◌++◌, ◌∷◌, [], length-append, arith}
use Rattle.std.proofs.lemmas.Result.{err_from_is_err_and}
use Rattle.ds_msg.specs.Reading.{more_certs_at}
use Rattle.ds_msg.proofs.Loops.{goes_on, stops, is_done}
use Rattle.ds_msg.proofs.fields.more_certs_of.Goals as goal

pub returns-in_err-cert : goal.returns-in_err-cert
returns-in_err-cert c =
    let p = err_from_is_err_and c.from_residual.result c.from_residual.ensures.1 in
    rw (p.1, p.2) (stops c.in_err-cert.field-0.0 c.loop.certs c.args.count c.loop.counter c.loop.rest.now (more_certs_at c.args.count [] c.args.bytes.now) c.loop-test.true c.in_err-cert.ensures c.loop.invariant.1)

pub loop-preserved : goal.loop-preserved
loop-preserved c =
    let pushed : c.push.new.self ≡ c.loop.certs ++ c.in_ok-cert.cert ∷ [] = c.in_ok-push.ensures.ok in
    rw pushed (
      omega (arith, length-append c.loop.certs (c.in_ok-cert.cert ∷ []), c.loop.invariant.0),
      goes_on c.loop.certs c.args.count c.loop.counter c.loop.rest.now c.in_ok-cert.cert c.in_ok-cert.after.now (more_certs_at c.args.count [] c.args.bytes.now) c.loop-test.true c.in_ok-cert.ensures c.loop.invariant.1,
    )

pub returns : goal.returns
returns c = is_done c.loop.certs c.args.count c.loop.counter c.loop.rest.now (more_certs_at c.args.count [] c.args.bytes.now) c.loop-test.false c.loop.invariant.1
