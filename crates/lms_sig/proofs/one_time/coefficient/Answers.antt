use Rattle.std.proofs.Common.{◌≡◌, ◌/◌, ◌%◌, arith}
use Rattle.lms_sig.proofs.Digits.{coef_byte, coef_high, coef_low}
use Rattle.lms_sig.proofs.one_time.coefficient.Goals as goal

pub returns-then-i-eq0-clause-value : goal.returns-then-i-eq0-clause-value
returns-then-i-eq0-clause-value c =
    rw c.in-W4.is (coef_high c.args.bytes.now c.args.i c.if-i-eq0.true (omega (arith, c.type_inv.bytes (c.args.i / 2))))

pub returns-else-i-eq0-clause-value : goal.returns-else-i-eq0-clause-value
returns-else-i-eq0-clause-value c =
    let odd : c.args.i % 2 ≡ 1 = omega arith in
    rw c.in-W4.is (coef_low c.args.bytes.now c.args.i odd)

pub returns-in-W8-clause-value : goal.returns-in-W8-clause-value
returns-in-W8-clause-value c =
    rw c.in-W8.is (coef_byte c.args.bytes.now c.args.i (omega (arith, c.type_inv.bytes c.args.i)))
