use Rattle.std.proofs.Common.{◌≡◌, ◌≤◌, ◌*◌, refl, ap, ◌∙◌, arith}
use Rattle.lms_sig.specs.OneTime.{Cksm, missing}
use Rattle.lms_sig.specs.Parameters.{chain_length}
use Rattle.lms_sig.specs.declared.params.OtsType.TheVariants.{W4, W8}
use Rattle.lms_sig.proofs.Digits.{chain_length-bound, hash_digits-bound, missing-bound, missing-more}
use Rattle.lms_sig.proofs.one_time.checksum.Goals as goal

pub digits-init : goal.digits-init
unfolding missing
digits-init c = refl

pub overflow_add-sum : goal.overflow_add-sum
overflow_add-sum c =
    omega (
      arith,
      c.digits.invariant,
      chain_length-bound c.args.ots,
      hash_digits-bound c.args.ots,
      missing-bound c.args.ots c.args.hash.now c.digits.i 255 (chain_length-bound c.args.ots),
    )

pub digits-preserved : goal.digits-preserved
digits-preserved c =
    rw (
      missing-more c.args.ots c.args.hash.now c.digits.i,
      ← c.chain_length-top.ensures,
      ← c.coefficient.ensures.value,
      ← c.digits.invariant,
    ) refl

pub overflow_mul-result : goal.overflow_mul-result
overflow_mul-result c =
    let top : chain_length c.args.ots ≤ 15 = rw c.in-W4.is (omega arith) in
    omega (
      arith,
      c.digits.invariant,
      hash_digits-bound c.args.ots,
      missing-bound c.args.ots c.args.hash.now c.digits.i 15 top,
    )

pub returns-in-W4 : goal.returns-in-W4
unfolding Cksm
returns-in-W4 c =
    let end : c.hash_digits-i-end.result ≡ 64 = rw c.in-W4.is at c.hash_digits-i-end.ensures in
    let all : c.digits.i ≡ 64 = omega arith in
    let sum : c.digits.sum ≡ missing W4 c.args.hash.now 64 = rw (c.in-W4.is, all) at c.digits.invariant in
    rw c.in-W4.is (ap (λ n. n * 16) sum)

pub returns-in-W8 : goal.returns-in-W8
unfolding Cksm
returns-in-W8 c =
    let end : c.hash_digits-i-end.result ≡ 32 = rw c.in-W8.is at c.hash_digits-i-end.ensures in
    let all : c.digits.i ≡ 32 = omega arith in
    let sum : c.digits.sum ≡ missing W8 c.args.hash.now 32 = rw (c.in-W8.is, all) at c.digits.invariant in
    rw c.in-W8.is (sum ∙ omega arith)
