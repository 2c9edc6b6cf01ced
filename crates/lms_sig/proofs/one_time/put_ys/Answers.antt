use Rattle.std.proofs.Common.{◌≡◌, ◌-◌, ◌<◌, [], List, ℕ, arith, refl, slice_index, slice_index_or}
use Rattle.lms_sig.specs.OneTime.{digit, y}
use Rattle.lms_sig.specs.Parameters.{digit_count}
use Rattle.lms_sig.proofs.Chains.{joined-grows, joined-starts}
use Rattle.lms_sig.proofs.Eights.{digit_count-le, zero_at}
use Rattle.lms_sig.proofs.one_time.put_ys.Goals as goal

pub ends-ends-requires : goal.ends-ends-requires
ends-ends-requires c i below = omega (arith, zero_at 72 i)

pub chains-init : goal.chains-init
chains-init c =
    joined-starts (λ (xs : List ℕ). c.args.out.now.items ≡ xs) c.args.out.now.items
    (y c.args.ots c.args.seed.now c.args.id.now c.args.q c.args.hash.now) refl

pub chains-preserved : goal.chains-preserved
unfolding digit y
chains-preserved c =
    let i = c.chains.i in
    let inside : i < digit_count c.args.ots = omega arith in
    let room : i < 72 = omega (arith, digit_count-le c.args.ots) in
    let whole = c.ends-ends.ensures i room in
    let taken : slice_index c.digits_of.result i ≡ digit c.args.ots c.args.hash.now i =
    rw c.with_checksum-digits.ensures at (c.digits_of.ensures.each i inside) in
    let count : slice_index c.digits_of.result i - 0 ≡ digit c.args.ots c.args.hash.now i = omega (arith, taken) in
    let same : slice_index_or c.ends-ends.result i [] ≡ y c.args.ots c.args.seed.now c.args.id.now c.args.q c.args.hash.now i =
    rw (zero_at 72 i, count, c.secrets.ensures i room) at whole in
    joined-grows (λ (xs : List ℕ). c.extend_from_slice.new.self.items ≡ xs) c.args.out.now.items
    (y c.args.ots c.args.seed.now c.args.id.now c.args.q c.args.hash.now) i _ same
    (rw c.chains.invariant at c.in_ok-extend_from_slice.ensures.items)

pub returns : goal.returns
returns c =
    let all : c.chains.i ≡ digit_count c.args.ots = omega arith in
    rw all at c.chains.invariant
