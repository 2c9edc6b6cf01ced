use Rattle.std.proofs.Common.{◌≡◌, ◌<◌, [], arith, drop, inl, inr, slice_index, slice_index_or}
use Rattle.std.proofs.lemmas.Bool.{cases_lt}
use Rattle.sha2.specs.Hashers.{Holds256}
use Rattle.lms_sig.specs.OneTime.{Kc, Q, digit, z}
use Rattle.lms_sig.specs.Parameters.{digit_count}
use Rattle.lms_sig.specs.Strings.{part}
use Rattle.lms_sig.proofs.Chains.{joined-grows, joined-starts}
use Rattle.lms_sig.proofs.Eights.{digit_count-le}
use Rattle.std.proofs.lemmas.List.{take_rest}
use Rattle.lms_sig.proofs.one_time.candidate_key.Goals as goal

pub ends-ends-requires : goal.ends-ends-requires
ends-ends-requires c i below =
    elim (cases_lt i (digit_count c.args.ots)) [
      | inl inside ↦ omega (arith, c.digits_of.ensures.bound i inside, c.tops.ensures.each i inside)
      | inr behind ↦ omega (arith, c.digits_of.ensures.behind i behind, c.tops.ensures.behind i behind)
    ]

pub chains-init : goal.chains-init
chains-init c =
    let hash = Q c.args.id.now c.args.q (part c.args.signature.now 4 32) c.args.message.now in
    joined-starts (Holds256 c.update.new.self) _ (z c.args.ots c.args.id.now c.args.q hash (drop 36 c.args.signature.now))
    (rw c.prefix.ensures at (c.update.ensures [] c.new-hasher.ensures))

pub chains-preserved : goal.chains-preserved
unfolding digit z
chains-preserved c =
    let i = c.chains.i in
    let hash = Q c.args.id.now c.args.q (part c.args.signature.now 4 32) c.args.message.now in
    let inside : i < digit_count c.args.ots = omega arith in
    let room : i < 72 = omega (arith, digit_count-le c.args.ots) in
    let whole = c.ends-ends.ensures i room in
    let taken : slice_index c.digits_of.result i ≡ digit c.args.ots hash i =
    rw (c.with_checksum-digits.ensures, c.message_hash-hash.ensures) at (c.digits_of.ensures.each i inside) in
    let same : slice_index_or c.ends-ends.result i [] ≡ z c.args.ots c.args.id.now c.args.q hash (drop 36 c.args.signature.now) i =
    rw (taken, c.tops.ensures.each i inside, c.values_of.ensures i inside, take_rest c.args.signature.now 36) at whole in
    joined-grows (Holds256 c.update-in-chains.new.self) _
    (z c.args.ots c.args.id.now c.args.q hash (drop 36 c.args.signature.now))
    i _ same (c.update-in-chains.ensures _ c.chains.invariant)

pub returns : goal.returns
unfolding Kc
returns c =
    let all : c.chains.i ≡ digit_count c.args.ots = omega arith in
    rw all at (c.finalize.ensures _ c.chains.invariant)
