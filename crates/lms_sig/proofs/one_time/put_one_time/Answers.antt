use Rattle.std.proofs.Common.{append_assoc}
use Rattle.lms_sig.specs.OneTime.{ots_signature}
use Rattle.lms_sig.proofs.one_time.put_one_time.Goals as goal

pub returns : goal.returns
unfolding ots_signature
returns c =
    let code = rw (c.u32_bytes.ensures, c.code.ensures) at c.in_ok-extend_from_slice.ensures.items in
    let random = rw (code, c.randomiser-random.ensures) at c.in_ok-extend_from_slice-2.ensures.items in
    let ys = rw (random, c.message_hash-hash.ensures, c.randomiser-random.ensures) at c.in_ok-put_ys.ensures in
    simp append_assoc (simp append_assoc at ys)
