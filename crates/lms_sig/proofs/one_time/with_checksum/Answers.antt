use Rattle.std.proofs.Common.{◌≡◌, ap, length, take, arith}
use Rattle.lms_sig.proofs.Pieces.{front_all, front_more}
use Rattle.lms_sig.specs.Strings.{u16str}
use Rattle.lms_sig.proofs.one_time.with_checksum.Goals as goal

pub returns : goal.returns
unfolding u16str
returns c =
    let two : length c.u16_bytes.result ≡ 2 = ap length c.u16_bytes.ensures in
    let hash : take 32 c.put.new.out ≡ c.args.hash.now = rw c.told-hash at c.put.ensures in
    let all = front_more _ c.put-2.new.out _ c.u16_bytes.result 32 34 hash (omega arith) c.put-2.ensures in
    rw (← c.checksum.ensures, ← c.u16_bytes.ensures) (front_all _ _ 34 (omega arith) all)
