use Rattle.std.proofs.Common.{◌≡◌, ap, length, take, arith}
use Rattle.lms_sig.proofs.Pieces.{front_all, front_more}
use Rattle.lms_sig.specs.Strings.{u16str, u32str}
use Rattle.lms_sig.proofs.hash.prefix.Goals as goal

pub returns : goal.returns
unfolding u16str u32str
returns c =
    let four : length c.u32_bytes.result ≡ 4 = ap length c.u32_bytes.ensures in
    let two : length c.u16_bytes.result ≡ 2 = ap length c.u16_bytes.ensures in
    let id : take 16 c.put.new.out ≡ c.args.id.now = rw c.told-id at c.put.ensures in
    let node = front_more _ c.put-2.new.out _ c.u32_bytes.result 16 20 id (omega arith) c.put-2.ensures in
    let kind = front_more _ c.put-3.new.out _ c.u16_bytes.result 20 22 node (omega arith) c.put-3.ensures in
    rw (← c.u32_bytes.ensures, ← c.u16_bytes.ensures) (front_all _ _ 22 (omega arith) kind)
