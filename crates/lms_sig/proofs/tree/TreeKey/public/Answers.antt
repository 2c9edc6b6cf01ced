use Rattle.std.proofs.Common.{◌≡◌, ◌<◌, length, take, [], ◌∙◌, arith}
use Rattle.std.proofs.lemmas.List.{get_or_read}
use Rattle.lms_sig.specs.TreeNodes.{IsNode}
use Rattle.lms_sig.specs.Merkle.{public_key}
use Rattle.lms_sig.specs.Parameters.{height}
use Rattle.lms_sig.proofs.Lengths.{length-u32str}
use Rattle.lms_sig.proofs.Pieces.{front_all, front_more}
use Rattle.lms_sig.proofs.Trees.{leaf_count-positive}
use Rattle.lms_sig.proofs.tree.TreeKey.public.Goals as goal

pub returns : goal.returns
unfolding public_key
returns c =
    let four : length c.u32_bytes.result ≡ 4 = rw c.u32_bytes.ensures (length-u32str _) in
    let four_more : length c.u32_bytes-2.result ≡ 4 = rw c.u32_bytes-2.ensures (length-u32str _) in
    let sixteen : length c.self.inside.id ≡ 16 = omega arith in
    let rest : length c.index.result.now ≡ 32 = omega arith in
    let top : IsNode c.self.inside.params (height c.self.inside.params.lms) 0 1 =
    record { levels = omega arith; from = omega arith; below = omega arith } in
    let room : 1 < length c.self.inside.nodes.items = omega (arith, c.self.invariant.size, leaf_count-positive c.self.inside.params) in
    let root = get_or_read c.self.inside.nodes.items 1 c.index.result.now room c.index.ensures []
    ∙ c.self.invariant.holds _ 0 1 top (omega arith) in
    let lms : take 4 c.put.new.out ≡ c.u32_bytes.result = rw four at c.put.ensures in
    let ots = front_more _ c.put-2.new.out _ c.u32_bytes-2.result 4 8 lms (omega arith) c.put-2.ensures in
    let id = front_more _ c.put-3.new.out _ c.self.inside.id 8 24 ots (omega arith) c.put-3.ensures in
    let all = front_more _ c.put-4.new.out _ c.index.result.now 24 56 id (omega arith) c.put-4.ensures in
    let whole = front_all c.put-4.new.out _ 56 (omega arith) all in
    rw (← c.self.view_is) (rw (c.u32_bytes.ensures, c.code.ensures, c.u32_bytes-2.ensures, c.code-2.ensures, root) at whole)
