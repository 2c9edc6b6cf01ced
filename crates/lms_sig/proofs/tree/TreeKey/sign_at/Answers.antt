use Rattle.std.proofs.Common.{◌≡◌, ◌+◌, ◌++◌}
use Rattle.lms_sig.specs.TreeNodes.{HoldsFrom}
use Rattle.lms_sig.specs.Merkle.{path, signature}
use Rattle.lms_sig.specs.Parameters.{height, leaf_count}
use Rattle.lms_sig.proofs.tree.TreeKey.sign_at.Goals as goal

pub returns : goal.returns
unfolding signature
returns c =
    let holds : HoldsFrom c.self.inside.params c.self.inside.seed c.self.inside.id c.deref.result.now 1 =
    rw c.deref.ensures.value c.self.invariant.holds in
    let way : c.put_path.new.out.items ≡ c.extend_from_slice-2.new.self.items
    ++ path c.self.inside.params c.self.inside.seed c.self.inside.id 0 (leaf_count c.self.inside.params.lms + c.args.q)
    (height c.self.inside.params.lms) =
    c.in_ok-put_path.ensures c.self.inside.seed c.self.inside.id holds in
    let number = rw (c.in_ok-out.ensures.items, c.u32_bytes.ensures) at c.in_ok-extend_from_slice.ensures.items in
    let one_time = rw number at c.in_ok-put_one_time.ensures in
    let code = rw (one_time, c.u32_bytes-2.ensures, c.code.ensures) at c.in_ok-extend_from_slice-2.ensures.items in
    rw (← c.self.view_is) (rw code at way)
