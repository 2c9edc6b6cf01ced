use Rattle.std.proofs.Common.{◌≡◌, ◌+◌, ◌-◌, arith}
use Rattle.std.proofs.lemmas.List.{take_rest}
use Rattle.lms_sig.specs.Merkle.{recomputed_root}
use Rattle.lms_sig.specs.Parameters.{ots_length}
use Rattle.lms_sig.proofs.verifying.root_of.Goals as goal

pub returns : goal.returns
unfolding recomputed_root
returns c =
    let end : 4 + c.signature_length-end.result + 4 ≡ 8 + ots_length c.args.params.ots = omega (arith, c.signature_length-end.ensures) in
    let size : 4 + c.signature_length-end.result - 4 ≡ ots_length c.args.params.ots = omega (arith, c.signature_length-end.ensures) in
    let key = rw size at c.candidate_key-key.ensures in
    rw (
      end,
      take_rest c.args.signature.now (8 + ots_length c.args.params.ots),
      c.leaf_hash-leaf.ensures,
      key,
      c.leaf_count.ensures,
      c.height.ensures,
      c.read_u32-q.ensures,
    ) at c.climbed.ensures
