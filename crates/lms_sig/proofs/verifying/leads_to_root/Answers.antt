use Rattle.std.proofs.Common.{◌≤◌, drop, length, arith, length-drop}
use Rattle.std.proofs.lemmas.List.{take_all}
use Rattle.lms_sig.proofs.verifying.leads_to_root.Goals as goal

pub returns : goal.returns
returns c =
    let size : length (drop 24 c.args.key.now) ≤ 32 = omega (arith, length-drop 24 c.args.key.now, c.told-key) in
    let root = rw (c.as_slice.ensures, take_all 32 (drop 24 c.args.key.now) size) at c.eq.ensures in
    rw (c.root_of-root.ensures, c.copy_from_slice.ensures.after) at root
