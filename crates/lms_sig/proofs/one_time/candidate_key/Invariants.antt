use Rattle.std.proofs.Common.{◌++◌, drop}
use Rattle.sha2.specs.Hashers.{Holds256}
use Rattle.lms_sig.specs.OneTime.{Q, d_pblc, z}
use Rattle.lms_sig.specs.Strings.{joined, part, u16str, u32str}
use Rattle.lms_sig.proofs.one_time.candidate_key.Given as goal

abbrev pub invariant-chains : goal.invariant-chains
invariant-chains l = Holds256 l.hasher (l.id ++ u32str l.q ++ u16str d_pblc
    ++ joined (z l.fn.ots l.id l.q (Q l.id l.q (part l.signature 4 32) l.message) (drop 36 l.signature)) l.i)
