use Rattle.std.proofs.Common.{◌≡◌, ◌∷◌, ◌++◌, List, ℕ, [], slice_index, slice_index_or}
use Rattle.sha_lanes.proofs.Turns.{eight}
use Rattle.lms_sig.specs.Strings.{u16str, u32str}
use Rattle.lms_sig.proofs.lanes.prefixes.Goals as goal

pub returns : goal.returns
returns c =
    let r : List (List ℕ) =
    c.prefix.result ∷ c.prefix-2.result ∷ c.prefix-3.result ∷ c.prefix-4.result ∷ c.prefix-5.result ∷ c.prefix-6.result ∷ c.prefix-7.result ∷ c.prefix-8.result ∷ [] in
    eight (λ l. slice_index_or r l [] ≡ c.args.id.now ++ u32str c.args.q ++ u16str (slice_index c.args.chains.now l))
    c.prefix.ensures c.prefix-2.ensures c.prefix-3.ensures c.prefix-4.ensures c.prefix-5.ensures c.prefix-6.ensures c.prefix-7.ensures c.prefix-8.ensures
