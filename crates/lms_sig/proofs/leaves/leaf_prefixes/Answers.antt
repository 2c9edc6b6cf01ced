use Rattle.std.proofs.Common.{◌≡◌, ◌∷◌, ◌+◌, ◌++◌, ◌∙◌, List, ℕ, [], add-zero, ap, slice_index_or, sym}
use Rattle.sha_lanes.proofs.Turns.{eight}
use Rattle.lms_sig.specs.Strings.{u16str, u32str}
use Rattle.lms_sig.proofs.leaves.leaf_prefixes.Goals as goal

pub returns : goal.returns
returns c =
    let r : List (List ℕ) =
    c.prefix.result ∷ c.prefix-2.result ∷ c.prefix-3.result ∷ c.prefix-4.result ∷ c.prefix-5.result ∷ c.prefix-6.result ∷ c.prefix-7.result ∷ c.prefix-8.result ∷ [] in
    eight (λ l. slice_index_or r l [] ≡ c.args.id.now ++ u32str (c.args.first + l) ++ u16str c.args.kind)
    (c.prefix.ensures ∙ ap (λ n. c.args.id.now ++ u32str n ++ u16str c.args.kind) (sym (add-zero c.args.first)))
    c.prefix-2.ensures c.prefix-3.ensures c.prefix-4.ensures c.prefix-5.ensures c.prefix-6.ensures c.prefix-7.ensures c.prefix-8.ensures
