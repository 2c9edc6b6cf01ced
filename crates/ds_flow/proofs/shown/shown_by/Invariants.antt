use Rattle.std.proofs.Common.{◌≡◌, ◌≤◌, [], drop, length}
use Rattle.ds_flow.specs.Asked.{kept_all, shown}
use Rattle.ds_flow.proofs.shown.shown_by.Given as goal

pub record ShownSoFar (l : goal.Live-loop-bytes) : Type 0 where
  pub kept : kept_all l.list.items (shown (drop l.bytes-index l.certs)) ≡ kept_all [] (shown l.certs)
  pub few : length l.list.items ≤ l.bytes-index

abbrev pub invariant-loop-bytes : goal.invariant-loop-bytes
invariant-loop-bytes l = ShownSoFar l
