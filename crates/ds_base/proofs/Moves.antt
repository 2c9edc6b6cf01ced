-- Bytes that move from a list into the front of a room.
use Rattle.std.proofs.Common.{◌≡◌, ℕ, ◌≤◌, ◌+◌, List, ◌++◌, length, take, drop, arith, slice_range}
use Rattle.std.proofs.lemmas.List.{take-append-drop}
use Rattle.std.proofs.lemmas.Grind.{common_steps}

-- what is copied from a place on, and what is left behind it, is all from that place on
pub moved : (at n : ℕ) (bytes room : List ℕ) → at + n ≤ length bytes → drop at bytes ≡ take n (slice_range bytes at (at + n) ++ drop n room) ++ drop (at + n) bytes
moved at n bytes room fits = grind (arith, common_steps, take-append-drop n (drop at bytes))
