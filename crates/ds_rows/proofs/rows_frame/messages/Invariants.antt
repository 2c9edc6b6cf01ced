use Rattle.std.proofs.Common.{◌≡◌, ◌≤◌, length}
use Rattle.std.specs.List.{All}
use Rattle.ds_rows.proofs.rows_frame.messages.Given as goal

abbrev pub invariant-loop : goal.invariant-loop
invariant-loop l = (length l.bodies ≡ l.counter) × All (λ body. length body ≤ 72229) l.bodies
