-- The stamp of an event on a shared object.
use Rattle.std.specs.Prelude.{ℕ, ◌+◌, max}

-- one more than the greater of the object's last and the caller's
abbrev pub next_stamp : (last caller : ℕ) → ℕ
next_stamp last caller = max last caller + 1
