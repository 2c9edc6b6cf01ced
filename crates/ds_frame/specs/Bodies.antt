-- The messages in a frame's body: each is a count and that many bytes.
use Rattle.std.specs.Prelude.{ℕ, zero, suc, List, [], ◌∷◌, ◌++◌, length, Option, Some, None, ◌==◌, if◌then◌else◌}
use Rattle.std.specs.Int.{w32}
use Rattle.ds_wire.specs.Fields.{number_at, bytes_at}
use Rattle.ds_cert.specs.Categories.{◌>>=◌}

unfoldable pub body_at : List ℕ → Option (List ℕ × List ℕ)
body_at bytes = do
  count ← number_at w32 bytes
  bytes_at count.0 count.1

-- those before, and that many more
unfoldable pub bodies_at : ℕ → List (List ℕ) → List ℕ → Option (List (List ℕ) × List ℕ)
bodies_at zero before bytes = Some (before, bytes)
bodies_at (suc n) before bytes = do
  body ← body_at bytes
  bodies_at n (before ++ body.0 ∷ []) body.1

-- that many messages, if they are the whole body
unfoldable pub split : (messages : ℕ) → (body : List ℕ) → Option (List (List ℕ))
split messages body = do
  bodies ← bodies_at messages [] body
  if length bodies.1 == 0 then Some bodies.0 else None
