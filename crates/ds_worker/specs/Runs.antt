-- Turns of an actor, one after another.
use Rattle.std.specs.Prelude.{◌≡◌, ℕ, zero, suc, ◌<◌, ◌≤◌}
use Rattle.ds_worker.specs.declared.limit.TheConstants.{TURN_LIMIT}

-- one turn more, after what was before it
pub record IsTurnAfter {X : Type 0} (Turn : X → X → Type 0) (Before : X → Type 0) (new : X) : Type 0 where
  pub mid : X
  pub before : Before mid
  pub turn : Turn mid new

-- so many turns, one after another, made the new of the old
unfoldable pub Ran : {X : Type 0} → (Turn : X → X → Type 0) → (count : ℕ) → (old new : X) → Type 0
Ran Turn zero old new = new ≡ old
Ran Turn (suc n) old new = IsTurnAfter Turn (Ran Turn n old) new

-- What one thread does with an actor in a phase: so many turns, and fewer than the limit only where it rests then.
pub record Worked {X : Type 0} (Turn : X → X → Type 0) (Rest : X → Type 0) (count : ℕ) (old new : X) : Type 0 where
  pub few : count ≤ TURN_LIMIT
  pub ran : Ran Turn count old new
  pub rests : count < TURN_LIMIT → Rest new

-- The same where a turn met a fault: so many turns before it, fewer than the limit, which stay, and what it left.
pub record Stopped {X : Type 0} (Turn Left : X → X → Type 0) (count : ℕ) (old new : X) : Type 0 where
  pub few : count < TURN_LIMIT
  pub mid : X
  pub ran : Ran Turn count old mid
  pub left : Left mid new

-- nothing changed
abbrev pub IsSame : {X : Type 0} → (old new : X) → Type 0
IsSame old new = new ≡ old
