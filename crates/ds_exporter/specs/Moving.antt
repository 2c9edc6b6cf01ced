-- What an event did.
use Rattle.std.specs.Prelude.{◌≡◌, ◌↔◌}
use Rattle.ds_exporter.specs.declared.moved.Moved.{Moved}
use Rattle.ds_exporter.specs.declared.moved.Moved.TheVariants.{Still}

-- what it found became what the plain world's step makes of it, and it says still exactly where that stayed as it was
abbrev pub Moves : {A : Type 0} → Moved → (old new next : A) → Type 0
Moves moved old new next = (new ≡ next) × ((moved ≡ Still) ↔ (new ≡ old))
