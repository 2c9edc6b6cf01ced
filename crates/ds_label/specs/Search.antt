-- What a search in a rising list answers.
use Rattle.std.specs.Prelude.{◌≡◌, ℕ, ◌≤◌, true, false, List, length, insert, Option, Some, None}
use Rattle.ds_label.specs.Flow.{Naming, has, with_member}

-- none where the category is there, and else the place where it would stand
abbrev pub IsGap : {C : Type 0} → Naming C → C → List C → Option ℕ → Type 0
IsGap naming c members None = (has naming c members ≡ true) × (with_member naming c members ≡ members)
IsGap naming c members (Some place) = (place ≤ length members) × (has naming c members ≡ false) × (with_member naming c members ≡ insert members place c)
