-- Labels as sets of categories of any kind: the names that hosts exchange, or a host's own numbers.
use Rattle.std.specs.Prelude.{◌≡◌, Bool, true, false, ◌⊎◌, Contains, List, [], ◌∷◌, ◌||◌, ◌&&◌, not, filter, Option, Some, None}
use Rattle.std.specs.List.{list_any, list_all}
use Rattle.std.specs.declared.cmp.Ordering.{Ordering}
use Rattle.std.specs.declared.cmp.Ordering.TheVariants.{Less, Equal, Greater}
use Rattle.std.specs.Ordering.{is_lt}
use Rattle.std.specs.List.Sorted.{IsStrictlySortedBy}

-- how categories of a kind are told apart, which of them are for secrecy (the others are for integrity), and their order
pub record Naming (C : Type 0) : Type 0 where
  pub same : C → C → Bool
  pub secret : C → Bool
  pub compare : C → C → Ordering

-- whether a category is a member
abbrev pub has : {C : Type 0} → Naming C → C → List C → Bool
has naming c members = list_any (naming.same c) members

-- The first flows to the second under an ownership: each secrecy category of the first that isn't owned is in the second,
-- and each integrity category of the second that isn't owned is in the first.
unfoldable pub flows : {C : Type 0} → Naming C → List C → List C → List C → Bool
flows naming first second owned =
    list_all (λ c. not (naming.secret c) || (has naming c second || has naming c owned)) first
    && list_all (λ c. naming.secret c || (has naming c first || has naming c owned)) second

-- the same as facts of each category
pub record Flows {C : Type 0} (naming : Naming C) (first second owned : List C) : Type 0 where
  pub carries : (c : C) → naming.secret c ≡ true → Contains first c → Contains second c ⊎ Contains owned c
  pub claims : (c : C) → naming.secret c ≡ false → Contains second c → Contains first c ⊎ Contains owned c

-- whether both have the same members
unfoldable pub same_label : {C : Type 0} → Naming C → List C → List C → Bool
same_label naming first second = list_all (λ c. has naming c second) first && list_all (λ c. has naming c first) second

-- the members of the first that aren't in the second
unfoldable pub minus : {C : Type 0} → Naming C → List C → List C → List C
minus naming first second = filter (λ c. not (has naming c second)) first

-- c before the members or after the first of them, by how it compares with the first
abbrev pub placed : {C : Type 0} → Ordering → C → C → List C → List C → List C
placed Less c first rest later = c ∷ first ∷ rest
placed Equal c first rest later = first ∷ rest
placed Greater c first rest later = first ∷ later

-- the members, and c in its place unless it is there
abbrev pub with_member : {C : Type 0} → Naming C → C → List C → List C
with_member naming c [] = c ∷ []
with_member naming c (first ∷ rest) = placed (naming.compare c first) c first rest (with_member naming c rest)

-- the members of both
unfoldable pub union : {C : Type 0} → Naming C → List C → List C → List C
union naming first [] = first
union naming first (c ∷ second) = union naming (with_member naming c first) second

-- each member is below those after it, so none stands twice
abbrev pub IsRising : {C : Type 0} → Naming C → List C → Type 0
IsRising naming members = IsStrictlySortedBy naming.compare members

-- the last of the members, or what stands before them
abbrev pub last_of : {C : Type 0} → Option C → List C → Option C
last_of before [] = before
last_of before (c ∷ members) = last_of (Some c) members

-- whether c is above that member, if there is one
abbrev pub is_above : {C : Type 0} → Naming C → C → Option C → Bool
is_above naming c None = true
is_above naming c (Some last) = is_lt (naming.compare last c)
