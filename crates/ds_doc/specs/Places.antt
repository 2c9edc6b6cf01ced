-- Values of a document at their places. The place of a value is the number of values before it: an object or a list
-- comes before what is in it, and members come by the bytes of their names, in which order an object has them.
use Rattle.std.specs.Prelude.{ℕ, ◌+◌, ◌-◌, ◌^◌, min, List, [], ◌∷◌, Bool, nat_eq, if◌then◌else◌, Option, Some, None, option_and_then, unwrap_or}
use Rattle.std.specs.Cmp.Lexicographic.{pointwise}
use Rattle.serde_json.specs.Data.{Data, null, boolean, string, array, object, Items, no_items, item, Members, no_members}
use Rattle.serde_json.specs.Data as json
use Rattle.serde_json.specs.Find.{as_number, as_u64, as_str}

-- the sum, counted to 4,294,967,295 at most
infixl 12 ◌⊕◌
abbrev pub ◌⊕◌ : ℕ → ℕ → ℕ
a ⊕ b = min (a + b) (2 ^ 32 - 1)

-- how many values a value is, itself and those in it
abbrev mutual
  pub size : Data → ℕ
  size null = 1
  size (boolean b) = 1
  size (json.number n) = 1
  size (string s) = 1
  size (array ds) = items_size 1 ds
  size (object ms) = members_size 1 ms

  -- so many, and those of the items
  pub items_size : ℕ → Items → ℕ
  items_size count no_items = count
  items_size count (item d ds) = items_size (count ⊕ size d) ds

  pub members_size : ℕ → Members → ℕ
  members_size count no_members = count
  members_size count (json.member k d ms) = members_size (count ⊕ size d) ms

-- a value and its place
pub record Spot : Type 0 where
  pub at : ℕ
  pub value : Data

-- the items of a list, the first of them at a place
abbrev pub items_from : ℕ → Items → List Spot
items_from at no_items = []
items_from at (item d ds) = record { at = at; value = d } ∷ items_from (at ⊕ size d) ds

-- the items of a list; none of another value
abbrev pub items_at : ℕ → Data → List Spot
items_at at null = []
items_at at (boolean b) = []
items_at at (json.number n) = []
items_at at (string s) = []
items_at at (array ds) = items_from (at ⊕ 1) ds
items_at at (object ms) = []

unfoldable pub items : Spot → List Spot
items s = items_at s.at s.value

abbrev pub same_text : List ℕ → List ℕ → Bool
same_text first second = pointwise nat_eq first second

-- the member of that name, among members the first of which is at a place
abbrev pub member_from : List ℕ → ℕ → Members → Option Spot
member_from name at no_members = None
member_from name at (json.member k d ms) =
    if same_text k name then Some (record { at = at; value = d }) else member_from name (at ⊕ size d) ms

-- the member of that name; none of another value than an object
abbrev pub member_at : List ℕ → ℕ → Data → Option Spot
member_at name at null = None
member_at name at (boolean b) = None
member_at name at (json.number n) = None
member_at name at (string s) = None
member_at name at (array ds) = None
member_at name at (object ms) = member_from name (at ⊕ 1) ms

unfoldable pub member : List ℕ → Spot → Option Spot
member name s = member_at name s.at s.value

-- what a member gives, or the default where it is missing
abbrev pub or_default : {A B : Type 0} → B → (A → B) → Option A → B
or_default default f None = default
or_default default f (Some x) = f x

-- the items of the list that the member of that name is
unfoldable pub member_items : List ℕ → Spot → List Spot
member_items name s = or_default [] items (member name s)

-- the bytes of a text; none of another value
unfoldable pub text : Spot → List ℕ
text s = unwrap_or (as_str s.value) []

unfoldable pub member_text : List ℕ → Spot → List ℕ
member_text name s = or_default [] text (member name s)

-- a number; 0 of another value
unfoldable pub number : Spot → ℕ
number s = unwrap_or (option_and_then as_u64 (as_number s.value)) 0

unfoldable pub member_number : List ℕ → ℕ → Spot → ℕ
member_number name default s = or_default default number (member name s)
