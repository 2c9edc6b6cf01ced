-- Where the delegations for a category stand, by a sorted list of postings.
use Rattle.std.specs.Prelude.{◌≡◌, ℕ, ◌+◌, Bool, true, false, List, [], ◌∷◌, nat_lt, nat_le}
use Rattle.std.specs.List.Sorted.{IsNonDecreasingBy}
use Rattle.std.specs.Ordering.{ordering_index}
use Rattle.ds_label.specs.declared.category.Category.{Category}
use Rattle.ds_label.specs.Names.{same_category, category_cmp}
use Rattle.ds_cert.specs.declared.delegation.Delegation.{Delegation}
use Rattle.ds_chain.specs.declared.place_index.Posting.{Posting}

-- the number before the others, where it is listed
abbrev pub listed : Bool → ℕ → List ℕ → List ℕ
listed true n ns = n ∷ ns
listed false n ns = ns

-- the places of the postings for the category
abbrev pub places_in : Category → List Posting → List ℕ
places_in category [] = []
places_in category (p ∷ ps) = listed (same_category p.category category) p.place (places_in category ps)

-- the places at which delegations for the category stand, counted from a number
abbrev pub places_from : Category → ℕ → List Delegation → List ℕ
places_from category n [] = []
places_from category n (d ∷ ds) = listed (same_category d.category category) n (places_from category (n + 1) ds)

-- The postings name, for each category, the places at which its delegations stand, in order.
abbrev pub AreIndexed : List Delegation → List Posting → Type 0
AreIndexed certs postings = (category : Category) → places_in category postings ≡ places_from category 0 certs

-- how a posting's category compares with another: 0 below it, 1 the same, 2 above it
abbrev pub rank : Category → Posting → ℕ
rank category p = ordering_index (category_cmp p.category category)

-- whether the posting's category is below the other, and whether it is the other or below it
abbrev pub is_below : Category → Posting → Bool
is_below category p = nat_lt (rank category p) 1

abbrev pub is_upto : Category → Posting → Bool
is_upto category p = nat_le (rank category p) 1

-- No posting stands behind one of a category above its own.
unfoldable pub AreSorted : List Posting → Type 0
AreSorted postings = (category : Category) → IsNonDecreasingBy (rank category) postings
