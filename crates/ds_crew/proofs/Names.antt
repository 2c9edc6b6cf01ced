-- No two objects of a host have one name.
use Rattle.std.proofs.Common.{◌≡◌, ◌≢◌, ℕ, suc, ◌<◌, List, [], ◌∷◌, ◌++◌, map, refl, sym, ap, subst, arith}
use Rattle.std.specs.List.{All, AllByRecursion, AllPairs}
use Rattle.std.proofs.lemmas.List.Elements.{All-from_recursion, recursion_from_All}
use Rattle.std.proofs.lemmas.List.Kept.{AllPairs-cons}
use Rattle.ds_cert.specs.declared.lane.LaneCert.{LaneCert}
use Rattle.ds_actor.specs.Sites.{BoxSite}
use Rattle.ds_merge.specs.declared.kept.ObjectName.{ObjectName}
use Rattle.ds_exporter.specs.HostStates.{HostBox}
use Rattle.ds_exporter.specs.Conditions.{HaveTwoSlots}
use Rattle.ds_exporter.specs.Sites.{box_site}
use Rattle.ds_turn.specs.declared.node.BoxSeat.{BoxSeat}
use Rattle.ds_turn.specs.declared.node.InletSeat.{InletSeat}
use Rattle.ds_turn.specs.declared.node.Node.{Node}
use Rattle.ds_turn.specs.Nodes.{box_site as seat_site}
use Rattle.ds_turn.specs.Records.{box_name, desk_name, inlet_name, lane_name}
use Rattle.ds_crew.specs.Histories.{HaveOwnNames, names_of_boxes, names_of_inlets, names_of_lanes}

-- a name is none of these
abbrev IsNew : ObjectName → List ObjectName → Type 0
IsNew a names = AllByRecursion (λ (b : ObjectName). a ≢ b) names

-- each is none of the later ones
AreApart : List ObjectName → Type 0
AreApart [] = Unit {0}
AreApart (a ∷ names) = IsNew a names × AreApart names

all_apart : (names : List ObjectName) → AreApart names → AllPairs (λ (a b : ObjectName). a ≢ b) names
unfolding AreApart
all_apart [] apart = λ i j d lt w. absurd (omega (arith, lt, w))
all_apart (a ∷ names) apart =
    AllPairs-cons (λ (x y : ObjectName). x ≢ y) a names (All-from_recursion (λ (b : ObjectName). a ≢ b) names apart.0) (all_apart names apart.1)

new_both : (a : ObjectName) (xs ys : List ObjectName) → IsNew a xs → IsNew a ys → IsNew a (xs ++ ys)
new_both a [] ys p q = q
new_both a (x ∷ xs) ys p q = (p.0, new_both a xs ys p.1 q)

apart_both : (xs ys : List ObjectName) → AreApart xs → AreApart ys → AllByRecursion (λ (x : ObjectName). IsNew x ys) xs → AreApart (xs ++ ys)
unfolding AreApart
apart_both [] ys p q cross = q
apart_both (x ∷ xs) ys p q cross = (new_both x xs ys p.0 cross.0, apart_both xs ys p.1 q cross.1)

-- ---- kinds

-- all are of a kind, or of a later one
abbrev AreOf : (kind : ℕ) → List ObjectName → Type 0
AreOf kind names = AllByRecursion (λ (a : ObjectName). a.kind ≡ kind) names

abbrev AreBehind : (kind : ℕ) → List ObjectName → Type 0
AreBehind kind names = AllByRecursion (λ (a : ObjectName). kind < a.kind) names

unlike : (a b : ObjectName) → a.kind < b.kind → a ≢ b
unlike a b less same = let k : a.kind ≡ b.kind = ap (λ (n : ObjectName). n.kind) same in omega (arith, less, k)

new_behind : (a : ObjectName) (names : List ObjectName) → AreBehind a.kind names → IsNew a names
new_behind a [] behind = tt
new_behind a (b ∷ names) behind = (unlike a b behind.0, new_behind a names behind.1)

cross_kinds : (kind : ℕ) (xs ys : List ObjectName) → AreOf kind xs → AreBehind kind ys → AllByRecursion (λ (x : ObjectName). IsNew x ys) xs
cross_kinds kind [] ys of_kind behind = tt
cross_kinds kind (x ∷ xs) ys of_kind behind = (new_behind x ys (subst (λ (k : ℕ). AreBehind k ys) (sym of_kind.0) behind), cross_kinds kind xs ys of_kind.1 behind)

behind_of : (kind later : ℕ) → kind < later → (names : List ObjectName) → AreOf later names → AreBehind kind names
behind_of kind later less [] of_kind = tt
behind_of kind later less (a ∷ names) of_kind = (subst (λ (k : ℕ). kind < k) (sym of_kind.0) less, behind_of kind later less names of_kind.1)

behind_both : (kind : ℕ) (xs ys : List ObjectName) → AreBehind kind xs → AreBehind kind ys → AreBehind kind (xs ++ ys)
behind_both kind [] ys p q = q
behind_both kind (x ∷ xs) ys p q = (p.0, behind_both kind xs ys p.1 q)

-- ---- mailboxes: their slots differ

slot_apart : (host a b : ℕ) → a ≢ b → box_name host a ≢ box_name host b
slot_apart host a b apart same = apart (ap (λ (n : ObjectName). n.id) same)

one_apart : (host slot : ℕ) (boxes : List HostBox) (seats : List BoxSeat) → map seat_site seats ≡ map box_site boxes → AllByRecursion (λ (b : HostBox). slot ≢ b.slot) boxes → IsNew (box_name host slot) (names_of_boxes host seats)
one_apart host slot boxes [] is apart = tt
one_apart host slot [] (s ∷ seats) is apart = absurd cc
one_apart host slot (b ∷ boxes) (s ∷ seats) is apart =
    let here : s.slot ≡ b.slot = ap (λ (x : BoxSite). x.slot) (first is) in
    (slot_apart host slot s.slot (subst (λ (k : ℕ). slot ≢ k) (sym here) apart.0), one_apart host slot boxes seats (rest is) apart.1)
  where
    first : seat_site s ∷ map seat_site seats ≡ box_site b ∷ map box_site boxes → seat_site s ≡ box_site b
    first e = cc

    rest : seat_site s ∷ map seat_site seats ≡ box_site b ∷ map box_site boxes → map seat_site seats ≡ map box_site boxes
    rest e = cc

boxes_apart : (host : ℕ) (boxes : List HostBox) (seats : List BoxSeat) → map seat_site seats ≡ map box_site boxes → AllPairs HaveTwoSlots boxes → AreApart (names_of_boxes host seats)
unfolding AreApart
boxes_apart host boxes [] is two = tt
boxes_apart host [] (s ∷ seats) is two = absurd cc
boxes_apart host (b ∷ boxes) (s ∷ seats) is two =
    let here : s.slot ≡ b.slot = ap (λ (x : BoxSite). x.slot) (first is) in
    let later : All (HaveTwoSlots b) boxes = λ k d w. two 0 (suc k) d (omega arith) (omega (arith, w)) in (
      subst (λ (slot : ℕ). IsNew (box_name host slot) (names_of_boxes host seats)) (sym here) (one_apart host b.slot boxes seats (rest is) (recursion_from_All (HaveTwoSlots b) boxes later)),
      boxes_apart host boxes seats (rest is) (λ i j d lt w. two (suc i) (suc j) d (omega (arith, lt)) (omega (arith, w))),
    )
  where
    first : seat_site s ∷ map seat_site seats ≡ box_site b ∷ map box_site boxes → seat_site s ≡ box_site b
    first e = cc

    rest : seat_site s ∷ map seat_site seats ≡ box_site b ∷ map box_site boxes → map seat_site seats ≡ map box_site boxes
    rest e = cc

boxes_of : (host : ℕ) (seats : List BoxSeat) → AreOf 2 (names_of_boxes host seats)
boxes_of host [] = tt
boxes_of host (s ∷ seats) = (refl, boxes_of host seats)

-- ---- lanes and inlets: their numbers rise

number_apart : (host kind a b : ℕ) → a < b → (x y : ObjectName) → x.id ≡ a → y.id ≡ b → x ≢ y
number_apart host kind a b less x y p q same = let n : x.id ≡ y.id = ap (λ (z : ObjectName). z.id) same in omega (arith, less, n, p, q)

lane_new : (host n m : ℕ) (lanes : List LaneCert) → n < m → IsNew (lane_name host n) (names_of_lanes host m lanes)
lane_new host n m [] less = tt
lane_new host n m (l ∷ lanes) less = (number_apart host 3 n m less (lane_name host n) (lane_name host m) refl refl, lane_new host n (suc m) lanes (omega (arith, less)))

lanes_apart : (host n : ℕ) (lanes : List LaneCert) → AreApart (names_of_lanes host n lanes)
unfolding AreApart
lanes_apart host n [] = tt
lanes_apart host n (l ∷ lanes) = (lane_new host n (suc n) lanes (omega arith), lanes_apart host (suc n) lanes)

lanes_of : (host n : ℕ) (lanes : List LaneCert) → AreOf 3 (names_of_lanes host n lanes)
lanes_of host n [] = tt
lanes_of host n (l ∷ lanes) = (refl, lanes_of host (suc n) lanes)

inlet_new : (host n m : ℕ) (seats : List InletSeat) → n < m → IsNew (inlet_name host n) (names_of_inlets host m seats)
inlet_new host n m [] less = tt
inlet_new host n m (s ∷ seats) less = (number_apart host 4 n m less (inlet_name host n) (inlet_name host m) refl refl, inlet_new host n (suc m) seats (omega (arith, less)))

inlets_apart : (host n : ℕ) (seats : List InletSeat) → AreApart (names_of_inlets host n seats)
unfolding AreApart
inlets_apart host n [] = tt
inlets_apart host n (s ∷ seats) = (inlet_new host n (suc n) seats (omega arith), inlets_apart host (suc n) seats)

inlets_of : (host n : ℕ) (seats : List InletSeat) → AreOf 4 (names_of_inlets host n seats)
inlets_of host n [] = tt
inlets_of host n (s ∷ seats) = (refl, inlets_of host (suc n) seats)

-- ---- all of them

pub own_names : (n : Node) (boxes : List HostBox) → map seat_site n.boxes.items ≡ map box_site boxes → AllPairs HaveTwoSlots boxes → HaveOwnNames n
unfolding AreApart
own_names n boxes is two =
    let bs = names_of_boxes n.host n.boxes.items in
    let ls = names_of_lanes n.host 1 n.lanes.items in
    let is_ = names_of_inlets n.host 0 n.inlets.items in
    let inlets = inlets_of n.host 0 n.inlets.items in
    let lanes = lanes_of n.host 1 n.lanes.items in
    let late : AreApart (ls ++ is_) = apart_both ls is_ (lanes_apart n.host 1 n.lanes.items) (inlets_apart n.host 0 n.inlets.items) (cross_kinds 3 ls is_ lanes (behind_of 3 4 (omega arith) is_ inlets)) in
    let behind : AreBehind 2 (ls ++ is_) = behind_both 2 ls is_ (behind_of 2 3 (omega arith) ls lanes) (behind_of 2 4 (omega arith) is_ inlets) in
    let boxed : AreApart (bs ++ (ls ++ is_)) = apart_both bs (ls ++ is_) (boxes_apart n.host boxes n.boxes.items is two) late (cross_kinds 2 bs (ls ++ is_) (boxes_of n.host n.boxes.items) behind) in
    let first : AreBehind 1 (bs ++ (ls ++ is_)) =
    behind_both 1 bs (ls ++ is_) (behind_of 1 2 (omega arith) bs (boxes_of n.host n.boxes.items)) (behind_both 1 ls is_ (behind_of 1 3 (omega arith) ls lanes) (behind_of 1 4 (omega arith) is_ inlets)) in
    all_apart (desk_name n.host ∷ (bs ++ (ls ++ is_))) (new_behind (desk_name n.host) (bs ++ (ls ++ is_)) first, boxed)
