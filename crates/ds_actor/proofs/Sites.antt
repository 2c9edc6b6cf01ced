-- What setup fixed of a host: by names it is found at the same places.
use Rattle.std.proofs.Common.{◌≡◌, ℕ, zero, suc, ◌<◌, cond, Bool, true, false, ◌&&◌, List, [], ◌∷◌, map, Option, Some, None, refl, sym, ap, ap₂, ◌∙◌, slice_get, arith}
use Rattle.std.specs.Prelude.{◌+◌, option_map, position, ◌==◌, length, get_or, nat_lt, not, IfSome}
use Rattle.std.specs.List.{list_all, prefix_len}
use Rattle.ds_label.specs.declared.category.PubKey.{PubKey}
use Rattle.ds_label.specs.declared.category.Category.{Category}
use Rattle.ds_model.specs.Plan.{HostPlan, BoxPlan, LanePlan, no_box}
use Rattle.ds_model.specs.ProcessStep.{box_of as box_place, label_of, lane_of as lane_place}
use Rattle.ds_map.specs.Labels.{named, have_names, has_name}
use Rattle.ds_map.proofs.Sets.{and_first, and_second}
use Rattle.ds_actor.specs.Sites.{BoxSite, SitePlan, box_of, lane_of, with_site, labels_of, label_at, owner_at, is_lane_for}

-- ---- places

prefix_map : {A B : Type 0} (f : A → B) (t : B → Bool) (xs : List A) → prefix_len (λ b. not (t b)) (map f xs) ≡ prefix_len (λ a. not (t (f a))) xs
prefix_map f t [] = refl
prefix_map {A} {B} f t (x ∷ xs) = go (not (t (f x))) (prefix_map f t xs)
  where
    go : (c : Bool) → prefix_len (λ b. not (t b)) (map f xs) ≡ prefix_len (λ a. not (t (f a))) xs → cond c (1 + prefix_len (λ b. not (t b)) (map f xs)) 0 ≡ cond c (1 + prefix_len (λ a. not (t (f a))) xs) 0
    go true e = ap (λ (n : ℕ). 1 + n) e
    go false e = refl

size_map : {A B : Type 0} (f : A → B) (xs : List A) → length (map f xs) ≡ length xs
size_map f [] = refl
size_map f (x ∷ xs) = ap suc (size_map f xs)

pub position_map : {A B : Type 0} (f : A → B) (t : B → Bool) (xs : List A) → position t (map f xs) ≡ position (λ a. t (f a)) xs
position_map f t xs = ap₂ (λ (n m : ℕ). cond (nat_lt n m) (Some n) None) (prefix_map f t xs) (size_map f xs)

pub same_box : (site : SitePlan) (rows : List Category) (plan : HostPlan) (slot : ℕ) → box_place (with_site site rows plan) slot ≡ position (λ (b : BoxSite). b.slot == slot) site.boxes
same_box site rows plan slot = position_map (box_of site.here rows) (λ (b : BoxPlan). b.slot == slot) site.boxes

pub same_lane : (site : SitePlan) (rows : List Category) (plan : HostPlan) (to : PubKey) (label : List Category) → lane_place (with_site site rows plan) to label ≡ position (is_lane_for to label) site.lanes
same_lane site rows plan to label = position_map lane_of (λ (l : LanePlan). is_lane_for to label l.cert) site.lanes

-- ---- what stands at a place

found_at : (here : PubKey) (rows : List Category) (bs : List BoxSite) (i : ℕ) → i < length bs → (s : BoxSite) × (slice_get bs i ≡ Some s) × (get_or (map (box_of here rows) bs) i no_box ≡ box_of here rows s)
found_at here rows [] i within = absurd (omega (arith, within))
found_at here rows (b ∷ bs) zero within = (b, refl, refl)
found_at here rows (b ∷ bs) (suc i) within = found_at here rows bs i (omega (arith, within))

pub label_same : (site : SitePlan) (rows : List Category) (plan : HostPlan) (o : Option ℕ) → IfSome o (λ i. i < length site.boxes) → label_of (with_site site rows plan) o ≡ option_map (named site.here rows) (label_at site.boxes o)
label_same site rows plan None within = refl
label_same site rows plan (Some i) within =
    let s = found_at site.here rows site.boxes i within in
    ap (λ (b : BoxPlan). Some b.label) s.2 ∙ sym (ap (λ (o : Option BoxSite). option_map (named site.here rows) (option_map (λ (b : BoxSite). b.label) o)) s.1)

pub owner_same : (site : SitePlan) (rows : List Category) (plan : HostPlan) (i : ℕ) → i < length site.boxes → Some (get_or (with_site site rows plan).boxes i no_box).owner ≡ owner_at site.boxes (Some i)
owner_same site rows plan i within =
    let s = found_at site.here rows site.boxes i within in
    ap (λ (b : BoxPlan). Some b.owner) s.2 ∙ sym (ap (option_map (λ (b : BoxSite). b.owner)) s.1)

-- ---- names

pub site_named : (here : PubKey) (rows : List Category) (bs : List BoxSite) (o : Option ℕ) (l : List ℕ) → label_at bs o ≡ Some l → have_names here rows (labels_of bs) ≡ true → list_all (has_name here rows) l ≡ true
site_named here rows bs None l at e = absurd cc
site_named here rows [] (Some i) l at e = absurd cc
site_named here rows (b ∷ bs) (Some zero) l at e = ap (list_all (has_name here rows)) (sym (is_some_of b.label l at)) ∙ and_first (list_all (has_name here rows) b.label) (have_names here rows (labels_of bs)) e
  where
    is_some_of : (y z : List ℕ) → Some y ≡ Some z → y ≡ z
    is_some_of y z f = cc
site_named here rows (b ∷ bs) (Some (suc i)) l at e = site_named here rows bs (Some i) l at (and_second (list_all (has_name here rows) b.label) (have_names here rows (labels_of bs)) e)

-- the labels of a process, and those of the mailboxes
module _ (here : PubKey) (rows : List Category) (p own clear : List ℕ) (more : List (List ℕ)) (e : have_names here rows (p ∷ own ∷ clear ∷ more) ≡ true) where
  abbrev a : Bool
  a = list_all (has_name here rows) p

  abbrev b : Bool
  b = list_all (has_name here rows) own

  abbrev d : Bool
  d = list_all (has_name here rows) clear

  abbrev r : Bool
  r = have_names here rows more

  pub first_named : a ≡ true
  first_named = and_first a (b && (d && r)) e

  pub second_named : b ≡ true
  second_named = and_first b (d && r) (and_second a (b && (d && r)) e)

  pub third_named : d ≡ true
  third_named = and_first d r (and_second b (d && r) (and_second a (b && (d && r)) e))

  pub rest_named : r ≡ true
  rest_named = and_second d r (and_second b (d && r) (and_second a (b && (d && r)) e))

  pub three_named : have_names here rows (p ∷ own ∷ clear ∷ []) ≡ true
  three_named = λ i. first_named i && (second_named i && (third_named i && true))
