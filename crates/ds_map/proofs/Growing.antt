-- A table grows at its end alone.
use Rattle.std.proofs.Common.{◌≡◌, ℕ, zero, suc, ◌+◌, ◌*◌, Bool, true, false, cond, ◌&&◌, ◌||◌, List, [], ◌∷◌, ◌++◌, map, Option, Some, None, is_some, refl, sym, ap, ap₂, subst, ◌∙◌}
use Rattle.std.specs.Prelude.{nat_lt, ◌^◌, ◌-◌, ◌/◌, slice_get, unwrap_or}
use Rattle.std.specs.List.{list_all}
use Rattle.std.proofs.lemmas.List.{append-nil}
use Rattle.ds_label.specs.declared.category.PubKey.{PubKey}
use Rattle.ds_label.specs.declared.category.Category.{Category}
use Rattle.ds_label.specs.Names.{same_category, by_name}
use Rattle.ds_label.specs.Flow.{has, union}
use Rattle.ds_model.specs.Mapping.{is_home, home_number, kind_number, kind_of, if_kind, row_of, is_known, to_number, to_name}
use Rattle.ds_map.specs.Labels.{has_name, name_of, no_category, have_names}
use Rattle.ds_map.specs.Growing.{IsGrown, GrowsSo}
use Rattle.ds_map.proofs.Sets.{and_first, and_second}

module _ (here : PubKey) (rows more : List Category) where
  -- what stands at a place stays there
  there : (xs ys : List Category) (i : ℕ) (c : Category) → slice_get xs i ≡ Some c → slice_get (xs ++ ys) i ≡ Some c
  there [] ys i c e = absurd cc
  there (x ∷ xs) ys zero c e = e
  there (x ∷ xs) ys (suc i) c e = there xs ys i c e

  row_name : (n : ℕ) (o : Option Category) → slice_get rows ((n - 2 ^ 63) / 2) ≡ o → is_some (if_kind n o) ≡ true → if_kind n (slice_get (rows ++ more) ((n - 2 ^ 63) / 2)) ≡ if_kind n o
  row_name n (Some c) e f = ap (if_kind n) (there rows more ((n - 2 ^ 63) / 2) c e)
  row_name n None e f = absurd cc

  abbrev first_name : ℕ → Option Category
  first_name n = Some (record { creator = here; kind = kind_of n; number = n / 2 })

  name_stays : (n : ℕ) → has_name here rows n ≡ true → to_name here (rows ++ more) n ≡ to_name here rows n
  name_stays n e = go (nat_lt n (2 ^ 63)) e
    where
      go : (b : Bool) → is_some (cond b (first_name n) (if_kind n (slice_get rows ((n - 2 ^ 63) / 2)))) ≡ true
          → cond b (first_name n) (if_kind n (slice_get (rows ++ more) ((n - 2 ^ 63) / 2))) ≡ cond b (first_name n) (if_kind n (slice_get rows ((n - 2 ^ 63) / 2)))
      go true f = refl
      go false f = row_name n (slice_get rows ((n - 2 ^ 63) / 2)) refl f

  -- a category that has a row keeps its first one
  has_stays : (xs ys : List Category) (c : Category) → has by_name c xs ≡ true → has by_name c (xs ++ ys) ≡ true
  has_stays [] ys c e = absurd cc
  has_stays (x ∷ xs) ys c e = go (same_category c x) e (has_stays xs ys c)
    where
      go : (b : Bool) → (b || has by_name c xs) ≡ true → (has by_name c xs ≡ true → has by_name c (xs ++ ys) ≡ true) → (b || has by_name c (xs ++ ys)) ≡ true
      go true f later = refl
      go false f later = later f

  row_stays : (xs ys : List Category) (c : Category) → has by_name c xs ≡ true → row_of c (xs ++ ys) ≡ row_of c xs
  row_stays [] ys c e = absurd cc
  row_stays (x ∷ xs) ys c e = go (same_category c x) e (row_stays xs ys c)
    where
      go : (b : Bool) → (b || has by_name c xs) ≡ true → (has by_name c xs ≡ true → row_of c (xs ++ ys) ≡ row_of c xs) → cond b 0 (suc (row_of c (xs ++ ys))) ≡ cond b 0 (suc (row_of c xs))
      go true f later = refl
      go false f later = ap suc (later f)

  number_stays : (c : Category) → is_known here rows c ≡ true → to_number here (rows ++ more) c ≡ to_number here rows c
  number_stays c e = go (is_home here c) e
    where
      foreign : ℕ → ℕ
      foreign row = 2 ^ 63 + 2 * row + kind_number c.kind

      by_row : (a b : Bool) (m n : ℕ) → a ≡ true → b ≡ true → m ≡ n → cond a (Some (foreign m)) None ≡ cond b (Some (foreign n)) None
      by_row a b m n p q r = (λ i. cond (p i) (Some (foreign (r i))) None) ∙ sym (λ i. cond (q i) (Some (foreign n)) None)

      go : (b : Bool) → (b || has by_name c rows) ≡ true
          → cond (b || has by_name c (rows ++ more)) (Some (cond b (home_number c) (foreign (row_of c (rows ++ more))))) None ≡ cond (b || has by_name c rows) (Some (cond b (home_number c) (foreign (row_of c rows)))) None
      go true f = refl
      go false f = by_row (has by_name c (rows ++ more)) (has by_name c rows) (row_of c (rows ++ more)) (row_of c rows) (has_stays rows more c f) f (row_stays rows more c f)

  name_of_stays : (n : ℕ) → has_name here rows n ≡ true → name_of here (rows ++ more) n ≡ name_of here rows n
  name_of_stays n e = ap (λ (o : Option Category). unwrap_or o no_category) (name_stays n e)

  map_stays : (label : List ℕ) → list_all (has_name here rows) label ≡ true → map (name_of here (rows ++ more)) label ≡ map (name_of here rows) label
  map_stays [] e = refl
  map_stays (n ∷ label) e = ap₂ (λ (c : Category) (cs : List Category). c ∷ cs) (name_of_stays n (and_first (has_name here rows n) (list_all (has_name here rows) label) e)) (map_stays label (and_second (has_name here rows n) (list_all (has_name here rows) label) e))

  has_name_stays : (n : ℕ) → has_name here rows n ≡ true → has_name here (rows ++ more) n ≡ true
  has_name_stays n e = ap is_some (name_stays n e) ∙ e

  all_stay : (label : List ℕ) → list_all (has_name here rows) label ≡ true → list_all (has_name here (rows ++ more)) label ≡ true
  all_stay [] e = refl
  all_stay (n ∷ label) e = ap₂ (λ (a b : Bool). a && b) (has_name_stays n (and_first (has_name here rows n) (list_all (has_name here rows) label) e)) (all_stay label (and_second (has_name here rows n) (list_all (has_name here rows) label) e))

  labels_stay : (labels : List (List ℕ)) → have_names here rows labels ≡ true → have_names here (rows ++ more) labels ≡ true
  labels_stay [] e = refl
  labels_stay (label ∷ labels) e = ap₂ (λ (a b : Bool). a && b) (all_stay label (and_first (list_all (has_name here rows) label) (have_names here rows labels) e)) (labels_stay labels (and_second (list_all (has_name here rows) label) (have_names here rows labels) e))

  pub grown_more : IsGrown here rows (rows ++ more)
  grown_more = record {
    name = name_stays;
    number = number_stays;
    label = λ label e. ap (λ (cs : List Category). union by_name [] cs) (map_stays label (and_first (list_all (has_name here rows) label) true e));
    labels = labels_stay;
  }

pub grows_so : GrowsSo
grows_so = record {
  more = λ here rows more. grown_more here rows more;
  mapped = λ here rows c. go here rows c (is_known here rows c);
}
  where
    go : (here : PubKey) (rows : List Category) (c : Category) (b : Bool) → IsGrown here rows (cond b rows (rows ++ c ∷ []))
    go here rows c true = subst (IsGrown here rows) (append-nil rows) (grown_more here rows [])
    go here rows c false = grown_more here rows (c ∷ [])
