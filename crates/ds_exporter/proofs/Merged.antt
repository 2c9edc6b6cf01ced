-- Lines behind all others stay behind.
use Rattle.std.proofs.Common.{◌≡◌, ℕ, suc, ◌<◌, Bool, true, false, List, [], ◌∷◌, ◌++◌, map, refl, ap, ◌∙◌, arith}
use Rattle.std.specs.Prelude.{nat_lt, All, if◌then◌else◌}
use Rattle.std.specs.List.{flat_map}
use Rattle.std.proofs.lemmas.List.{map-append}
use Rattle.std.proofs.lemmas.Bool.Decides.{nat_tests}
use Rattle.ds_lane.specs.declared.entry.LaneAct.{LaneAct}
use Rattle.ds_lane.specs.declared.entry.LaneAct.TheVariants.{Queued, Full, Lifted}
use Rattle.ds_lane.specs.declared.entry.LaneEntry.{LaneEntry}
use Rattle.ds_lane.specs.declared.worker_entry.WorkerEntry.{WorkerEntry}
use Rattle.ds_exporter.specs.Merging.{Stamped, act_lines, entry_lines, worker_stamped, woven, merged, line_of, lines_of}

-- each is below a stamp, or each is at it
abbrev pub Below : ℕ → List Stamped → Type 0
Below n [] = Unit {0}
Below n (x ∷ xs) = (x.stamp < n) × Below n xs

abbrev pub At : ℕ → List Stamped → Type 0
At n [] = Unit {0}
At n (x ∷ xs) = (x.stamp ≡ n) × At n xs

weaves : (n : ℕ) (x : Stamped) (rest : List Stamped → List Stamped) (ys zs : List Stamped) → x.stamp < n → At n zs → ((us : List Stamped) → rest (us ++ zs) ≡ rest us ++ zs) → woven x rest (ys ++ zs) ≡ woven x rest ys ++ zs
weaves n x rest [] [] below later more = ap (λ (us : List Stamped). x ∷ us) (more [])
weaves n x rest [] (z ∷ zs) below later more = go (nat_lt z.stamp x.stamp) (not_below z.stamp x.stamp n later.0 below)
  where
    not_below : (a b m : ℕ) → a ≡ m → b < m → nat_lt a b ≡ false
    not_below a b m p q = grind (arith, nat_tests)

    go : (b : Bool) → b ≡ false → (if b then z ∷ woven x rest zs else x ∷ rest (z ∷ zs)) ≡ x ∷ (rest [] ++ z ∷ zs)
    go true e = absurd cc
    go false e = ap (λ (us : List Stamped). x ∷ us) (more [])
weaves n x rest (y ∷ ys) zs below later more = go (nat_lt y.stamp x.stamp) (weaves n x rest ys zs below later more)
  where
    go : (b : Bool) → woven x rest (ys ++ zs) ≡ woven x rest ys ++ zs → (if b then y ∷ woven x rest (ys ++ zs) else x ∷ rest (y ∷ (ys ++ zs))) ≡ (if b then y ∷ woven x rest ys else x ∷ rest (y ∷ ys)) ++ zs
    go true e = ap (λ (us : List Stamped). y ∷ us) e
    go false e = ap (λ (us : List Stamped). x ∷ us) (more (y ∷ ys))

merges : (n : ℕ) (xs ys zs : List Stamped) → Below n xs → At n zs → merged xs (ys ++ zs) ≡ merged xs ys ++ zs
merges n [] ys zs below later = refl
merges n (x ∷ xs) ys zs below later = weaves n x (merged xs) ys zs below.0 later (λ us. merges n xs us zs below.1 later)

below_act : (n stamp : ℕ) (act : LaneAct) → stamp < n → Below n (act_lines stamp act)
below_act n stamp (Queued w) b = (b, tt)
below_act n stamp (Full w) b = (b, tt)
below_act n stamp (Lifted count) b = tt

below_both : (n : ℕ) (xs ys : List Stamped) → Below n xs → Below n ys → Below n (xs ++ ys)
below_both n [] ys b c = c
below_both n (x ∷ xs) ys b c = (b.0, below_both n xs ys b.1 c)

below_all : (n : ℕ) (history : List LaneEntry) → All (λ entry. entry.stamp < n) history → Below n (flat_map entry_lines history)
below_all n [] a = tt
below_all n (entry ∷ history) a = below_both n (entry_lines entry) (flat_map entry_lines history) (below_act n entry.stamp entry.act (a 0 entry (omega arith))) (below_all n history (λ k d w. a (suc k) d (omega (arith, w))))

-- with more entries of the worker
pub lines_more : (n : ℕ) (history : List LaneEntry) (entries more : List WorkerEntry) → All (λ entry. entry.stamp < n) history → At n (map worker_stamped more)
    → lines_of history (entries ++ more) ≡ lines_of history entries ++ map line_of (map worker_stamped more)
lines_more n history entries more below later =
    ap (λ (ys : List Stamped). map line_of (merged (flat_map entry_lines history) ys)) (map-append worker_stamped entries more)
    ∙ (ap (map line_of) (merges n (flat_map entry_lines history) (map worker_stamped entries) (map worker_stamped more) (below_all n history below) later)
    ∙ map-append line_of (merged (flat_map entry_lines history) (map worker_stamped entries)) (map worker_stamped more))
