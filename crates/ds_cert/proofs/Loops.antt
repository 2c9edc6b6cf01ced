-- Reading members one after the other, as a loop does.
use Rattle.std.proofs.Common.{◌≡◌, ℕ, suc, ◌-◌, ◌+◌, ◌≤◌, ◌<◌, true, false, List, [], ◌∷◌, ◌++◌, length, Option, Some, None, refl, sym, ap, ◌∙◌, append_assoc, arith}
use Rattle.std.specs.Prelude.{Result, Ok, Err}
use Rattle.std.proofs.lemmas.List.{append-nil}
use Rattle.ds_label.specs.declared.category.Category.{Category}
use Rattle.ds_label.specs.Flow.{is_above, last_of}
use Rattle.ds_label.specs.Names.{by_name}
use Rattle.ds_cert.specs.declared.fault.ReadFault.{ReadFault}
use Rattle.ds_cert.specs.declared.fault.ReadFault.TheVariants as read_faults
use Rattle.ds_cert.specs.Fields.{◌>>=◌, Fails}
use Rattle.ds_cert.specs.Reading.{category_at, category_above, members_at}

abbrev pub Read : Type 0
Read = Result (List Category × List ℕ) ℕ

-- what was read before, and what is still read
abbrev pub with_front : List Category → Read → Read
with_front front read = read >>= λ x. Ok (front ++ x.0, x.1)

regroup : (front : List Category) (c : Category) (read : Read) → with_front front (read >>= λ x. Ok (c ∷ x.0, x.1)) ≡ with_front (front ++ c ∷ []) read
regroup front c (Ok x) = ap (λ (cs : List Category). Ok (cs, x.1)) (simp append_assoc)
regroup front c (Err f) = refl

last_of-push : (o : Option Category) (front : List Category) (c : Category) → last_of o (front ++ c ∷ []) ≡ Some c
last_of-push o [] c = refl
last_of-push o (x ∷ front) c = last_of-push (Some x) front c

-- what is read once i members stand in front
abbrev pub IsSoFar : List Category → ℕ → ℕ → List ℕ → Read → Type 0
IsSoFar front count i bytes total = with_front front (members_at (count - i) (last_of None front) bytes) ≡ total

pub goes_on : (front : List Category) (count i : ℕ) (bytes : List ℕ) (c : Category) (after : List ℕ) (total : Read) → i < count → category_at bytes ≡ Ok (c, after) → is_above by_name c (last_of None front) ≡ true
    → IsSoFar front count i bytes total → IsSoFar (front ++ c ∷ []) count (i + 1) after total
unfolding members_at category_above
goes_on front count i bytes c after total lt h above so_far =
    let k : count - i ≡ suc (count - (i + 1)) = omega arith in
    let one : with_front front (members_at (count - i) (last_of None front) bytes) ≡ with_front (front ++ c ∷ []) (members_at (count - (i + 1)) (Some c) after) = rw (k, h, above) (regroup front c (members_at (count - (i + 1)) (Some c) after)) in
    rw last_of-push (sym one ∙ so_far)

pub stops : (e : ReadFault) (front : List Category) (count i : ℕ) (bytes : List ℕ) (total : Read) → i < count → Fails e (category_at bytes)
    → IsSoFar front count i bytes total → Fails e total
unfolding members_at category_above
stops read_faults.NoMemory front count i bytes total lt h so_far = tt
stops (read_faults.Left left) front count i bytes total lt h so_far =
    let k : count - i ≡ suc (count - (i + 1)) = omega arith in
    let one : with_front front (members_at (count - i) (last_of None front) bytes) ≡ Err left = rw (k, h) refl in
    sym so_far ∙ one

pub falls : (front : List Category) (count i : ℕ) (bytes : List ℕ) (c : Category) (after : List ℕ) (total : Read) → i < count → category_at bytes ≡ Ok (c, after) → is_above by_name c (last_of None front) ≡ false
    → IsSoFar front count i bytes total → total ≡ Err (length bytes)
unfolding members_at category_above
falls front count i bytes c after total lt h above so_far =
    let k : count - i ≡ suc (count - (i + 1)) = omega arith in
    let one : with_front front (members_at (count - i) (last_of None front) bytes) ≡ Err (length bytes) = rw (k, h, above) refl in
    sym so_far ∙ one

pub is_done : (front : List Category) (count i : ℕ) (bytes : List ℕ) (total : Read) → count ≤ i → IsSoFar front count i bytes total → total ≡ Ok (front, bytes)
unfolding members_at
is_done front count i bytes total le so_far =
    let k : count - i ≡ 0 = omega arith in
    let one : with_front front (members_at (count - i) (last_of None front) bytes) ≡ Ok (front, bytes) = rw k (ap (λ (cs : List Category). Ok (cs, bytes)) (append-nil front)) in
    sym so_far ∙ one
