-- Reading certificates one after the other, as a loop does.
use Rattle.std.proofs.Common.{◌≡◌, ℕ, suc, ◌-◌, ◌+◌, ◌≤◌, ◌<◌, List, [], ◌∷◌, ◌++◌, refl, sym, ◌∙◌, arith}
use Rattle.std.specs.Prelude.{Result, Ok, Err}
use Rattle.ds_cert.specs.declared.fault.ReadFault.{ReadFault}
use Rattle.ds_cert.specs.declared.fault.ReadFault.TheVariants as read_faults
use Rattle.ds_cert.specs.Fields.{Fails}
use Rattle.ds_msg.specs.Reading.{cert_at, more_certs_at}

abbrev pub Read : Type 0
Read = Result (List (List ℕ) × List ℕ) ℕ

-- what is read once i certificates stand in front
abbrev pub IsSoFar : List (List ℕ) → ℕ → ℕ → List ℕ → Read → Type 0
IsSoFar front count i bytes total = more_certs_at (count - i) front bytes ≡ total

pub goes_on : (front : List (List ℕ)) (count i : ℕ) (bytes cert after : List ℕ) (total : Read) → i < count → cert_at front bytes ≡ Ok (cert, after)
    → IsSoFar front count i bytes total → IsSoFar (front ++ cert ∷ []) count (i + 1) after total
unfolding more_certs_at
goes_on front count i bytes cert after total lt h so_far =
    let k : count - i ≡ suc (count - (i + 1)) = omega arith in
    let one : more_certs_at (count - i) front bytes ≡ more_certs_at (count - (i + 1)) (front ++ cert ∷ []) after = rw (k, h) refl in
    sym one ∙ so_far

pub stops : (e : ReadFault) (front : List (List ℕ)) (count i : ℕ) (bytes : List ℕ) (total : Read) → i < count → Fails e (cert_at front bytes)
    → IsSoFar front count i bytes total → Fails e total
unfolding more_certs_at
stops read_faults.NoMemory front count i bytes total lt h so_far = tt
stops (read_faults.Left left) front count i bytes total lt h so_far =
    let k : count - i ≡ suc (count - (i + 1)) = omega arith in
    let one : more_certs_at (count - i) front bytes ≡ Err left = rw (k, h) refl in
    sym so_far ∙ one

pub is_done : (front : List (List ℕ)) (count i : ℕ) (bytes : List ℕ) (total : Read) → count ≤ i → IsSoFar front count i bytes total → total ≡ Ok (front, bytes)
unfolding more_certs_at
is_done front count i bytes total le so_far =
    let k : count - i ≡ 0 = omega arith in
    let one : more_certs_at (count - i) front bytes ≡ Ok (front, bytes) = rw k refl in
    sym so_far ∙ one
