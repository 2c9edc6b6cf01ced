-- A body that splits is the messages behind their counts.
use Rattle.std.proofs.Common.{◌≡◌, ℕ, zero, suc, ◌-◌, ◌+◌, ◌*◌, ◌^◌, ◌<◌, ◌≤◌, true, false, cond, eqb, List, [], ◌∷◌, ◌++◌, length, Option, Some, None, refl, sym, ap, subst, ◌∙◌, append_assoc, length-append, arith}
use Rattle.std.specs.Int.{w32, to_be_bytes}
use Rattle.std.specs.List.{AllByRecursion}
use Rattle.std.proofs.lemmas.Bool.{eqb-true}
use Rattle.std.proofs.lemmas.List.{append-nil, nil_from_length}
use Rattle.std.proofs.lemmas.List.Concat.{flat_map-cons}
use Rattle.ds_wire.specs.Fields.{IsBytes, number_at, bytes_at}
use Rattle.ds_wire.proofs.FieldLaws.{wide32, number_spelt, number_again, bytes_spelt, bytes_again}
use Rattle.ds_cert.specs.Laws.{Takes}
use Rattle.ds_cert.proofs.CategoryLaws.{some_ok, some_is}
use Rattle.ds_cert.proofs.Steps.{takes, Takes-then}
use Rattle.ds_frame.specs.Bodies.{body_at, bodies_at, split}
use Rattle.ds_frame.specs.Spelling.{spelling_of_body, spelling_of_bodies}

abbrev pub IsCounted : List ℕ → Type 0
IsCounted body = length body < 2 ^ 32

abbrev done : {A : Type 0} → A → Option A
done x = Some x

some_same : {A : Type 0} (x y : A) → done x ≡ done y → x ≡ y
some_same x y e = cc

pub body_spelt : (bytes : List ℕ) (x : List ℕ × List ℕ) → IsBytes bytes → body_at bytes ≡ Some x → Takes bytes (spelling_of_body x.0) x.1 × IsCounted x.0
unfolding body_at spelling_of_body
body_spelt bytes x fits e =
    let b = some_ok (number_at w32 bytes) (λ (count : ℕ × List ℕ). bytes_at count.0 count.1) x e in
    let s = number_spelt w32 (2 ^ 32) wide32 bytes b.0.0 b.0.1 fits b.1 in
    let t = takes bytes (to_be_bytes w32 b.0.0) b.0.1 fits s.0 in
    let u = bytes_spelt b.0.0 b.0.1 x.0 x.1 b.2 in
    let v = takes b.0.1 x.0 x.1 t.rest_fits u.0 in
    (subst (λ (n : ℕ). Takes bytes (to_be_bytes w32 n ++ x.0) x.1) (sym u.1) (Takes-then bytes (to_be_bytes w32 b.0.0) b.0.1 x.0 x.1 t v), omega (arith, s.1, u.1))

pub body_again : (body rest : List ℕ) → IsCounted body → body_at (spelling_of_body body ++ rest) ≡ Some (body, rest)
unfolding body_at spelling_of_body
body_again body rest lt =
    ap body_at (append_assoc (to_be_bytes w32 (length body)) body rest)
    ∙ some_is (number_at w32 (to_be_bytes w32 (length body) ++ (body ++ rest))) (λ (count : ℕ × List ℕ). bytes_at count.0 count.1) (length body, body ++ rest) (Some (body, rest))
    (number_again w32 (2 ^ 32) wide32 (length body) (body ++ rest) lt) (bytes_again body rest)

pub record More (n : ℕ) (before : List (List ℕ)) (bytes : List ℕ) (all : List (List ℕ)) (rest : List ℕ) : Type 0 where
  pub more : List (List ℕ)
  pub joined : all ≡ before ++ more
  pub takes : Takes bytes (spelling_of_bodies more) rest
  pub count : length more ≡ n
  pub each : AllByRecursion IsCounted more

more_spelt : (n : ℕ) (before : List (List ℕ)) (bytes : List ℕ) (x : List (List ℕ) × List ℕ) → IsBytes bytes → bodies_at n before bytes ≡ Some x → More n before bytes x.0 x.1
unfolding bodies_at
more_spelt zero before bytes x fits e =
    subst (λ (y : List (List ℕ) × List ℕ). More zero before bytes y.0 y.1) (some_same (before, bytes) x e) (record { more = []; joined = sym (append-nil before); takes = record { parts = refl; rest_fits = fits }; count = refl; each = tt })
more_spelt (suc n) before bytes x fits e =
    let b = some_ok (body_at bytes) (λ (body : List ℕ × List ℕ). bodies_at n (before ++ body.0 ∷ []) body.1) x e in
    let c = body_spelt bytes b.0 fits b.1 in
    let m = more_spelt n (before ++ b.0.0 ∷ []) b.0.1 x c.0.rest_fits b.2 in
    let both = Takes-then bytes (spelling_of_body b.0.0) b.0.1 (spelling_of_bodies m.more) x.1 c.0 m.takes in
    record {
      more = b.0.0 ∷ m.more;
      joined = m.joined ∙ append_assoc before (b.0.0 ∷ []) m.more;
      takes = rw flat_map-cons both;
      count = ap suc m.count;
      each = (c.1, m.each);
    }

more_again : (more before : List (List ℕ)) (rest : List ℕ) → AllByRecursion IsCounted more → bodies_at (length more) before (spelling_of_bodies more ++ rest) ≡ Some (before ++ more, rest)
unfolding bodies_at
more_again [] before rest each = ap (λ (bodies : List (List ℕ)). Some (bodies, rest)) (sym (append-nil before))
more_again (body ∷ more) before rest each =
    let behind = spelling_of_bodies more ++ rest in
    let bytes = spelling_of_body body ++ behind in
    let regrouped : spelling_of_bodies (body ∷ more) ++ rest ≡ bytes = ap (λ (x : List ℕ). x ++ rest) (flat_map-cons spelling_of_body body more) ∙ append_assoc (spelling_of_body body) (spelling_of_bodies more) rest in
    ap (bodies_at (suc (length more)) before) regrouped
    ∙ some_is (body_at bytes) (λ (x : List ℕ × List ℕ). bodies_at (length more) (before ++ x.0 ∷ []) x.1) (body, behind) (Some (before ++ body ∷ more, rest))
    (body_again body behind each.0)
    (more_again more (before ++ body ∷ []) rest each.1 ∙ ap (λ (bodies : List (List ℕ)). Some (bodies, rest)) (append_assoc before (body ∷ []) more))

guard_none : {A : Type 0} (b : Rattle.std.proofs.Common.Bool) (x y : A) → cond b (Some x) None ≡ Some y → (b ≡ true) × (x ≡ y)
guard_none true x y e = (refl, cc)
guard_none false x y e = absurd cc

-- what splits
pub record IsSplit (messages : ℕ) (body : List ℕ) (bodies : List (List ℕ)) : Type 0 where
  pub spelled : body ≡ spelling_of_bodies bodies
  pub count : length bodies ≡ messages

pub split_spelt : (messages : ℕ) (body : List ℕ) (bodies : List (List ℕ)) → IsBytes body → split messages body ≡ Some bodies → IsSplit messages body bodies
unfolding split
split_spelt messages body bodies fits e =
    let b = some_ok (bodies_at messages [] body) (λ (x : List (List ℕ) × List ℕ). cond (eqb (length x.1) 0) (Some x.0) None) bodies e in
    let g = guard_none (eqb (length b.0.1) 0) b.0.0 bodies b.2 in
    let m = more_spelt messages [] body b.0 fits b.1 in
    let nothing : b.0.1 ≡ [] = nil_from_length b.0.1 (eqb-true _ _ g.0) in
    let is : m.more ≡ bodies = sym m.joined ∙ g.1 in
    let whole : body ≡ spelling_of_bodies m.more = m.takes.parts ∙ ap (λ (r : List ℕ). spelling_of_bodies m.more ++ r) nothing ∙ append-nil (spelling_of_bodies m.more) in
    record { spelled = subst (λ (more : List (List ℕ)). body ≡ spelling_of_bodies more) is whole; count = subst (λ (more : List (List ℕ)). length more ≡ messages) is m.count }

pub split_again : (bodies : List (List ℕ)) → AllByRecursion IsCounted bodies → split (length bodies) (spelling_of_bodies bodies) ≡ Some bodies
unfolding split
split_again bodies each =
    let read : bodies_at (length bodies) [] (spelling_of_bodies bodies) ≡ Some (bodies, []) = ap (bodies_at (length bodies) []) (sym (append-nil (spelling_of_bodies bodies))) ∙ more_again bodies [] [] each in
    some_is (bodies_at (length bodies) [] (spelling_of_bodies bodies)) (λ (x : List (List ℕ) × List ℕ). cond (eqb (length x.1) 0) (Some x.0) None) (bodies, []) (Some bodies) read refl

-- ---- lengths

pub body_length : (body : List ℕ) → length (spelling_of_body body) ≡ 4 + length body
unfolding spelling_of_body
body_length body = length-append (to_be_bytes w32 (length body)) body

pub bodies_length : (body : List ℕ) (bodies : List (List ℕ)) → length (spelling_of_bodies (body ∷ bodies)) ≡ 4 + length body + length (spelling_of_bodies bodies)
bodies_length body bodies = rw (flat_map-cons, length-append, body_length body) refl

-- each is counted by four bytes, where all together are not too long
pub all_counted : (bodies : List (List ℕ)) → length (spelling_of_bodies bodies) < 2 ^ 32 → AllByRecursion IsCounted bodies
all_counted [] lt = tt
all_counted (body ∷ bodies) lt =
    (omega (arith, lt, bodies_length body bodies), all_counted bodies (omega (arith, lt, bodies_length body bodies)))

pub some_bytes : (bodies : List (List ℕ)) → 1 ≤ length bodies → 1 ≤ length (spelling_of_bodies bodies)
some_bytes [] some = absurd (omega (arith, some))
some_bytes (body ∷ bodies) some = omega (arith, bodies_length body bodies)

-- messages of at most 72,229 bytes each
pub small_bodies : (bodies : List (List ℕ)) → AllByRecursion (λ body. length body ≤ 72229) bodies → length (spelling_of_bodies bodies) ≤ 72233 * length bodies
small_bodies [] each = omega arith
small_bodies (body ∷ bodies) each = omega (arith, each.0, small_bodies bodies each.1, bodies_length body bodies)

-- ---- one after the other, as a loop reads them

abbrev pub Read : Type 0
Read = Option (List (List ℕ) × List ℕ)

-- what is read once i messages stand in front
abbrev pub IsSoFar : List (List ℕ) → ℕ → ℕ → List ℕ → Read → Type 0
IsSoFar front count i bytes total = bodies_at (count - i) front bytes ≡ total

pub goes_on : (front : List (List ℕ)) (count i : ℕ) (bytes body after : List ℕ) (total : Read) → i < count → body_at bytes ≡ Some (body, after)
    → IsSoFar front count i bytes total → IsSoFar (front ++ body ∷ []) count (i + 1) after total
unfolding bodies_at
goes_on front count i bytes body after total lt h so_far =
    let k : count - i ≡ suc (count - (i + 1)) = omega arith in
    let one : bodies_at (count - i) front bytes ≡ bodies_at (count - (i + 1)) (front ++ body ∷ []) after = rw (k, h) refl in
    sym one ∙ so_far

pub stops : (front : List (List ℕ)) (count i : ℕ) (bytes : List ℕ) (total : Read) → i < count → body_at bytes ≡ None
    → IsSoFar front count i bytes total → total ≡ None
unfolding bodies_at
stops front count i bytes total lt h so_far =
    let k : count - i ≡ suc (count - (i + 1)) = omega arith in
    let one : bodies_at (count - i) front bytes ≡ None = rw (k, h) refl in
    sym so_far ∙ one

pub is_done : (front : List (List ℕ)) (count i : ℕ) (bytes : List ℕ) (total : Read) → count ≤ i → IsSoFar front count i bytes total → total ≡ Some (front, bytes)
unfolding bodies_at
is_done front count i bytes total le so_far =
    let k : count - i ≡ 0 = omega arith in
    let one : bodies_at (count - i) front bytes ≡ Some (front, bytes) = rw k refl in
    sym so_far ∙ one
