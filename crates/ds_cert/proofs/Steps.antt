-- Reading one field and then what is behind it.
use Rattle.std.proofs.Common.{◌≡◌, ℕ, suc, Bool, true, false, cond, List, [], ◌∷◌, ◌++◌, length, Option, Some, None, refl, sym, ap, subst, ◌∙◌, append_assoc}
use Rattle.std.specs.Prelude.{Result, Ok, Err}
use Rattle.std.proofs.lemmas.List.{take_at}
use Rattle.ds_wire.specs.Fields.{IsBytes}
use Rattle.ds_wire.proofs.FieldLaws.{IsBytes-take}
use Rattle.ds_cert.specs.Fields.{◌>>=◌, whole}
use Rattle.ds_cert.specs.Laws.{Takes, IsSpelling, IsPrefixFree}

-- the value of a step that did not fail
pub bind_ok : {A B E : Type 0} (r : Result A E) (f : A → Result B E) (y : B) → (r >>= f) ≡ Ok y → (x : A) × (r ≡ Ok x) × (f x ≡ Ok y)
bind_ok (Ok x) f y e = (x, refl, e)
bind_ok (Err d) f y e = absurd cc

pub bind_is : {A B E : Type 0} (r : Result A E) (f : A → Result B E) (x : A) (y : Result B E) → r ≡ Ok x → f x ≡ y → (r >>= f) ≡ y
bind_is {A} {B} {E} r f x y p q = ap (λ (s : Result A E). s >>= f) p ∙ q

-- a test that did not fail
pub guard_err : {A E : Type 0} (b : Bool) (d : E) (r : Result A E) (y : A) → cond b (Err d) r ≡ Ok y → (b ≡ false) × (r ≡ Ok y)
guard_err true d r y e = absurd cc
guard_err false d r y e = (refl, e)

pub guard_ok : {A E : Type 0} (b : Bool) (d : E) (r : Result A E) (y : A) → cond b r (Err d) ≡ Ok y → (b ≡ true) × (r ≡ Ok y)
guard_ok true d r y e = (refl, e)
guard_ok false d r y e = absurd cc

abbrev done : {A E : Type 0} → A → Result A E
done x = Ok x

pub ok_is : {A E : Type 0} (x y : A) → done {E = E} x ≡ done y → x ≡ y
ok_is x y e = cc

pub whole_ok : {A : Type 0} (bytes : List ℕ) (o : Option (A × List ℕ)) (x : A × List ℕ) → whole bytes o ≡ Ok x → o ≡ Some x
whole_ok bytes None x e = absurd cc
whole_ok bytes (Some y) x e = cc

pub whole_is : {A : Type 0} (bytes : List ℕ) (o : Option (A × List ℕ)) (x : A × List ℕ) → o ≡ Some x → whole bytes o ≡ Ok x
whole_is bytes None x e = absurd cc
whole_is bytes (Some y) x e = cc

pub IsBytes-behind : (text rest : List ℕ) → IsBytes (text ++ rest) → IsBytes rest
IsBytes-behind [] rest fits = fits
IsBytes-behind (x ∷ text) rest fits = IsBytes-behind text rest (λ i. fits (suc i))

pub IsBytes-front : (text rest : List ℕ) → IsBytes (text ++ rest) → IsBytes text
IsBytes-front text rest fits = subst IsBytes (take_at text rest (length text) refl) (IsBytes-take (length text) (text ++ rest) fits)

pub takes : (bytes text rest : List ℕ) → IsBytes bytes → bytes ≡ text ++ rest → Takes bytes text rest
takes bytes text rest fits e = record { parts = e; rest_fits = IsBytes-behind text rest (subst IsBytes e fits) }

pub Takes-then : (a x b y c : List ℕ) → Takes a x b → Takes b y c → Takes a (x ++ y) c
Takes-then a x b y c p q = record { parts = p.parts ∙ ap (λ (t : List ℕ). x ++ t) q.parts ∙ sym (append_assoc x y c); rest_fits = q.rest_fits }

-- a field that was read, and what is still to be read
pub reads : {A B E Goal : Type 0} (Fits : A → Type 0) (spelling : A → List ℕ) (reading : List ℕ → Result (A × List ℕ) E) (is : IsSpelling Fits spelling reading) (bytes : List ℕ) (f : A × List ℕ → Result B E) (y : B)
    → IsBytes bytes → (reading bytes >>= f) ≡ Ok y → ((value : A) (rest : List ℕ) → Takes bytes (spelling value) rest → Fits value → f (value, rest) ≡ Ok y → Goal) → Goal
reads Fits spelling reading is bytes f y fits e goal =
    let b = bind_ok (reading bytes) f y e in
    let t = is.spelled_so bytes b.0.0 b.0.1 fits b.1 in
    goal b.0.0 b.0.1 t.0 t.1 b.2

pub prefix_free : {A E : Type 0} (Fits : A → Type 0) (spelling : A → List ℕ) (reading : List ℕ → Result (A × List ℕ) E) → IsSpelling Fits spelling reading → IsPrefixFree Fits spelling
prefix_free {A} {E} Fits spelling reading is x y rest other first second e =
    let both : done {E = E} (x, rest) ≡ done (y, other) = sym (is.read_again x rest first) ∙ ap reading e ∙ is.read_again y other second in
    let pair : (x, rest) ≡ (y, other) = ok_is (x, rest) (y, other) both in
    (ap (λ (p : A × List ℕ). p.0) pair, ap (λ (p : A × List ℕ). p.1) pair)
