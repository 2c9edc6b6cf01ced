-- What was read stays read when more bytes come, and what was at fault stays at fault.
use Rattle.std.proofs.Common.{◌≡◌, ℕ, ◌+◌, ◌≤◌, Bool, true, false, cond, ltb, List, ◌++◌, length, take, drop, Option, Some, None, refl, ap, subst, ◌⊎◌, inl, inr, length-append, arith}
use Rattle.std.specs.Prelude.{Result, Ok, Err}
use Rattle.std.specs.Int.{Width, byte_len, from_be_bytes}
use Rattle.std.proofs.lemmas.Bool.{ltb-false, le-ltb}
use Rattle.std.proofs.lemmas.List.{take-append-le, drop-append-le, length-drop}
use Rattle.ds_wire.specs.Fields.{number_at, bytes_at}
use Rattle.ds_cert.specs.Fields.{◌>>=◌}
use Rattle.ds_cert.proofs.Steps.{bind_ok, bind_is}
use Rattle.ds_frame.specs.declared.cause.Cause.{Cause}
use Rattle.ds_frame.specs.Fields.{ReadFault, Broken, field, number_from}

-- a reader that takes at least that many bytes where it reads a value
pub record IsSteady {A : Type 0} (least : ℕ) (reading : List ℕ → Result (A × List ℕ) ReadFault) : Type 0 where
  pub goes_on : (bytes more : List ℕ) (x : A × List ℕ) → reading bytes ≡ Ok x → reading (bytes ++ more) ≡ Ok (x.0, x.1 ++ more)
  pub breaks : (bytes more : List ℕ) (cause : Cause) (offset : ℕ) → reading bytes ≡ Err (Broken cause offset) → reading (bytes ++ more) ≡ Err (Broken cause offset)
  pub shorter : (bytes : List ℕ) (x : A × List ℕ) → reading bytes ≡ Ok x → least + length x.1 ≤ length bytes

-- ---- one after the other

-- a step that failed: the first or the second did
pub bind_err : {A B E : Type 0} (r : Result A E) (f : A → Result B E) (e : E) → (r >>= f) ≡ Err e → (r ≡ Err e) ⊎ ((x : A) × (r ≡ Ok x) × (f x ≡ Err e))
bind_err (Ok x) f e told = inr (x, refl, told)
bind_err (Err d) f e told = inl cc

module _ {A B : Type 0} (least : ℕ) (r : List ℕ → Result (A × List ℕ) ReadFault) (f : A → List ℕ → Result (B × List ℕ) ReadFault) (first : IsSteady least r) (second : (a : A) → IsSteady 0 (f a)) where
  abbrev both : List ℕ → Result (B × List ℕ) ReadFault
  both bytes = r bytes >>= λ (x : A × List ℕ). f x.0 x.1

  then_goes_on : (bytes more : List ℕ) (y : B × List ℕ) → both bytes ≡ Ok y → both (bytes ++ more) ≡ Ok (y.0, y.1 ++ more)
  then_goes_on bytes more y e =
      let b = bind_ok (r bytes) (λ (x : A × List ℕ). f x.0 x.1) y e in
      bind_is (r (bytes ++ more)) (λ (x : A × List ℕ). f x.0 x.1) (b.0.0, b.0.1 ++ more) (Ok (y.0, y.1 ++ more)) (first.goes_on bytes more b.0 b.1) ((second b.0.0).goes_on b.0.1 more y b.2)

  then_breaks : (bytes more : List ℕ) (cause : Cause) (offset : ℕ) → both bytes ≡ Err (Broken cause offset) → both (bytes ++ more) ≡ Err (Broken cause offset)
  then_breaks bytes more cause offset e = cases (bind_err (r bytes) (λ (x : A × List ℕ). f x.0 x.1) (Broken cause offset) e)
    where
      cases : (r bytes ≡ Err (Broken cause offset)) ⊎ ((x : A × List ℕ) × (r bytes ≡ Ok x) × (f x.0 x.1 ≡ Err (Broken cause offset))) → both (bytes ++ more) ≡ Err (Broken cause offset)
      cases (inl h) = ap (λ (s : Result (A × List ℕ) ReadFault). s >>= λ (x : A × List ℕ). f x.0 x.1) (first.breaks bytes more cause offset h)
      cases (inr h) = bind_is (r (bytes ++ more)) (λ (x : A × List ℕ). f x.0 x.1) (h.0.0, h.0.1 ++ more) (Err (Broken cause offset)) (first.goes_on bytes more h.0 h.1) ((second h.0.0).breaks h.0.1 more cause offset h.2)

  then_shorter : (bytes : List ℕ) (y : B × List ℕ) → both bytes ≡ Ok y → least + length y.1 ≤ length bytes
  then_shorter bytes y e =
      let b = bind_ok (r bytes) (λ (x : A × List ℕ). f x.0 x.1) y e in
      omega (arith, first.shorter bytes b.0 b.1, (second b.0.0).shorter b.0.1 y b.2)

  pub steady_then : IsSteady least (λ (bytes : List ℕ). r bytes >>= λ (x : A × List ℕ). f x.0 x.1)
  steady_then = record { goes_on = then_goes_on; breaks = then_breaks; shorter = then_shorter }

-- ---- what takes no bytes

abbrev done : {A : Type 0} → A → Result A ReadFault
done x = Ok x

same_ok : {A : Type 0} (x y : A) → done x ≡ done y → x ≡ y
same_ok x y e = cc

pub steady_done : {A : Type 0} (a : A) → IsSteady 0 (λ (bytes : List ℕ). Ok (a, bytes))
steady_done {A} a = record {
  goes_on = λ bytes more x e. subst (λ (y : A × List ℕ). done {A = A × List ℕ} (a, bytes ++ more) ≡ Ok (y.0, y.1 ++ more)) (same_ok (a, bytes) x e) refl;
  breaks = λ bytes more cause offset e. absurd cc;
  shorter = λ bytes x e. subst (λ (y : A × List ℕ). 0 + length y.1 ≤ length bytes) (same_ok (a, bytes) x e) (omega arith);
}

pub steady_err : {A : Type 0} (stop : ReadFault) → IsSteady {A = A} 0 (λ (bytes : List ℕ). Err stop)
steady_err stop = record {
  goes_on = λ bytes more x e. absurd cc;
  breaks = λ bytes more cause offset e. e;
  shorter = λ bytes x e. absurd cc;
}

-- a test of the value that was read, which takes no bytes
pub steady_checked : {A B : Type 0} (r : Result A ReadFault) (g : A → B) → IsSteady 0 (λ (bytes : List ℕ). r >>= λ (a : A). Ok (g a, bytes))
steady_checked (Ok a) g = steady_done (g a)
steady_checked (Err stop) g = steady_err stop

-- ---- fields

module _ {A : Type 0} (n : ℕ) (view : List ℕ → A) where
  -- a field of n bytes
  abbrev front : List ℕ → Option (A × List ℕ)
  front bytes = cond (ltb (length bytes) n) None (Some (view (take n bytes), drop n bytes))

  front_goes_on : (bytes more : List ℕ) (x : A × List ℕ) → field (front bytes) ≡ Ok x → field (front (bytes ++ more)) ≡ Ok (x.0, x.1 ++ more)
  front_goes_on bytes more x e = cases (ltb (length bytes) n) refl e
    where
      cases : (b : Bool) → ltb (length bytes) n ≡ b → field (cond b None (Some (view (take n bytes), drop n bytes))) ≡ Ok x → field (front (bytes ++ more)) ≡ Ok (x.0, x.1 ++ more)
      cases true f g = absurd cc
      cases false f g =
          let long : n ≤ length bytes = ltb-false _ _ f in
          let longer : ltb (length (bytes ++ more)) n ≡ false = le-ltb _ _ (omega (arith, long, length-append bytes more)) in
          let is : field (front (bytes ++ more)) ≡ Ok (view (take n bytes), drop n bytes ++ more) = rw (longer, take-append-le n bytes more long, drop-append-le n bytes more long) refl in
          subst (λ (y : A × List ℕ). field (front (bytes ++ more)) ≡ Ok (y.0, y.1 ++ more)) (same_ok (view (take n bytes), drop n bytes) x g) is

  front_breaks : (bytes more : List ℕ) (cause : Cause) (offset : ℕ) → field (front bytes) ≡ Err (Broken cause offset) → field (front (bytes ++ more)) ≡ Err (Broken cause offset)
  front_breaks bytes more cause offset e = cases (ltb (length bytes) n) e
    where
      cases : (b : Bool) → field (cond b None (Some (view (take n bytes), drop n bytes))) ≡ Err (Broken cause offset) → field (front (bytes ++ more)) ≡ Err (Broken cause offset)
      cases true g = absurd cc
      cases false g = absurd cc

  pub front_length : (bytes : List ℕ) (x : A × List ℕ) → field (front bytes) ≡ Ok x → length bytes ≡ n + length x.1
  front_length bytes x e = cases (ltb (length bytes) n) refl e
    where
      cases : (b : Bool) → ltb (length bytes) n ≡ b → field (cond b None (Some (view (take n bytes), drop n bytes))) ≡ Ok x → length bytes ≡ n + length x.1
      cases true f g = absurd cc
      cases false f g =
          let long : n ≤ length bytes = ltb-false _ _ f in
          subst (λ (y : A × List ℕ). length bytes ≡ n + length y.1) (same_ok (view (take n bytes), drop n bytes) x g) (omega (arith, length-drop n bytes, long))

  pub steady_front : IsSteady n (λ (bytes : List ℕ). field (front bytes))
  steady_front = record { goes_on = front_goes_on; breaks = front_breaks; shorter = λ bytes x e. omega (arith, front_length bytes x e) }

pub steady_number : (w : Width) → IsSteady (byte_len w) (λ (bytes : List ℕ). field (number_at w bytes))
steady_number w = steady_front (byte_len w) (from_be_bytes w)

pub steady_run : (n : ℕ) → IsSteady n (λ (bytes : List ℕ). field (bytes_at n bytes))
steady_run n = steady_front n (λ (run : List ℕ). run)

steady_test : (b c : Bool) (stop : ReadFault) (n : ℕ) → IsSteady 0 (λ (bytes : List ℕ). cond b (Err stop) (cond c (Err stop) (Ok (n, bytes))))
steady_test true c stop n = steady_err stop
steady_test false true stop n = steady_err stop
steady_test false false stop n = steady_done n

pub steady_from : (w : Width) (low high : ℕ) (cause : Cause) (offset : ℕ) → IsSteady (byte_len w) (number_from w low high cause offset)
unfolding number_from
steady_from w low high cause offset =
    steady_then (byte_len w) (λ (bytes : List ℕ). field (number_at w bytes)) (λ (n : ℕ) (bytes : List ℕ). cond (ltb n low) (Err (Broken cause offset)) (cond (ltb high n) (Err (Broken cause offset)) (Ok (n, bytes)))) (steady_number w) (λ n. steady_test (ltb n low) (ltb high n) (Broken cause offset) n)

-- at least as many bytes as one is at least that many
pub steady_less : {A : Type 0} (least fewer : ℕ) (r : List ℕ → Result (A × List ℕ) ReadFault) → fewer ≤ least → IsSteady least r → IsSteady fewer r
steady_less least fewer r le s = record { goes_on = s.goes_on; breaks = s.breaks; shorter = λ bytes x e. omega (arith, le, s.shorter bytes x e) }
