-- A field of a stream that is read is the field that was written, and what was written is read again.
use Rattle.std.proofs.Common.{◌≡◌, ℕ, ◌^◌, ◌<◌, false, cond, ltb, List, ◌++◌, length, Option, Some, None, refl, subst, arith}
use Rattle.std.specs.Prelude.{Result, Ok, Err}
use Rattle.std.specs.Int.{Width, w32, to_be_bytes}
use Rattle.std.proofs.lemmas.Bool.{ltb-false, le-ltb}
use Rattle.ds_wire.specs.Fields.{IsBytes, number_at, bytes_at}
use Rattle.ds_wire.proofs.FieldLaws.{IsWide, wide32, number_spelt, number_again, bytes_spelt, bytes_again}
use Rattle.ds_cert.specs.Laws.{Takes, IsSpelling}
use Rattle.ds_cert.proofs.Steps.{bind_ok, bind_is, guard_err, ok_is, takes}
use Rattle.ds_cert.proofs.FieldLaws.{IsWithin}
use Rattle.ds_frame.specs.declared.cause.Cause.{Cause}
use Rattle.ds_frame.specs.Fields.{ReadFault, Broken, field, number_from}

pub field_ok : {A : Type 0} (o : Option (A × List ℕ)) (x : A × List ℕ) → field o ≡ Ok x → o ≡ Some x
field_ok None x e = absurd cc
field_ok (Some y) x e = cc

pub field_is : {A : Type 0} (o : Option (A × List ℕ)) (x : A × List ℕ) → o ≡ Some x → field o ≡ Ok x
field_is None x e = absurd cc
field_is (Some y) x e = cc

-- any number of four bytes
abbrev pub number_field : List ℕ → Result (ℕ × List ℕ) ReadFault
number_field bytes = field (number_at w32 bytes)

abbrev pub IsLong : ℕ → Type 0
IsLong n = n < 2 ^ 32

pub is_long : IsSpelling IsLong (to_be_bytes w32) number_field
is_long = record {
  spelled_so = λ bytes n rest fits e.
      let s = number_spelt w32 (2 ^ 32) wide32 bytes n rest fits (field_ok (number_at w32 bytes) (n, rest) e) in
      (takes bytes (to_be_bytes w32 n) rest fits s.0, s.1);
  read_again = λ n rest lt. field_is (number_at w32 (to_be_bytes w32 n ++ rest)) (n, rest) (number_again w32 (2 ^ 32) wide32 n rest lt);
}

module _ (w : Width) (limit : ℕ) (wide : IsWide w limit) (low high : ℕ) (below : high < limit) (cause : Cause) (offset : ℕ) where
  abbrev tested : ℕ × List ℕ → Result (ℕ × List ℕ) ReadFault
  tested x = cond (ltb x.0 low) (Err (Broken cause offset)) (cond (ltb high x.0) (Err (Broken cause offset)) (Ok x))

  from_spelt : (bytes : List ℕ) (n : ℕ) (rest : List ℕ) → IsBytes bytes → number_from w low high cause offset bytes ≡ Ok (n, rest) → Takes bytes (to_be_bytes w n) rest × IsWithin low high n
  unfolding number_from
  from_spelt bytes n rest fits e =
      let b = bind_ok (field (number_at w bytes)) tested (n, rest) e in
      let g = guard_err (ltb b.0.0 low) (Broken cause offset) (cond (ltb high b.0.0) (Err (Broken cause offset)) (Ok b.0)) (n, rest) b.2 in
      let h = guard_err (ltb high b.0.0) (Broken cause offset) (Ok b.0) (n, rest) g.1 in
      let s = number_spelt w limit wide bytes b.0.0 b.0.1 fits (field_ok (number_at w bytes) b.0 b.1) in
      subst (λ (x : ℕ × List ℕ). Takes bytes (to_be_bytes w x.0) x.1 × IsWithin low high x.0) (ok_is b.0 (n, rest) h.1)
      (takes bytes (to_be_bytes w b.0.0) b.0.1 fits s.0, record { least = ltb-false _ _ g.0; most = ltb-false _ _ h.0 })

  from_again : (n : ℕ) (rest : List ℕ) → IsWithin low high n → number_from w low high cause offset (to_be_bytes w n ++ rest) ≡ Ok (n, rest)
  unfolding number_from
  from_again n rest fits =
      let bytes = to_be_bytes w n ++ rest in
      let lt : n < limit = omega (arith, fits.most, below) in
      let first : ltb n low ≡ false = le-ltb _ _ fits.least in
      let last : ltb high n ≡ false = le-ltb _ _ fits.most in
      bind_is (field (number_at w bytes)) tested (n, rest) (Ok (n, rest))
      (field_is (number_at w bytes) (n, rest) (number_again w limit wide n rest lt)) (rw (first, last) refl)

  pub is_from : IsSpelling (IsWithin low high) (to_be_bytes w) (number_from w low high cause offset)
  is_from = record { spelled_so = from_spelt; read_again = from_again }

pub run_spelt : (bytes : List ℕ) (count : ℕ) (run rest : List ℕ) → IsBytes bytes → field (bytes_at count bytes) ≡ Ok (run, rest) → Takes bytes run rest × (length run ≡ count)
run_spelt bytes count run rest fits e =
    let s = bytes_spelt count bytes run rest (field_ok (bytes_at count bytes) (run, rest) e) in
    (takes bytes run rest fits s.0, s.1)

pub run_again : (run rest : List ℕ) → field (bytes_at (length run) (run ++ rest)) ≡ Ok (run, rest)
run_again run rest = field_is (bytes_at (length run) (run ++ rest)) (run, rest) (bytes_again run rest)
