-- A field that is read is the field that was written, and what was written is read again.
use Rattle.std.proofs.Common.{◌≡◌, ℕ, ◌^◌, ◌<◌, ◌≤◌, false, cond, ltb, List, ◌++◌, length, refl, sym, ap, subst, ◌∙◌, append_assoc, arith}
use Rattle.std.specs.Prelude.{Ok, Err}
use Rattle.std.specs.Int.{Width, w8, w16, w64, to_be_bytes}
use Rattle.std.specs.List.{list_all}
use Rattle.std.proofs.lemmas.Bool.{ltb-false, le-ltb}
use Rattle.ds_wire.specs.Fields.{IsBytes, number_at, bytes_at}
use Rattle.ds_wire.proofs.FieldLaws.{IsWide, wide8, wide16, wide64, number_spelt, number_again, bytes_spelt, bytes_again}
use Rattle.ds_label.specs.declared.category.PubKey.{PubKey}
use Rattle.ds_cert.specs.Fields.{◌>>=◌, whole, number_within, counted_at}
use Rattle.ds_cert.specs.Ranges.{KeyFits, is_letter, AddressTextFits, SignatureFits}
use Rattle.ds_cert.specs.Spelling.{spelling_of_address_text, spelling_of_signature}
use Rattle.ds_cert.specs.Reading.{moment_at, key_at, address_text_at, signature_at}
use Rattle.ds_cert.specs.Laws.{Takes, IsSpelling}
use Rattle.ds_cert.proofs.Steps.{bind_ok, bind_is, guard_err, guard_ok, ok_is, whole_ok, whole_is, takes, Takes-then, reads}

-- ---- numbers

abbrev pub IsMoment : ℕ → Type 0
IsMoment n = n < 2 ^ 64

pub is_moment : IsSpelling IsMoment (to_be_bytes w64) moment_at
is_moment = record {
  spelled_so = λ bytes n rest fits e.
      let s = number_spelt w64 (2 ^ 64) wide64 bytes n rest fits (whole_ok bytes (number_at w64 bytes) (n, rest) e) in
      (takes bytes (to_be_bytes w64 n) rest fits s.0, s.1);
  read_again = λ n rest lt. whole_is (to_be_bytes w64 n ++ rest) (number_at w64 (to_be_bytes w64 n ++ rest)) (n, rest) (number_again w64 (2 ^ 64) wide64 n rest lt);
}

pub record IsWithin (low high n : ℕ) : Type 0 where
  pub least : low ≤ n
  pub most : n ≤ high

module _ (w : Width) (limit : ℕ) (wide : IsWide w limit) (low high : ℕ) (below : high < limit) where
  within_spelt : (bytes : List ℕ) (n : ℕ) (rest : List ℕ) → IsBytes bytes → number_within w low high bytes ≡ Ok (n, rest) → Takes bytes (to_be_bytes w n) rest × IsWithin low high n
  unfolding number_within
  within_spelt bytes n rest fits e =
      let b = bind_ok (whole bytes (number_at w bytes)) (λ (x : ℕ × List ℕ). cond (ltb x.0 low) (Err (length bytes)) (cond (ltb high x.0) (Err (length bytes)) (Ok x))) (n, rest) e in
      let g = guard_err (ltb b.0.0 low) (length bytes) (cond (ltb high b.0.0) (Err (length bytes)) (Ok b.0)) (n, rest) b.2 in
      let h = guard_err (ltb high b.0.0) (length bytes) (Ok b.0) (n, rest) g.1 in
      let s = number_spelt w limit wide bytes b.0.0 b.0.1 fits (whole_ok bytes (number_at w bytes) b.0 b.1) in
      subst (λ (x : ℕ × List ℕ). Takes bytes (to_be_bytes w x.0) x.1 × IsWithin low high x.0) (ok_is b.0 (n, rest) h.1)
      (takes bytes (to_be_bytes w b.0.0) b.0.1 fits s.0, record { least = ltb-false _ _ g.0; most = ltb-false _ _ h.0 })

  within_again : (n : ℕ) (rest : List ℕ) → IsWithin low high n → number_within w low high (to_be_bytes w n ++ rest) ≡ Ok (n, rest)
  unfolding number_within
  within_again n rest fits =
      let bytes = to_be_bytes w n ++ rest in
      let lt : n < limit = omega (arith, fits.most, below) in
      let first : ltb n low ≡ false = le-ltb _ _ fits.least in
      let last : ltb high n ≡ false = le-ltb _ _ fits.most in
      bind_is (whole bytes (number_at w bytes)) (λ (x : ℕ × List ℕ). cond (ltb x.0 low) (Err (length bytes)) (cond (ltb high x.0) (Err (length bytes)) (Ok x))) (n, rest) (Ok (n, rest))
      (whole_is bytes (number_at w bytes) (n, rest) (number_again w limit wide n rest lt)) (rw (first, last) refl)

  pub is_within : IsSpelling (IsWithin low high) (to_be_bytes w) (number_within w low high)
  is_within = record { spelled_so = within_spelt; read_again = within_again }

-- ---- runs of bytes

pub run_spelt : (bytes : List ℕ) (count : ℕ) (run rest : List ℕ) → IsBytes bytes → whole bytes (bytes_at count bytes) ≡ Ok (run, rest) → Takes bytes run rest × (length run ≡ count)
run_spelt bytes count run rest fits e =
    let s = bytes_spelt count bytes run rest (whole_ok bytes (bytes_at count bytes) (run, rest) e) in
    (takes bytes run rest fits s.0, s.1)

pub run_again : (run rest : List ℕ) → whole (run ++ rest) (bytes_at (length run) (run ++ rest)) ≡ Ok (run, rest)
run_again run rest = whole_is (run ++ rest) (bytes_at (length run) (run ++ rest)) (run, rest) (bytes_again run rest)

key_spelt : (bytes : List ℕ) (key : PubKey) (rest : List ℕ) → IsBytes bytes → key_at bytes ≡ Ok (key, rest) → Takes bytes key.0 rest × KeyFits key
unfolding key_at
key_spelt bytes key rest fits e =
    let b = bind_ok (whole bytes (bytes_at 56 bytes)) (λ (x : List ℕ × List ℕ). Ok (record { 0 = x.0 }, x.1)) (key, rest) e in
    let made : PubKey × List ℕ = (record { 0 = b.0.0 }, b.0.1) in
    subst (λ (x : PubKey × List ℕ). Takes bytes x.0.0 x.1 × KeyFits x.0) (ok_is made (key, rest) b.2) (run_spelt bytes 56 b.0.0 b.0.1 fits b.1)

key_again : (key : PubKey) (rest : List ℕ) → KeyFits key → key_at (key.0 ++ rest) ≡ Ok (key, rest)
unfolding key_at
key_again key rest fits =
    bind_is (whole (key.0 ++ rest) (bytes_at 56 (key.0 ++ rest))) (λ (x : List ℕ × List ℕ). Ok (record { 0 = x.0 }, x.1)) (key.0, rest) (Ok (key, rest))
    (subst (λ (n : ℕ). whole (key.0 ++ rest) (bytes_at n (key.0 ++ rest)) ≡ Ok (key.0, rest)) fits (run_again key.0 rest)) refl

abbrev pub key_bytes : PubKey → List ℕ
key_bytes key = key.0

pub is_key : IsSpelling KeyFits key_bytes key_at
is_key = record { spelled_so = key_spelt; read_again = key_again }

-- ---- counted bytes

signature_spelt : (bytes run rest : List ℕ) → IsBytes bytes → signature_at bytes ≡ Ok (run, rest) → Takes bytes (spelling_of_signature run) rest × SignatureFits run
unfolding counted_at spelling_of_signature
signature_spelt bytes run rest fits e =
    reads (IsWithin 0 2508) (to_be_bytes w16) (number_within w16 0 2508) (is_within w16 (2 ^ 16) wide16 0 2508 (omega arith)) bytes (λ (x : ℕ × List ℕ). whole x.1 (bytes_at x.0 x.1)) (run, rest) fits e (λ count behind t f later.
    let u = run_spelt behind count run rest t.rest_fits later in
    (subst (λ (n : ℕ). Takes bytes (to_be_bytes w16 n ++ run) rest) (sym u.1) (Takes-then bytes (to_be_bytes w16 count) behind run rest t u.0), omega (arith, f.most, u.1)))

signature_again : (run rest : List ℕ) → SignatureFits run → signature_at (spelling_of_signature run ++ rest) ≡ Ok (run, rest)
unfolding counted_at spelling_of_signature
signature_again run rest fits =
    ap signature_at (append_assoc (to_be_bytes w16 (length run)) run rest)
    ∙ bind_is (number_within w16 0 2508 (to_be_bytes w16 (length run) ++ (run ++ rest))) (λ (x : ℕ × List ℕ). whole x.1 (bytes_at x.0 x.1)) (length run, run ++ rest) (Ok (run, rest))
    (within_again w16 (2 ^ 16) wide16 0 2508 (omega arith) (length run) (run ++ rest) (record { least = omega arith; most = fits })) (run_again run rest)

pub is_signature : IsSpelling SignatureFits spelling_of_signature signature_at
is_signature = record { spelled_so = signature_spelt; read_again = signature_again }

text_spelt : (bytes text rest : List ℕ) → IsBytes bytes → address_text_at bytes ≡ Ok (text, rest) → Takes bytes (spelling_of_address_text text) rest × AddressTextFits text
unfolding address_text_at spelling_of_address_text
text_spelt bytes text rest fits e =
    reads (IsWithin 1 64) (to_be_bytes w8) (number_within w8 1 64) (is_within w8 (2 ^ 8) wide8 1 64 (omega arith)) bytes (λ (x : ℕ × List ℕ). whole x.1 (bytes_at x.0 x.1) >>= λ (y : List ℕ × List ℕ). cond (list_all is_letter y.0) (Ok y) (Err (length x.1))) (text, rest) fits e (λ count behind t f later.
    let b = bind_ok (whole behind (bytes_at count behind)) (λ (y : List ℕ × List ℕ). cond (list_all is_letter y.0) (Ok y) (Err (length behind))) (text, rest) later in
    let g = guard_ok (list_all is_letter b.0.0) (length behind) (Ok b.0) (text, rest) b.2 in
    let u = run_spelt behind count b.0.0 b.0.1 t.rest_fits b.1 in
    subst (λ (x : List ℕ × List ℕ). Takes bytes (spelling_of_address_text x.0) x.1 × AddressTextFits x.0) (ok_is b.0 (text, rest) g.1)
    (subst (λ (n : ℕ). Takes bytes (to_be_bytes w8 n ++ b.0.0) b.0.1) (sym u.1) (Takes-then bytes (to_be_bytes w8 count) behind b.0.0 b.0.1 t u.0), record { some = omega (arith, f.least, u.1); most = omega (arith, f.most, u.1); letters = g.0 }))

text_again : (text rest : List ℕ) → AddressTextFits text → address_text_at (spelling_of_address_text text ++ rest) ≡ Ok (text, rest)
unfolding address_text_at spelling_of_address_text
text_again text rest fits =
    let behind = text ++ rest in
    ap address_text_at (append_assoc (to_be_bytes w8 (length text)) text rest)
    ∙ bind_is (number_within w8 1 64 (to_be_bytes w8 (length text) ++ behind)) (λ (x : ℕ × List ℕ). whole x.1 (bytes_at x.0 x.1) >>= λ (y : List ℕ × List ℕ). cond (list_all is_letter y.0) (Ok y) (Err (length x.1))) (length text, behind) (Ok (text, rest))
    (within_again w8 (2 ^ 8) wide8 1 64 (omega arith) (length text) behind (record { least = fits.some; most = fits.most }))
    (bind_is (whole behind (bytes_at (length text) behind)) (λ (y : List ℕ × List ℕ). cond (list_all is_letter y.0) (Ok y) (Err (length behind))) (text, rest) (Ok (text, rest)) (run_again text rest) (rw fits.letters refl))

pub is_address_text : IsSpelling AddressTextFits spelling_of_address_text address_text_at
is_address_text = record { spelled_so = text_spelt; read_again = text_again }
