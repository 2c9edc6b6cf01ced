-- The outer spelling that is read is the one that was written, and what was written is read again.
use Rattle.std.proofs.Common.{◌≡◌, ℕ, ◌+◌, ◌^◌, ◌<◌, ◌≤◌, List, ◌++◌, length, take, length-append, refl, sym, ap, subst, ◌∙◌, append_assoc, arith}
use Rattle.std.specs.Prelude.{Result, Ok}
use Rattle.std.proofs.lemmas.List.{take_at}
use Rattle.std.specs.Int.{w8, w16, w32, to_be_bytes}
use Rattle.ds_wire.specs.Fields.{IsBytes, bytes_at}
use Rattle.ds_wire.proofs.FieldLaws.{wide8, wide16, wide32}
use Rattle.ds_cert.specs.Laws.{Takes, IsSpelling}
use Rattle.ds_cert.specs.Spelling.{spelling_of_signature}
use Rattle.ds_cert.proofs.Steps.{bind_is, ok_is, Takes-then, reads}
use Rattle.ds_cert.proofs.FieldLaws.{IsWithin}
use Rattle.ds_cert.proofs.RecordLaws.{tag_fits, tag_takes}
use Rattle.ds_frame.specs.declared.cause.Cause.{Cause}
use Rattle.ds_frame.specs.declared.cause.Cause.TheVariants as causes
use Rattle.ds_frame.specs.Fields.{ReadFault, field, number_from}
use Rattle.ds_frame.specs.Ranges.{HelloFits, OuterFrameFits}
use Rattle.ds_frame.specs.Outer.{read_outer_hello, read_outer_frame}
use Rattle.ds_frame.specs.Spelling.{outer_spelling_of_hello, OuterFrame, signed_fields, outer_spelling_of_frame}
use Rattle.ds_frame.proofs.FieldLaws.{number_field, is_long, is_from, run_spelt, run_again}

is_byte : (byte : ℕ) → byte < 2 ^ 8 → (cause : Cause) (offset : ℕ) → IsSpelling (IsWithin byte byte) (to_be_bytes w8) (number_from w8 byte byte cause offset)
is_byte byte lt cause offset = is_from w8 (2 ^ 8) wide8 byte byte lt cause offset

-- ---- hellos

regrouped6 : (a b c d e f rest : List ℕ) → (a ++ (b ++ (c ++ (d ++ (e ++ f))))) ++ rest ≡ a ++ (b ++ (c ++ (d ++ (e ++ (f ++ rest)))))
regrouped6 a b c d e f rest = simp append_assoc

hello_spelt : (bytes cert rest : List ℕ) → IsBytes bytes → read_outer_hello bytes ≡ Ok (cert, rest) → Takes bytes (outer_spelling_of_hello cert) rest × HelloFits cert
unfolding read_outer_hello outer_spelling_of_hello
hello_spelt bytes cert rest fits e =
    reads _ _ _ (is_byte 0x44 (omega arith) causes.Magic 0) bytes _ (cert, rest) fits e (λ v0 r0 t0 f0 e0.
    reads _ _ _ (is_byte 0x53 (omega arith) causes.Magic 1) r0 _ (cert, rest) t0.rest_fits e0 (λ v1 r1 t1 f1 e1.
    reads _ _ _ (is_byte 0x58 (omega arith) causes.Magic 2) r1 _ (cert, rest) t1.rest_fits e1 (λ v2 r2 t2 f2 e2.
    reads _ _ _ (is_byte 0x31 (omega arith) causes.Magic 3) r2 _ (cert, rest) t2.rest_fits e2 (λ v3 r3 t3 f3 e3.
    reads _ _ _ (is_from w16 (2 ^ 16) wide16 1 6860 (omega arith) causes.HelloCount 4) r3 _ (cert, rest) t3.rest_fits e3 (λ v4 r4 t4 f4 e4.
    let u = run_spelt r4 v4 cert rest t4.rest_fits e4 in
    let counted : Takes r3 (to_be_bytes w16 (length cert) ++ cert) rest = subst (λ (n : ℕ). Takes r3 (to_be_bytes w16 n ++ cert) rest) (sym u.1) (Takes-then r3 (to_be_bytes w16 v4) r4 cert rest t4 u.0) in
    let u3 = Takes-then r2 (to_be_bytes w8 0x31) r3 (to_be_bytes w16 (length cert) ++ cert) rest (tag_takes 0x31 r2 v3 r3 f3 t3) counted in
    let u2 = Takes-then r1 (to_be_bytes w8 0x58) r2 (to_be_bytes w8 0x31 ++ (to_be_bytes w16 (length cert) ++ cert)) rest (tag_takes 0x58 r1 v2 r2 f2 t2) u3 in
    let u1 = Takes-then r0 (to_be_bytes w8 0x53) r1 (to_be_bytes w8 0x58 ++ (to_be_bytes w8 0x31 ++ (to_be_bytes w16 (length cert) ++ cert))) rest (tag_takes 0x53 r0 v1 r1 f1 t1) u2 in (
      Takes-then bytes (to_be_bytes w8 0x44) r0 (to_be_bytes w8 0x53 ++ (to_be_bytes w8 0x58 ++ (to_be_bytes w8 0x31 ++ (to_be_bytes w16 (length cert) ++ cert)))) rest (tag_takes 0x44 bytes v0 r0 f0 t0) u1,
      record { some = omega (arith, f4.least, u.1); most = omega (arith, f4.most, u.1) },
    ))))))

hello_again : (cert rest : List ℕ) → HelloFits cert → read_outer_hello (outer_spelling_of_hello cert ++ rest) ≡ Ok (cert, rest)
unfolding read_outer_hello outer_spelling_of_hello
hello_again cert rest fits =
    let result : Result (List ℕ × List ℕ) ReadFault = Ok (cert, rest) in
    let r4 : List ℕ = cert ++ rest in
    let r3 : List ℕ = to_be_bytes w16 (length cert) ++ r4 in
    let r2 : List ℕ = to_be_bytes w8 0x31 ++ r3 in
    let r1 : List ℕ = to_be_bytes w8 0x58 ++ r2 in
    let r0 : List ℕ = to_be_bytes w8 0x53 ++ r1 in
    ap read_outer_hello (regrouped6 (to_be_bytes w8 0x44) (to_be_bytes w8 0x53) (to_be_bytes w8 0x58) (to_be_bytes w8 0x31) (to_be_bytes w16 (length cert)) cert rest)
    ∙ bind_is (number_from w8 0x44 0x44 causes.Magic 0 (to_be_bytes w8 0x44 ++ r0)) _ (0x44, r0) result ((is_byte 0x44 (omega arith) causes.Magic 0).read_again 0x44 r0 (tag_fits 0x44))
    (bind_is (number_from w8 0x53 0x53 causes.Magic 1 r0) _ (0x53, r1) result ((is_byte 0x53 (omega arith) causes.Magic 1).read_again 0x53 r1 (tag_fits 0x53))
    (bind_is (number_from w8 0x58 0x58 causes.Magic 2 r1) _ (0x58, r2) result ((is_byte 0x58 (omega arith) causes.Magic 2).read_again 0x58 r2 (tag_fits 0x58))
    (bind_is (number_from w8 0x31 0x31 causes.Magic 3 r2) _ (0x31, r3) result ((is_byte 0x31 (omega arith) causes.Magic 3).read_again 0x31 r3 (tag_fits 0x31))
    (bind_is (number_from w16 1 6860 causes.HelloCount 4 r3) _ (length cert, r4) result ((is_from w16 (2 ^ 16) wide16 1 6860 (omega arith) causes.HelloCount 4).read_again (length cert) r4 (record { least = fits.some; most = fits.most })) (run_again cert rest)))))

pub is_outer_hello : IsSpelling HelloFits (λ (cert : List ℕ). outer_spelling_of_hello cert) read_outer_hello
is_outer_hello = record { spelled_so = hello_spelt; read_again = hello_again }

-- ---- frames

regrouped_frame : (a b c d e f g rest : List ℕ) → ((a ++ (b ++ (c ++ (d ++ e)))) ++ (f ++ g)) ++ rest ≡ a ++ (b ++ (c ++ (d ++ (e ++ (f ++ (g ++ rest))))))
regrouped_frame a b c d e f g rest = simp append_assoc

spread_frame : (a b c d e f g rest : List ℕ) → (a ++ (b ++ (c ++ (d ++ (e ++ (f ++ g)))))) ++ rest ≡ ((a ++ (b ++ (c ++ (d ++ e)))) ++ (f ++ g)) ++ rest
spread_frame a b c d e f g rest = simp append_assoc

takes_frame : (bytes a r0 b r1 c r2 d r3 e r4 f r5 g r6 : List ℕ) → Takes bytes a r0 → Takes r0 b r1 → Takes r1 c r2 → Takes r2 d r3 → Takes r3 e r4 → Takes r4 f r5 → Takes r5 g r6 → Takes bytes ((a ++ (b ++ (c ++ (d ++ e)))) ++ (f ++ g)) r6
takes_frame bytes a r0 b r1 c r2 d r3 e r4 f r5 g r6 t0 t1 t2 t3 t4 t5 t6 =
    let u5 = Takes-then r4 f r5 g r6 t5 t6 in
    let u4 = Takes-then r3 e r4 (f ++ g) r6 t4 u5 in
    let u3 = Takes-then r2 d r3 (e ++ (f ++ g)) r6 t3 u4 in
    let u2 = Takes-then r1 c r2 (d ++ (e ++ (f ++ g))) r6 t2 u3 in
    let u1 = Takes-then r0 b r1 (c ++ (d ++ (e ++ (f ++ g)))) r6 t1 u2 in
    let u0 = Takes-then bytes a r0 (b ++ (c ++ (d ++ (e ++ (f ++ g))))) r6 t0 u1 in
    record { parts = u0.parts ∙ spread_frame a b c d e f g r6; rest_fits = u0.rest_fits }

frame_spelt : (bytes : List ℕ) (o : OuterFrame) (rest : List ℕ) → IsBytes bytes → read_outer_frame bytes ≡ Ok (o, rest) → Takes bytes (outer_spelling_of_frame o) rest × OuterFrameFits o
unfolding read_outer_frame outer_spelling_of_frame signed_fields spelling_of_signature
frame_spelt bytes o rest fits e =
    reads _ _ _ (is_byte 4 (omega arith) causes.Tag 0) bytes _ (o, rest) fits e (λ v0 r0 t0 f0 e0.
    reads _ _ _ is_long r0 _ (o, rest) t0.rest_fits e0 (λ v1 r1 t1 f1 e1.
    reads _ _ _ (is_from w16 (2 ^ 16) wide16 1 16 (omega arith) causes.Count 5) r1 _ (o, rest) t1.rest_fits e1 (λ v2 r2 t2 f2 e2.
    reads _ _ _ (is_from w32 (2 ^ 32) wide32 1 1155728 (omega arith) causes.Length 7) r2 _ (o, rest) t2.rest_fits e2 (λ v3 r3 t3 f3 e3.
    let b = Rattle.ds_cert.proofs.Steps.bind_ok (field (bytes_at v3 r3)) _ (o, rest) e3 in
    let body = run_spelt r3 v3 b.0.0 b.0.1 t3.rest_fits b.1 in
    reads _ _ _ (is_from w16 (2 ^ 16) wide16 1 2508 (omega arith) causes.SignatureCount (11 + v3)) b.0.1 _ (o, rest) body.0.rest_fits b.2 (λ v5 r5 t5 f5 e5.
    let s = Rattle.ds_cert.proofs.Steps.bind_ok (field (bytes_at v5 r5)) _ (o, rest) e5 in
    let signature = run_spelt r5 v5 s.0.0 s.0.1 t5.rest_fits s.1 in
    let made : OuterFrame = record { number = v1; messages = v2; body = b.0.0; signature = s.0.0 } in
    let size : Takes r2 (to_be_bytes w32 (length b.0.0)) r3 = subst (λ (n : ℕ). Takes r2 (to_be_bytes w32 n) r3) (sym body.1) t3 in
    let count : Takes b.0.1 (to_be_bytes w16 (length s.0.0)) r5 = subst (λ (n : ℕ). Takes b.0.1 (to_be_bytes w16 n) r5) (sym signature.1) t5 in
    let taken : Takes bytes (outer_spelling_of_frame made) s.0.1 = takes_frame bytes (to_be_bytes w8 4) r0 (to_be_bytes w32 v1) r1 (to_be_bytes w16 v2) r2 (to_be_bytes w32 (length b.0.0)) r3 b.0.0 b.0.1 (to_be_bytes w16 (length s.0.0)) r5 s.0.0 s.0.1 (tag_takes 4 bytes v0 r0 f0 t0) t1 t2 size body.0 count signature.0 in
    let fit : OuterFrameFits made = record { number = f1; first = f2.least; last = f2.most; some = omega (arith, f3.least, body.1); most = omega (arith, f3.most, body.1); signature = record { some = omega (arith, f5.least, signature.1); most = omega (arith, f5.most, signature.1) } } in
    subst (λ (y : OuterFrame × List ℕ). Takes bytes (outer_spelling_of_frame y.0) y.1 × OuterFrameFits y.0) (ok_is (made, s.0.1) (o, rest) s.2) (taken, fit))))))

frame_again : (o : OuterFrame) (rest : List ℕ) → OuterFrameFits o → read_outer_frame (outer_spelling_of_frame o ++ rest) ≡ Ok (o, rest)
unfolding read_outer_frame outer_spelling_of_frame signed_fields spelling_of_signature
frame_again o rest fits =
    let result : Result (OuterFrame × List ℕ) ReadFault = Ok (o, rest) in
    let r6 : List ℕ = o.signature ++ rest in
    let r5 : List ℕ = to_be_bytes w16 (length o.signature) ++ r6 in
    let r4 : List ℕ = o.body ++ r5 in
    let r3 : List ℕ = to_be_bytes w32 (length o.body) ++ r4 in
    let r2 : List ℕ = to_be_bytes w16 o.messages ++ r3 in
    let r1 : List ℕ = to_be_bytes w32 o.number ++ r2 in
    ap read_outer_frame (regrouped_frame (to_be_bytes w8 4) (to_be_bytes w32 o.number) (to_be_bytes w16 o.messages) (to_be_bytes w32 (length o.body)) o.body (to_be_bytes w16 (length o.signature)) o.signature rest)
    ∙ bind_is (number_from w8 4 4 causes.Tag 0 (to_be_bytes w8 4 ++ r1)) _ (4, r1) result ((is_byte 4 (omega arith) causes.Tag 0).read_again 4 r1 (tag_fits 4))
    (bind_is (number_field r1) _ (o.number, r2) result (is_long.read_again o.number r2 fits.number)
    (bind_is (number_from w16 1 16 causes.Count 5 r2) _ (o.messages, r3) result ((is_from w16 (2 ^ 16) wide16 1 16 (omega arith) causes.Count 5).read_again o.messages r3 (record { least = fits.first; most = fits.last }))
    (bind_is (number_from w32 1 1155728 causes.Length 7 r3) _ (length o.body, r4) result ((is_from w32 (2 ^ 32) wide32 1 1155728 (omega arith) causes.Length 7).read_again (length o.body) r4 (record { least = fits.some; most = fits.most }))
    (bind_is (field (bytes_at (length o.body) r4)) _ (o.body, r5) result (run_again o.body r5)
    (bind_is (number_from w16 1 2508 causes.SignatureCount (11 + length o.body) r5) _ (length o.signature, r6) result ((is_from w16 (2 ^ 16) wide16 1 2508 (omega arith) causes.SignatureCount (11 + length o.body)).read_again (length o.signature) r6 (record { least = fits.signature.some; most = fits.signature.most }))
    (bind_is (field (bytes_at (length o.signature) r6)) _ (o.signature, rest) result (run_again o.signature rest) refl))))))

pub is_outer_frame : IsSpelling OuterFrameFits outer_spelling_of_frame read_outer_frame
is_outer_frame = record { spelled_so = frame_spelt; read_again = frame_again }

-- ---- the part of a frame that is signed

pub record IsPart (bytes : List ℕ) (o : OuterFrame) : Type 0 where
  pub inside : 11 + length o.body ≤ length bytes
  pub most : length o.body ≤ 1155728
  pub front : take (11 + length o.body) bytes ≡ signed_fields o.number o.messages o.body

pub fields_length : (number messages : ℕ) (body : List ℕ) → length (signed_fields number messages body) ≡ 11 + length body
unfolding signed_fields
fields_length number messages body = omega arith

pub signed_part : (bytes : List ℕ) (o : OuterFrame) (rest : List ℕ) → IsBytes bytes → read_outer_frame bytes ≡ Ok (o, rest) → IsPart bytes o
unfolding outer_spelling_of_frame
signed_part bytes o rest fits e =
    let spelt = frame_spelt bytes o rest fits e in
    let fields = signed_fields o.number o.messages o.body in
    let behind = spelling_of_signature o.signature ++ rest in
    let parts : bytes ≡ fields ++ behind = spelt.0.parts ∙ append_assoc fields (spelling_of_signature o.signature) rest in
    let size = fields_length o.number o.messages o.body in
    record {
      inside = omega (arith, ap length parts, length-append fields behind, size);
      most = spelt.1.most;
      front = ap (take (11 + length o.body)) parts ∙ take_at fields behind (11 + length o.body) size;
    }
