-- A message that is read is the one that was written, and what was written is read again.
use Rattle.std.proofs.Common.{◌≡◌, ℕ, ◌^◌, ◌<◌, List, ◌++◌, length, refl, sym, ap, subst, ◌∙◌, append_assoc, arith}
use Rattle.std.specs.Prelude.{Result, Ok}
use Rattle.std.specs.Int.{w8, w32, to_be_bytes}
use Rattle.ds_wire.specs.Fields.{IsBytes, number_at, bytes_at}
use Rattle.ds_wire.proofs.FieldLaws.{wide32, number_spelt, number_again}
use Rattle.ds_cert.specs.Fields.{whole, number_within, counted_at}
use Rattle.ds_cert.specs.Laws.{Takes, IsSpelling}
use Rattle.ds_cert.specs.Reading.{key_at, label_at}
use Rattle.ds_cert.specs.Spelling.{spelling_of_label}
use Rattle.ds_cert.proofs.Steps.{bind_is, ok_is, whole_ok, whole_is, takes, Takes-then, reads}
use Rattle.ds_cert.proofs.FieldLaws.{IsWithin, is_within, is_key, run_spelt, run_again}
use Rattle.ds_cert.proofs.RecordLaws.{is_label, is_tag, tag_fits, tag_takes}
use Rattle.ds_msg.specs.declared.message.Message.{Message}
use Rattle.ds_msg.specs.Ranges.{PayloadFits, MessageFits}
use Rattle.ds_msg.specs.Reading.{slot_at, certs_at, payload_at, message_at}
use Rattle.ds_msg.specs.Spelling.{spelling_of_certs, spelling_of_payload, spelling_of_message}
use Rattle.ds_msg.proofs.CertLaws.{is_certs}
use Rattle.ds_msg.proofs.Joins.{regrouped8, takes8}

abbrev pub IsSlot : ℕ → Type 0
IsSlot n = n < 2 ^ 32

pub is_slot : IsSpelling IsSlot (to_be_bytes w32) slot_at
is_slot = record {
  spelled_so = λ bytes n rest fits e.
      let s = number_spelt w32 (2 ^ 32) wide32 bytes n rest fits (whole_ok bytes (number_at w32 bytes) (n, rest) e) in
      (takes bytes (to_be_bytes w32 n) rest fits s.0, s.1);
  read_again = λ n rest lt. whole_is (to_be_bytes w32 n ++ rest) (number_at w32 (to_be_bytes w32 n ++ rest)) (n, rest) (number_again w32 (2 ^ 32) wide32 n rest lt);
}

payload_spelt : (bytes run rest : List ℕ) → IsBytes bytes → payload_at bytes ≡ Ok (run, rest) → Takes bytes (spelling_of_payload run) rest × PayloadFits run
unfolding counted_at spelling_of_payload
payload_spelt bytes run rest fits e =
    reads (IsWithin 0 16384) (to_be_bytes w32) (number_within w32 0 16384) (is_within w32 (2 ^ 32) wide32 0 16384 (omega arith)) bytes (λ (x : ℕ × List ℕ). whole x.1 (bytes_at x.0 x.1)) (run, rest) fits e (λ count behind t f later.
    let u = run_spelt behind count run rest t.rest_fits later in
    (subst (λ (n : ℕ). Takes bytes (to_be_bytes w32 n ++ run) rest) (sym u.1) (Takes-then bytes (to_be_bytes w32 count) behind run rest t u.0), omega (arith, f.most, u.1)))

payload_again : (run rest : List ℕ) → PayloadFits run → payload_at (spelling_of_payload run ++ rest) ≡ Ok (run, rest)
unfolding counted_at spelling_of_payload
payload_again run rest fits =
    ap payload_at (append_assoc (to_be_bytes w32 (length run)) run rest)
    ∙ bind_is (number_within w32 0 16384 (to_be_bytes w32 (length run) ++ (run ++ rest))) (λ (x : ℕ × List ℕ). whole x.1 (bytes_at x.0 x.1)) (length run, run ++ rest) (Ok (run, rest))
    ((is_within w32 (2 ^ 32) wide32 0 16384 (omega arith)).read_again (length run) (run ++ rest) (record { least = omega arith; most = fits })) (run_again run rest)

pub is_payload : IsSpelling PayloadFits spelling_of_payload payload_at
is_payload = record { spelled_so = payload_spelt; read_again = payload_again }

message_spelt : (bytes : List ℕ) (x : Message) (rest : List ℕ) → IsBytes bytes → message_at bytes ≡ Ok (x, rest) → Takes bytes (spelling_of_message x) rest × MessageFits x
unfolding message_at spelling_of_message
message_spelt bytes x rest fits e =
    reads _ _ _ (is_tag 6 (omega arith)) bytes _ (x, rest) fits e (λ v0 r0 t0 f0 e0.
    reads _ _ _ is_key r0 _ (x, rest) t0.rest_fits e0 (λ v1 r1 t1 f1 e1.
    reads _ _ _ is_slot r1 _ (x, rest) t1.rest_fits e1 (λ v2 r2 t2 f2 e2.
    reads _ _ _ is_label r2 _ (x, rest) t2.rest_fits e2 (λ v3 r3 t3 f3 e3.
    reads _ _ _ is_label r3 _ (x, rest) t3.rest_fits e3 (λ v4 r4 t4 f4 e4.
    reads _ _ _ is_label r4 _ (x, rest) t4.rest_fits e4 (λ v5 r5 t5 f5 e5.
    reads _ _ _ is_certs r5 _ (x, rest) t5.rest_fits e5 (λ v6 r6 t6 f6 e6.
    reads _ _ _ is_payload r6 _ (x, rest) t6.rest_fits e6 (λ v7 r7 t7 f7 e7.
    let made : Message = record { to = v1; slot = v2; label = v3; own = v4; clear = v5; certs = v6; payload = v7 } in
    let taken : Takes bytes (spelling_of_message made) r7 = takes8 bytes (to_be_bytes w8 6) r0 (v1.0) r1 (to_be_bytes w32 v2) r2 (spelling_of_label v3) r3 (spelling_of_label v4) r4 (spelling_of_label v5) r5 (spelling_of_certs v6) r6 (spelling_of_payload v7) r7 (tag_takes 6 bytes v0 r0 f0 t0) t1 t2 t3 t4 t5 t6 t7 in
    let fit : MessageFits made = record { to = f1; slot = f2; label = f3; own = f4; clear = f5; range = record { certs = f6; payload = f7 } } in
    subst (λ (y : Message × List ℕ). Takes bytes (spelling_of_message y.0) y.1 × MessageFits y.0) (ok_is (made, r7) (x, rest) e7) (taken, fit)))))))))

message_again : (x : Message) (rest : List ℕ) → MessageFits x → message_at (spelling_of_message x ++ rest) ≡ Ok (x, rest)
unfolding message_at spelling_of_message
message_again x rest fits =
    let result : Result (Message × List ℕ) ℕ = Ok (x, rest) in
    let r7 : List ℕ = spelling_of_payload x.payload ++ rest in
    let r6 : List ℕ = spelling_of_certs x.certs ++ r7 in
    let r5 : List ℕ = spelling_of_label x.clear ++ r6 in
    let r4 : List ℕ = spelling_of_label x.own ++ r5 in
    let r3 : List ℕ = spelling_of_label x.label ++ r4 in
    let r2 : List ℕ = to_be_bytes w32 x.slot ++ r3 in
    let r1 : List ℕ = x.to.0 ++ r2 in
    let tag = is_tag 6 (omega arith) in
    ap message_at (regrouped8 (to_be_bytes w8 6) (x.to.0) (to_be_bytes w32 x.slot) (spelling_of_label x.label) (spelling_of_label x.own) (spelling_of_label x.clear) (spelling_of_certs x.certs) (spelling_of_payload x.payload) rest)
    ∙ bind_is (number_within w8 6 6 (to_be_bytes w8 6 ++ r1)) _ (6, r1) result (tag.read_again 6 r1 (tag_fits 6))
    (bind_is (key_at r1) _ (x.to, r2) result (is_key.read_again x.to r2 fits.to)
    (bind_is (slot_at r2) _ (x.slot, r3) result (is_slot.read_again x.slot r3 fits.slot)
    (bind_is (label_at r3) _ (x.label, r4) result (is_label.read_again x.label r4 fits.label)
    (bind_is (label_at r4) _ (x.own, r5) result (is_label.read_again x.own r5 fits.own)
    (bind_is (label_at r5) _ (x.clear, r6) result (is_label.read_again x.clear r6 fits.clear)
    (bind_is (certs_at r6) _ (x.certs, r7) result (is_certs.read_again x.certs r7 fits.range.certs)
    (bind_is (payload_at r7) _ (x.payload, rest) result (is_payload.read_again x.payload rest fits.range.payload) refl)))))))

pub is_message : IsSpelling MessageFits spelling_of_message message_at
is_message = record { spelled_so = message_spelt; read_again = message_again }
