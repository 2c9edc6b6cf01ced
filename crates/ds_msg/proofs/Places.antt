-- A fault is within the input, and near its front: a message is never longer than 72,229 bytes.
use Rattle.std.proofs.Common.{◌≡◌, ℕ, zero, suc, ◌+◌, ◌*◌, ◌≤◌, cond, List, [], ◌∷◌, ◌++◌, length, sym, ap, subst, ◌∙◌, arith}
use Rattle.std.specs.Prelude.{Result, Ok, Err}
use Rattle.std.specs.Int.{w8, w16, w32}
use Rattle.std.proofs.lemmas.List.{append-nil}
use Rattle.ds_wire.specs.Fields.{bytes_at}
use Rattle.ds_cert.specs.Fields.{whole, number_within, counted_at}
use Rattle.ds_cert.specs.Reading.{key_at, label_at}
use Rattle.ds_cert.proofs.Places.{Uses, left_of, uses_then, uses_tested, tested, uses_number, uses_run, uses_within, within_most, uses_more, uses_key, uses_label, uses_end}
use Rattle.ds_msg.specs.declared.message.Message.{Message}
use Rattle.ds_msg.specs.Ranges.{MessageFits}
use Rattle.ds_msg.specs.Reading.{is_new_delegation, slot_at, cert_at, more_certs_at, certs_at, payload_at, message_at}
use Rattle.ds_msg.specs.Spelling.{spelling_of_message}
use Rattle.ds_msg.proofs.RecordLaws.{is_message}

uses_cert : (before : List (List ℕ)) (bytes : List ℕ) → Uses (2 + 2704) bytes (left_of (cert_at before bytes))
unfolding cert_at
uses_cert before bytes = uses_then 2 2704 bytes (number_within w16 1 2704 bytes) _ (uses_within w16 1 2704 bytes) (λ x e.
    uses_tested 2704 x.1 (whole x.1 (bytes_at x.0 x.1)) (λ (y : List ℕ × List ℕ). cond (is_new_delegation before y.0) (Ok y) (Err (length x.1)))
    (uses_more x.0 2704 x.1 (left_of (whole x.1 (bytes_at x.0 x.1))) (within_most w16 1 2704 bytes x e) (uses_run x.0 x.1))
    (λ y. tested (is_new_delegation before y.0) (length x.1) y))

uses_more_certs : (n : ℕ) (before : List (List ℕ)) (bytes : List ℕ) → Uses (2706 * n) bytes (left_of (more_certs_at n before bytes))
unfolding more_certs_at
uses_more_certs zero before bytes = record { inside = omega arith; near = omega arith }
uses_more_certs (suc n) before bytes =
    let both = uses_then 2706 (2706 * n) bytes (cert_at before bytes) (λ (cert : List ℕ × List ℕ). more_certs_at n (before ++ cert.0 ∷ []) cert.1) (uses_cert before bytes) (λ cert e. uses_more_certs n (before ++ cert.0 ∷ []) cert.1) in
    record { inside = both.inside; near = omega (arith, both.near) }

uses_certs : (bytes : List ℕ) → Uses (1 + 2706 * 16) bytes (left_of (certs_at bytes))
unfolding certs_at
uses_certs bytes = uses_then 1 (2706 * 16) bytes (number_within w8 0 16 bytes) (λ (x : ℕ × List ℕ). more_certs_at x.0 [] x.1) (uses_within w8 0 16 bytes)
    (λ x e. uses_more (2706 * x.0) (2706 * 16) x.1 (left_of (more_certs_at x.0 [] x.1)) (omega (arith, within_most w8 0 16 bytes x e)) (uses_more_certs x.0 [] x.1))

uses_payload : (bytes : List ℕ) → Uses (4 + 16384) bytes (left_of (payload_at bytes))
unfolding counted_at
uses_payload bytes = uses_then 4 16384 bytes (number_within w32 0 16384 bytes) (λ (x : ℕ × List ℕ). whole x.1 (bytes_at x.0 x.1)) (uses_within w32 0 16384 bytes) (λ x e. uses_more x.0 16384 x.1 (left_of (whole x.1 (bytes_at x.0 x.1))) (within_most w32 0 16384 bytes x e) (uses_run x.0 x.1))

pub uses_message : (bytes : List ℕ) → Uses 72229 bytes (left_of (message_at bytes))
unfolding message_at
uses_message bytes =
    uses_then 1 _ bytes (number_within w8 6 6 bytes) _ (uses_within w8 6 6 bytes) (λ a e.
    uses_then 56 _ a.1 (key_at a.1) _ (uses_key a.1) (λ b e.
    uses_then 4 _ b.1 (slot_at b.1) _ (uses_number w32 b.1) (λ c e.
    uses_then (1 + 65 * 64) _ c.1 (label_at c.1) _ (uses_label c.1) (λ d e.
    uses_then (1 + 65 * 64) _ d.1 (label_at d.1) _ (uses_label d.1) (λ f e.
    uses_then (1 + 65 * 64) _ f.1 (label_at f.1) _ (uses_label f.1) (λ g e.
    uses_then (1 + 2706 * 16) _ g.1 (certs_at g.1) _ (uses_certs g.1) (λ h e.
    uses_then (4 + 16384) 0 h.1 (payload_at h.1) _ (uses_payload h.1) (λ i e. uses_end i i.1))))))))

pub message_length : (m : Message) → MessageFits m → length (spelling_of_message m) ≤ 72229
message_length m fits =
    let bytes = spelling_of_message m in
    let read : message_at bytes ≡ Ok (m, []) = ap message_at (sym (append-nil bytes)) ∙ is_message.read_again m [] fits in
    let used = subst (λ (r : Result (Message × List ℕ) ℕ). Uses 72229 bytes (left_of r)) read (uses_message bytes) in
    omega (arith, used.near)
