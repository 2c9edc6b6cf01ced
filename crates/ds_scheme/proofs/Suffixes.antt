-- What follows an item that was read is the end of the bytes.
use Rattle.std.proofs.Common.{◌≡◌, ℕ, ◌+◌, Bool, true, false, cond, ltb, List, [], ◌++◌, length, take, drop, Some, None, refl, sym, ap, subst, ◌∙◌, append_assoc}
use Rattle.std.specs.Prelude.{Result, Ok, Err}
use Rattle.std.specs.Int.{Width, w8, w16, w32, byte_len, from_be_bytes}
use Rattle.std.proofs.lemmas.List.{take-append-drop}
use Rattle.ds_wire.specs.Fields.{number_at, bytes_at}
use Rattle.ds_label.specs.declared.category.PubKey.{PubKey}
use Rattle.ds_cert.specs.declared.lane.LaneCert.{LaneCert}
use Rattle.ds_cert.specs.Fields.{◌>>=◌}
use Rattle.ds_cert.specs.Reading.{read_lane_cert}
use Rattle.ds_cert.proofs.Steps.{bind_ok, ok_is}
use Rattle.ds_frame.specs.declared.cause.Cause.{Cause}
use Rattle.ds_frame.specs.declared.cause.Cause.TheVariants as causes
use Rattle.ds_frame.specs.declared.item.Frame.{Frame}
use Rattle.ds_frame.specs.Bodies.{split}
use Rattle.ds_frame.specs.Checks.{checked_cert, checked_bodies, read_hello, read_frame}
use Rattle.ds_frame.specs.Fields.{ReadFault, Broken, field, number_from}
use Rattle.ds_frame.specs.Outer.{read_outer_hello, read_outer_frame}

-- a part of the bytes stands in front of what follows
pub record IsEnd (bytes rest : List ℕ) : Type 0 where
  pub front : List ℕ
  pub parts : bytes ≡ front ++ rest

abbrev pub LeavesEnd : {A : Type 0} → (List ℕ → Result (A × List ℕ) ReadFault) → Type 0
LeavesEnd {A} reading = (bytes : List ℕ) (x : A × List ℕ) → reading bytes ≡ Ok x → IsEnd bytes x.1

pub leaves_then : {A B : Type 0} (r : List ℕ → Result (A × List ℕ) ReadFault) (f : A → List ℕ → Result (B × List ℕ) ReadFault) → LeavesEnd r → ((a : A) → LeavesEnd (f a)) → LeavesEnd (λ (bytes : List ℕ). r bytes >>= λ (x : A × List ℕ). f x.0 x.1)
leaves_then {A} {B} r f first second bytes y e =
    let b = bind_ok (r bytes) (λ (x : A × List ℕ). f x.0 x.1) y e in
    let one = first bytes b.0 b.1 in
    let two = second b.0.0 b.0.1 y b.2 in
    record { front = one.front ++ two.front; parts = one.parts ∙ ap (λ (rest : List ℕ). one.front ++ rest) two.parts ∙ sym (append_assoc one.front two.front y.1) }

-- what takes no bytes
leaves_done : {A : Type 0} (a : A) → LeavesEnd (λ (bytes : List ℕ). Ok (a, bytes))
leaves_done {A} a bytes x e = subst (λ (y : A × List ℕ). IsEnd bytes y.1) (ok_is {E = ReadFault} (a, bytes) x e) (record { front = []; parts = refl })

leaves_checked : {A B : Type 0} (r : Result A ReadFault) (g : A → B) → LeavesEnd (λ (bytes : List ℕ). r >>= λ (a : A). Ok (g a, bytes))
leaves_checked (Ok a) g = leaves_done (g a)
leaves_checked (Err stop) g = λ bytes x e. absurd cc

-- fields
leaves_front : {A : Type 0} (n : ℕ) (view : List ℕ → A) → LeavesEnd (λ (bytes : List ℕ). field (cond (ltb (length bytes) n) None (Some (view (take n bytes), drop n bytes))))
leaves_front {A} n view bytes x e = cases (ltb (length bytes) n) e
  where
    cases : (b : Bool) → field (cond b None (Some (view (take n bytes), drop n bytes))) ≡ Ok x → IsEnd bytes x.1
    cases true g = absurd cc
    cases false g = subst (λ (y : A × List ℕ). IsEnd bytes y.1) (ok_is {E = ReadFault} (view (take n bytes), drop n bytes) x g) (record { front = take n bytes; parts = sym (take-append-drop n bytes) })

leaves_number : (w : Width) → LeavesEnd (λ (bytes : List ℕ). field (number_at w bytes))
leaves_number w = leaves_front (byte_len w) (from_be_bytes w)

leaves_run : (n : ℕ) → LeavesEnd (λ (bytes : List ℕ). field (bytes_at n bytes))
leaves_run n = leaves_front n (λ (run : List ℕ). run)

leaves_test : (b c : Bool) (stop : ReadFault) (n : ℕ) → LeavesEnd (λ (bytes : List ℕ). cond b (Err stop) (cond c (Err stop) (Ok (n, bytes))))
leaves_test true c stop n = λ bytes x e. absurd cc
leaves_test false true stop n = λ bytes x e. absurd cc
leaves_test false false stop n = leaves_done n

leaves_from : (w : Width) (low high : ℕ) (cause : Cause) (offset : ℕ) → LeavesEnd (number_from w low high cause offset)
unfolding number_from
leaves_from w low high cause offset =
    leaves_then (λ (bytes : List ℕ). field (number_at w bytes)) (λ (n : ℕ) (bytes : List ℕ). cond (ltb n low) (Err (Broken cause offset)) (cond (ltb high n) (Err (Broken cause offset)) (Ok (n, bytes)))) (leaves_number w) (λ n. leaves_test (ltb n low) (ltb high n) (Broken cause offset) n)

leaves_outer_hello : LeavesEnd read_outer_hello
unfolding read_outer_hello
leaves_outer_hello =
    leaves_then _ _ (leaves_from w8 0x44 0x44 causes.Magic 0) (λ d.
    leaves_then _ _ (leaves_from w8 0x53 0x53 causes.Magic 1) (λ s.
    leaves_then _ _ (leaves_from w8 0x58 0x58 causes.Magic 2) (λ x.
    leaves_then _ _ (leaves_from w8 0x31 0x31 causes.Magic 3) (λ one.
    leaves_then _ _ (leaves_from w16 1 6860 causes.HelloCount 4) (λ count. leaves_run count)))))

leaves_outer_frame : LeavesEnd read_outer_frame
unfolding read_outer_frame
leaves_outer_frame =
    leaves_then _ _ (leaves_from w8 4 4 causes.Tag 0) (λ tag.
    leaves_then _ _ (leaves_number w32) (λ number.
    leaves_then _ _ (leaves_from w16 1 16 causes.Count 5) (λ messages.
    leaves_then _ _ (leaves_from w32 1 1155728 causes.Length 7) (λ size.
    leaves_then _ _ (leaves_run size) (λ body.
    leaves_then _ _ (leaves_from w16 1 2508 causes.SignatureCount (11 + size)) (λ count.
    leaves_then _ _ (leaves_run count) (λ signature. leaves_done (record { number = number; messages = messages; body = body; signature = signature }))))))))

pub leaves_hello : LeavesEnd read_hello
unfolding read_hello
leaves_hello = leaves_then read_outer_hello _ leaves_outer_hello (λ cert. leaves_checked (checked_cert (read_lane_cert cert)) (λ (lane : LaneCert). lane))

pub leaves_frame : (key : PubKey) → LeavesEnd (read_frame key)
unfolding read_frame
leaves_frame key = leaves_then read_outer_frame _ leaves_outer_frame (λ o. leaves_checked (checked_bodies key o (split o.messages o.body)) (λ (frame : Frame). frame))
