-- What isn't whole yet has fewer bytes than the longest frame.
use Rattle.std.proofs.Common.{◌≡◌, ℕ, ◌+◌, ◌≤◌, ◌<◌, Bool, true, false, cond, ltb, List, length, take, drop, Option, Some, None, refl, subst, ◌⊎◌, inl, inr, arith}
use Rattle.std.specs.Prelude.{Result, Ok, Err}
use Rattle.std.specs.Int.{Width, w8, w16, w32, byte_len, from_be_bytes}
use Rattle.std.proofs.lemmas.Bool.{ltb-true, ltb-false}
use Rattle.ds_wire.specs.Fields.{number_at, bytes_at}
use Rattle.ds_label.specs.declared.category.PubKey.{PubKey}
use Rattle.ds_cert.specs.declared.lane.LaneCert.{LaneCert}
use Rattle.ds_cert.specs.Fields.{◌>>=◌}
use Rattle.ds_cert.specs.Reading.{read_lane_cert}
use Rattle.ds_cert.proofs.Steps.{bind_ok, ok_is}
use Rattle.ds_frame.specs.declared.cause.Cause.{Cause}
use Rattle.ds_frame.specs.declared.cause.Cause.TheVariants as causes
use Rattle.ds_frame.specs.declared.item.Frame.{Frame}
use Rattle.ds_frame.specs.declared.item.Item.TheVariants as items
use Rattle.ds_frame.specs.declared.item.ReadFaultOrMemory.{ReadFaultOrMemory}
use Rattle.ds_frame.specs.declared.item.ReadFaultOrMemory.TheVariants as halts
use Rattle.ds_frame.specs.Bodies.{split}
use Rattle.ds_frame.specs.Checks.{is_good, is_good_lane_cert, checked_cert, begins_with, checked_bodies, read_hello, read_frame, read_item}
use Rattle.ds_frame.specs.Fields.{Halts, IsOpenBelow, ReadFault, Open, Broken, field, number_from}
use Rattle.ds_frame.specs.Outer.{read_outer_hello, read_outer_frame}
use Rattle.ds_frame.specs.Spelling.{OuterFrame, signed_fields}
use Rattle.ds_frame.proofs.Steady.{bind_err, front_length}

-- A reader that waits for fewer than that many bytes, takes at most that many, and whose values have the property.
pub record IsWithin {A : Type 0} (P : A → Type 0) (most : ℕ) (reading : List ℕ → Result (A × List ℕ) ReadFault) : Type 0 where
  pub waits : (bytes : List ℕ) → reading bytes ≡ Err Open → length bytes < most
  pub takes : (bytes : List ℕ) (x : A × List ℕ) → reading bytes ≡ Ok x → length bytes ≤ most + length x.1
  pub gives : (bytes : List ℕ) (x : A × List ℕ) → reading bytes ≡ Ok x → P x.0

abbrev Any : {A : Type 0} → A → Type 0
Any a = Unit {0}

module _ {A B : Type 0} (P : A → Type 0) (m n : ℕ) (r : List ℕ → Result (A × List ℕ) ReadFault) (f : A → List ℕ → Result (B × List ℕ) ReadFault) (first : IsWithin P m r) (second : (a : A) → P a → IsWithin Any n (f a)) where
  abbrev both : List ℕ → Result (B × List ℕ) ReadFault
  both bytes = r bytes >>= λ (x : A × List ℕ). f x.0 x.1

  both_wait : (bytes : List ℕ) → both bytes ≡ Err Open → length bytes < m + n
  both_wait bytes e = cases (bind_err (r bytes) (λ (x : A × List ℕ). f x.0 x.1) Open e)
    where
      cases : (r bytes ≡ Err Open) ⊎ ((x : A × List ℕ) × (r bytes ≡ Ok x) × (f x.0 x.1 ≡ Err Open)) → length bytes < m + n
      cases (inl h) = omega (arith, first.waits bytes h)
      cases (inr h) = omega (arith, first.takes bytes h.0 h.1, (second h.0.0 (first.gives bytes h.0 h.1)).waits h.0.1 h.2)

  both_take : (bytes : List ℕ) (y : B × List ℕ) → both bytes ≡ Ok y → length bytes ≤ m + n + length y.1
  both_take bytes y e =
      let b = bind_ok (r bytes) (λ (x : A × List ℕ). f x.0 x.1) y e in
      omega (arith, first.takes bytes b.0 b.1, (second b.0.0 (first.gives bytes b.0 b.1)).takes b.0.1 y b.2)

  pub within_then : IsWithin Any (m + n) (λ (bytes : List ℕ). r bytes >>= λ (x : A × List ℕ). f x.0 x.1)
  within_then = record { waits = both_wait; takes = both_take; gives = λ bytes x e. tt }

-- at most that many bytes are at most more
within_more : {A : Type 0} (P : A → Type 0) (most more : ℕ) (r : List ℕ → Result (A × List ℕ) ReadFault) → most ≤ more → IsWithin P most r → IsWithin P more r
within_more P most more r le is = record {
  waits = λ bytes e. omega (arith, le, is.waits bytes e);
  takes = λ bytes x e. omega (arith, le, is.takes bytes x e);
  gives = is.gives;
}

within_done : {A : Type 0} (a : A) → IsWithin Any 0 (λ (bytes : List ℕ). Ok (a, bytes))
within_done {A} a = record {
  waits = λ bytes e. absurd cc;
  takes = λ bytes x e. subst (λ (y : A × List ℕ). length bytes ≤ 0 + length y.1) (ok_is {E = ReadFault} (a, bytes) x e) (omega arith);
  gives = λ bytes x e. tt;
}

-- ---- fields

module _ {A : Type 0} (n : ℕ) (view : List ℕ → A) where
  abbrev front : List ℕ → Option (A × List ℕ)
  front bytes = cond (ltb (length bytes) n) None (Some (view (take n bytes), drop n bytes))

  front_waits : (bytes : List ℕ) → field (front bytes) ≡ Err Open → length bytes < n
  front_waits bytes e = cases (ltb (length bytes) n) refl e
    where
      cases : (b : Bool) → ltb (length bytes) n ≡ b → field (cond b None (Some (view (take n bytes), drop n bytes))) ≡ Err Open → length bytes < n
      cases true f g = ltb-true _ _ f
      cases false f g = absurd cc

  within_front : IsWithin Any n (λ (bytes : List ℕ). field (front bytes))
  within_front = record { waits = front_waits; takes = λ bytes x e. omega (arith, front_length n view bytes x e); gives = λ bytes x e. tt }

within_number : (w : Width) → IsWithin Any (byte_len w) (λ (bytes : List ℕ). field (number_at w bytes))
within_number w = within_front (byte_len w) (from_be_bytes w)

within_run : (n most : ℕ) → n ≤ most → IsWithin Any most (λ (bytes : List ℕ). field (bytes_at n bytes))
within_run n most le = within_more Any n most (λ (bytes : List ℕ). field (bytes_at n bytes)) le (within_front n (λ (run : List ℕ). run))

module _ (w : Width) (low high : ℕ) (cause : Cause) (offset : ℕ) where
  abbrev tested : ℕ × List ℕ → Result (ℕ × List ℕ) ReadFault
  tested x = cond (ltb x.0 low) (Err (Broken cause offset)) (cond (ltb high x.0) (Err (Broken cause offset)) (Ok x))

  passes : (b c : Bool) (n x : ℕ × List ℕ) → ltb high n.0 ≡ c → cond b (Err (Broken cause offset)) (cond c (Err (Broken cause offset)) (Ok n)) ≡ Ok x → (n ≡ x) × (n.0 ≤ high)
  passes true c n x f e = absurd cc
  passes false true n x f e = absurd cc
  passes false false n x f e = (ok_is {E = ReadFault} n x e, ltb-false _ _ f)

  never_waits : (b c : Bool) (n : ℕ × List ℕ) → cond b (Err (Broken cause offset)) (cond c (Err (Broken cause offset)) (Ok n)) ≡ Err Open → ⊥
  never_waits true c n e = absurd cc
  never_waits false true n e = absurd cc
  never_waits false false n e = absurd cc

  from_waits : (bytes : List ℕ) → number_from w low high cause offset bytes ≡ Err Open → length bytes < byte_len w
  unfolding number_from
  from_waits bytes e = cases (bind_err (field (number_at w bytes)) tested Open e)
    where
      cases : (field (number_at w bytes) ≡ Err Open) ⊎ ((x : ℕ × List ℕ) × (field (number_at w bytes) ≡ Ok x) × (tested x ≡ Err Open)) → length bytes < byte_len w
      cases (inl h) = (within_number w).waits bytes h
      cases (inr h) = absurd (never_waits (ltb h.0.0 low) (ltb high h.0.0) h.0 h.2)

  from_takes : (bytes : List ℕ) (x : ℕ × List ℕ) → number_from w low high cause offset bytes ≡ Ok x → (length bytes ≤ byte_len w + length x.1) × (x.0 ≤ high)
  unfolding number_from
  from_takes bytes x e =
      let b = bind_ok (field (number_at w bytes)) tested x e in
      let p = passes (ltb b.0.0 low) (ltb high b.0.0) b.0 x refl b.2 in
      subst (λ (y : ℕ × List ℕ). (length bytes ≤ byte_len w + length y.1) × (y.0 ≤ high)) p.0 ((within_number w).takes bytes b.0 b.1, p.1)

  within_from : IsWithin (λ (n : ℕ). n ≤ high) (byte_len w) (number_from w low high cause offset)
  within_from = record { waits = from_waits; takes = λ bytes x e. (from_takes bytes x e).0; gives = λ bytes x e. (from_takes bytes x e).1 }

-- ---- hellos

outer_hello_within : IsWithin Any (1 + (1 + (1 + (1 + (2 + 6860))))) read_outer_hello
unfolding read_outer_hello
outer_hello_within =
    within_then _ 1 (1 + (1 + (1 + (2 + 6860)))) _ _ (within_from w8 0x44 0x44 causes.Magic 0) (λ d is_d.
    within_then _ 1 (1 + (1 + (2 + 6860))) _ _ (within_from w8 0x53 0x53 causes.Magic 1) (λ s is_s.
    within_then _ 1 (1 + (2 + 6860)) _ _ (within_from w8 0x58 0x58 causes.Magic 2) (λ x is_x.
    within_then _ 1 (2 + 6860) _ _ (within_from w8 0x31 0x31 causes.Magic 3) (λ one is_one.
    within_then _ 2 6860 _ _ (within_from w16 1 6860 causes.HelloCount 4) (λ count most. within_run count 6860 most)))))

outer_frame_within : IsWithin Any (1 + (4 + (2 + (4 + (1155728 + (2 + (2508 + 0))))))) read_outer_frame
unfolding read_outer_frame
outer_frame_within =
    within_then _ 1 (4 + (2 + (4 + (1155728 + (2 + (2508 + 0)))))) _ _ (within_from w8 4 4 causes.Tag 0) (λ tag is_tag.
    within_then _ 4 (2 + (4 + (1155728 + (2 + (2508 + 0))))) _ _ (within_number w32) (λ number is_number.
    within_then _ 2 (4 + (1155728 + (2 + (2508 + 0)))) _ _ (within_from w16 1 16 causes.Count 5) (λ messages is_messages.
    within_then _ 4 (1155728 + (2 + (2508 + 0))) _ _ (within_from w32 1 1155728 causes.Length 7) (λ size is_size.
    within_then _ 1155728 (2 + (2508 + 0)) _ _ (within_run size 1155728 is_size) (λ body is_body.
    within_then _ 2 (2508 + 0) _ _ (within_from w16 1 2508 causes.SignatureCount (11 + size)) (λ count is_count.
    within_then _ 2508 0 _ _ (within_run count 2508 is_count) (λ signature is_signature. within_done (record { number = number; messages = messages; body = body; signature = signature }))))))))

-- a test that answers a value as it is
only_stop : {A B : Type 0} (r : Result A ReadFault) (g : A → B) (stop : ReadFault) → (r >>= λ (a : A). Ok (g a)) ≡ Err stop → r ≡ Err stop
only_stop (Ok a) g stop e = absurd cc
only_stop (Err other) g stop e = cc

cert_is_whole : (read : Result LaneCert ℕ) → checked_cert read ≡ Err Open → ⊥
cert_is_whole (Err place) e = absurd cc
cert_is_whole (Ok lane) e = cases (is_good_lane_cert lane) e
  where
    cases : (b : Bool) → cond b (Ok lane) (Err (Broken causes.HelloSignature 6)) ≡ Err Open → ⊥
    cases true g = absurd cc
    cases false g = absurd cc

abbrev finish_hello : List ℕ × List ℕ → Result (LaneCert × List ℕ) ReadFault
finish_hello cert = checked_cert (read_lane_cert cert.0) >>= λ (lane : LaneCert). Ok (lane, cert.1)

hello_waits : (bytes : List ℕ) → read_hello bytes ≡ Err Open → length bytes < 1158249
unfolding read_hello
hello_waits bytes e = cases (bind_err (read_outer_hello bytes) finish_hello Open e)
  where
    cases : (read_outer_hello bytes ≡ Err Open) ⊎ ((x : List ℕ × List ℕ) × (read_outer_hello bytes ≡ Ok x) × (finish_hello x ≡ Err Open)) → length bytes < 1158249
    cases (inl h) = omega (arith, outer_hello_within.waits bytes h)
    cases (inr h) = absurd (cert_is_whole (read_lane_cert h.0.0) (only_stop (checked_cert (read_lane_cert h.0.0)) (λ (lane : LaneCert). (lane, h.0.1)) Open h.2))

-- ---- frames

bodies_are_whole : (key : PubKey) (o : OuterFrame) (bodies : Option (List (List ℕ))) → checked_bodies key o bodies ≡ Err Open → ⊥
bodies_are_whole key o None e = absurd cc
bodies_are_whole key o (Some bodies) e = cases (begins_with o.number o.signature) (is_good key.0 (signed_fields o.number o.messages o.body) o.signature) (record { number = o.number; bodies = bodies }) e
  where
    cases : (b c : Bool) (frame : Frame) → cond b (cond c (Ok frame) (Err (Broken causes.Signature (13 + length o.body)))) (Err (Broken causes.Leaf (13 + length o.body))) ≡ Err Open → ⊥
    cases true true frame g = absurd cc
    cases true false frame g = absurd cc
    cases false c frame g = absurd cc

abbrev finish_frame : PubKey → OuterFrame × List ℕ → Result (Frame × List ℕ) ReadFault
finish_frame key o = checked_bodies key o.0 (split o.0.messages o.0.body) >>= λ (frame : Frame). Ok (frame, o.1)

frame_waits : (key : PubKey) (bytes : List ℕ) → read_frame key bytes ≡ Err Open → length bytes < 1158249
unfolding read_frame
frame_waits key bytes e = cases (bind_err (read_outer_frame bytes) (finish_frame key) Open e)
  where
    cases : (read_outer_frame bytes ≡ Err Open) ⊎ ((x : OuterFrame × List ℕ) × (read_outer_frame bytes ≡ Ok x) × (finish_frame key x ≡ Err Open)) → length bytes < 1158249
    cases (inl h) = omega (arith, outer_frame_within.waits bytes h)
    cases (inr h) =
        let bodies = split h.0.0.messages h.0.0.body in
        absurd (bodies_are_whole key h.0.0 bodies (only_stop (checked_bodies key h.0.0 bodies) (λ (frame : Frame). (frame, h.0.1)) Open h.2))

-- ---- items

pub item_waits : (lane : Option LaneCert) (bytes : List ℕ) → read_item lane bytes ≡ Err Open → length bytes < 1158249
unfolding read_item
item_waits None bytes e = hello_waits bytes (only_stop (read_hello bytes) (λ (hello : LaneCert × List ℕ). (items.Hello hello.0, hello.1)) Open e)
item_waits (Some lane) bytes e = frame_waits lane.key bytes (only_stop (read_frame lane.key bytes) (λ (frame : Frame × List ℕ). (items.Frame frame.0, frame.1)) Open e)

pub open_below : (X : Type 0) (lane : Option LaneCert) (bytes : List ℕ) (halt : ReadFaultOrMemory) → Halts halt (read_item lane bytes) → IsOpenBelow {X = X} 1158249 (length bytes) (Err halt)
open_below X lane bytes halts.NoMemory e = tt
open_below X lane bytes halts.Open e = item_waits lane bytes e
open_below X lane bytes (halts.Broken cause offset) e = tt
