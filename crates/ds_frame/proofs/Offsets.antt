-- What is at fault is among the bytes that have come.
use Rattle.std.proofs.Common.{◌≡◌, ℕ, ◌+◌, ◌-◌, ◌≤◌, Bool, true, false, cond, ltb, List, ◌++◌, length, take, drop, length-append, Option, Some, None, refl, ap, subst, ◌⊎◌, inl, inr, arith}
use Rattle.std.specs.Prelude.{Result, Ok, Err}
use Rattle.std.specs.Int.{Width, w8, w16, w32, byte_len, from_be_bytes, to_be_bytes}
use Rattle.ds_wire.specs.Fields.{IsBytes, number_at, bytes_at}
use Rattle.ds_label.specs.declared.category.PubKey.{PubKey}
use Rattle.ds_cert.specs.declared.lane.LaneCert.{LaneCert}
use Rattle.ds_cert.specs.Fields.{◌>>=◌, alone, placed}
use Rattle.ds_cert.specs.Reading.{lane_cert_at, read_lane_cert}
use Rattle.ds_cert.proofs.Steps.{bind_ok, ok_is}
use Rattle.ds_frame.specs.declared.cause.Cause.{Cause}
use Rattle.ds_frame.specs.declared.cause.Cause.TheVariants as causes
use Rattle.ds_frame.specs.declared.item.Frame.{Frame}
use Rattle.ds_frame.specs.declared.item.Item.TheVariants as items
use Rattle.ds_frame.specs.Bodies.{split}
use Rattle.ds_frame.specs.Checks.{is_good, is_good_lane_cert, checked_cert, begins_with, checked_bodies, read_hello, read_frame, read_item}
use Rattle.ds_frame.specs.declared.item.ReadFaultOrMemory.{ReadFaultOrMemory}
use Rattle.ds_frame.specs.declared.item.ReadFaultOrMemory.TheVariants as halts
use Rattle.ds_frame.specs.Fields.{Halts, IsAmong, ReadFault, Broken, field, number_from}
use Rattle.ds_frame.specs.Outer.{read_outer_hello, read_outer_frame}
use Rattle.ds_cert.specs.Spelling.{spelling_of_signature}
use Rattle.ds_frame.specs.Spelling.{OuterFrame, signed_fields, outer_spelling_of_hello, outer_spelling_of_frame}
use Rattle.ds_frame.proofs.OuterLaws.{is_outer_hello, is_outer_frame, fields_length}
use Rattle.ds_frame.proofs.Steady.{bind_err, front_length}

-- of a reader whose first byte is that many behind the front's
abbrev pub IsInside : {A : Type 0} → ℕ → (List ℕ → Result A ReadFault) → Type 0
IsInside at reading = (bytes : List ℕ) (cause : Cause) (offset : ℕ) → reading bytes ≡ Err (Broken cause offset) → offset ≤ at + length bytes

-- a field of as many bytes as its value says
pub record IsField {A : Type 0} (size : A → ℕ) (reading : List ℕ → Result (A × List ℕ) ReadFault) : Type 0 where
  pub takes : (bytes : List ℕ) (x : A × List ℕ) → reading bytes ≡ Ok x → length bytes ≡ size x.0 + length x.1

module _ {A B : Type 0} (at : ℕ) (size : A → ℕ) (r : List ℕ → Result (A × List ℕ) ReadFault) (f : A → List ℕ → Result (B × List ℕ) ReadFault) (is : IsField size r) (first : IsInside at r) (second : (a : A) → IsInside (at + size a) (f a)) where
  pub inside_then : IsInside at (λ (bytes : List ℕ). r bytes >>= λ (x : A × List ℕ). f x.0 x.1)
  inside_then bytes cause offset e = cases (bind_err (r bytes) (λ (x : A × List ℕ). f x.0 x.1) (Broken cause offset) e)
    where
      cases : (r bytes ≡ Err (Broken cause offset)) ⊎ ((x : A × List ℕ) × (r bytes ≡ Ok x) × (f x.0 x.1 ≡ Err (Broken cause offset))) → offset ≤ at + length bytes
      cases (inl h) = first bytes cause offset h
      cases (inr h) = omega (arith, second h.0.0 h.0.1 cause offset h.2, is.takes bytes h.0 h.1)

-- ---- fields

module _ {A : Type 0} (n : ℕ) (view : List ℕ → A) where
  front_inside : (at : ℕ) → IsInside at (λ (bytes : List ℕ). field (cond (ltb (length bytes) n) None (Some (view (take n bytes), drop n bytes))))
  front_inside at bytes cause offset e = cases (ltb (length bytes) n) e
    where
      cases : (b : Bool) → field (cond b None (Some (view (take n bytes), drop n bytes))) ≡ Err (Broken cause offset) → offset ≤ at + length bytes
      cases true g = absurd cc
      cases false g = absurd cc

number_field : (w : Width) → IsField (λ (n : ℕ). byte_len w) (λ (bytes : List ℕ). field (number_at w bytes))
number_field w = record { takes = λ bytes x e. front_length (byte_len w) (from_be_bytes w) bytes x e }

number_inside : (w : Width) (at : ℕ) → IsInside at (λ (bytes : List ℕ). field (number_at w bytes))
number_inside w at = front_inside (byte_len w) (from_be_bytes w) at

run_field : (n : ℕ) → IsField (λ (run : List ℕ). n) (λ (bytes : List ℕ). field (bytes_at n bytes))
run_field n = record { takes = λ bytes x e. front_length n (λ (run : List ℕ). run) bytes x e }

run_inside : (n at : ℕ) → IsInside at (λ (bytes : List ℕ). field (bytes_at n bytes))
run_inside n at = front_inside n (λ (run : List ℕ). run) at

module _ (w : Width) (low high : ℕ) (cause : Cause) (offset : ℕ) where
  abbrev tested : ℕ × List ℕ → Result (ℕ × List ℕ) ReadFault
  tested x = cond (ltb x.0 low) (Err (Broken cause offset)) (cond (ltb high x.0) (Err (Broken cause offset)) (Ok x))

  passes : (b c : Bool) (n x : ℕ × List ℕ) → cond b (Err (Broken cause offset)) (cond c (Err (Broken cause offset)) (Ok n)) ≡ Ok x → n ≡ x
  passes true c n x e = absurd cc
  passes false true n x e = absurd cc
  passes false false n x e = ok_is {E = ReadFault} n x e

  fails : (b c : Bool) (n : ℕ × List ℕ) (other : Cause) (k : ℕ) → cond b (Err (Broken cause offset)) (cond c (Err (Broken cause offset)) (Ok n)) ≡ Err (Broken other k) → k ≡ offset
  fails true c n other k e = cc
  fails false true n other k e = cc
  fails false false n other k e = absurd cc

  from_field : IsField (λ (n : ℕ). byte_len w) (number_from w low high cause offset)
  unfolding number_from
  from_field = record {
    takes = λ bytes x e.
        let b = bind_ok (field (number_at w bytes)) tested x e in
        subst (λ (y : ℕ × List ℕ). length bytes ≡ byte_len w + length y.1) (passes (ltb b.0.0 low) (ltb high b.0.0) b.0 x b.2) ((number_field w).takes bytes b.0 b.1);
  }

  from_inside : (at : ℕ) → offset ≤ at → IsInside at (number_from w low high cause offset)
  unfolding number_from
  from_inside at le bytes other k e = cases (bind_err (field (number_at w bytes)) tested (Broken other k) e)
    where
      cases : (field (number_at w bytes) ≡ Err (Broken other k)) ⊎ ((x : ℕ × List ℕ) × (field (number_at w bytes) ≡ Ok x) × (tested x ≡ Err (Broken other k))) → k ≤ at + length bytes
      cases (inl h) = number_inside w at bytes other k h
      cases (inr h) = omega (arith, le, fails (ltb h.0.0 low) (ltb high h.0.0) h.0 other k h.2)

-- ---- hellos

outer_hello_inside : IsInside 0 read_outer_hello
unfolding read_outer_hello
outer_hello_inside =
    inside_then 0 _ _ _ (from_field w8 0x44 0x44 causes.Magic 0) (from_inside w8 0x44 0x44 causes.Magic 0 0 (omega arith)) (λ d.
    inside_then 1 _ _ _ (from_field w8 0x53 0x53 causes.Magic 1) (from_inside w8 0x53 0x53 causes.Magic 1 1 (omega arith)) (λ s.
    inside_then 2 _ _ _ (from_field w8 0x58 0x58 causes.Magic 2) (from_inside w8 0x58 0x58 causes.Magic 2 2 (omega arith)) (λ x.
    inside_then 3 _ _ _ (from_field w8 0x31 0x31 causes.Magic 3) (from_inside w8 0x31 0x31 causes.Magic 3 3 (omega arith)) (λ one.
    inside_then 4 _ _ _ (from_field w16 1 6860 causes.HelloCount 4) (from_inside w16 1 6860 causes.HelloCount 4 4 (omega arith)) (λ count. run_inside count 6)))))

outer_frame_inside : IsInside 0 read_outer_frame
unfolding read_outer_frame
outer_frame_inside =
    inside_then 0 _ _ _ (from_field w8 4 4 causes.Tag 0) (from_inside w8 4 4 causes.Tag 0 0 (omega arith)) (λ tag.
    inside_then 1 _ _ _ (number_field w32) (number_inside w32 1) (λ number.
    inside_then 5 _ _ _ (from_field w16 1 16 causes.Count 5) (from_inside w16 1 16 causes.Count 5 5 (omega arith)) (λ messages.
    inside_then 7 _ _ _ (from_field w32 1 1155728 causes.Length 7) (from_inside w32 1 1155728 causes.Length 7 7 (omega arith)) (λ size.
    inside_then 11 _ _ _ (run_field size) (run_inside size 11) (λ body.
    inside_then (11 + size) _ _ _ (from_field w16 1 2508 causes.SignatureCount (11 + size)) (from_inside w16 1 2508 causes.SignatureCount (11 + size) (11 + size) (omega arith)) (λ count.
    inside_then (11 + size + 2) _ _ _ (run_field count) (run_inside count (11 + size + 2)) (λ signature bytes cause offset e. absurd cc)))))))

place_inside : (cert : List ℕ) (place : ℕ) → read_lane_cert cert ≡ Err place → place ≤ length cert
unfolding read_lane_cert
place_inside cert place e = cases (alone (lane_cert_at cert)) e
  where
    cases : (r : Result LaneCert ℕ) → placed cert r ≡ Err place → place ≤ length cert
    cases (Ok lane) g = absurd cc
    cases (Err left) g = let is : length cert - left ≡ place = cc in omega (arith, is)

cert_inside : (cert : List ℕ) (cause : Cause) (offset : ℕ) → checked_cert (read_lane_cert cert) ≡ Err (Broken cause offset) → offset ≤ 6 + length cert
cert_inside cert cause offset e = cases (read_lane_cert cert) refl e
  where
    good : (lane : LaneCert) (b : Bool) → cond b (Ok lane) (Err (Broken causes.HelloSignature 6)) ≡ Err (Broken cause offset) → offset ≤ 6 + length cert
    good lane true g = absurd cc
    good lane false g = let is : offset ≡ 6 = cc in omega (arith, is)

    cases : (r : Result LaneCert ℕ) → read_lane_cert cert ≡ r → checked_cert r ≡ Err (Broken cause offset) → offset ≤ 6 + length cert
    cases (Ok lane) f g = good lane (is_good_lane_cert lane) g
    cases (Err place) f g = let is : offset ≡ 6 + place = cc in omega (arith, is, place_inside cert place f)

hello_length : (cert : List ℕ) → length (outer_spelling_of_hello cert) ≡ 6 + length cert
unfolding outer_spelling_of_hello
hello_length cert = omega arith

-- a test that answers a value as it is
only_ok : {A B : Type 0} (r : Result A ReadFault) (g : A → B) (cause : Cause) (offset : ℕ) → (r >>= λ (a : A). Ok (g a)) ≡ Err (Broken cause offset) → r ≡ Err (Broken cause offset)
only_ok (Ok a) g cause offset e = absurd cc
only_ok (Err stop) g cause offset e = cc

abbrev finish_hello : List ℕ × List ℕ → Result (LaneCert × List ℕ) ReadFault
finish_hello cert = checked_cert (read_lane_cert cert.0) >>= λ (lane : LaneCert). Ok (lane, cert.1)

hello_inside : (bytes : List ℕ) (cause : Cause) (offset : ℕ) → IsBytes bytes → read_hello bytes ≡ Err (Broken cause offset) → offset ≤ length bytes
unfolding read_hello
hello_inside bytes cause offset fits e = cases (bind_err (read_outer_hello bytes) finish_hello (Broken cause offset) e)
  where
    cases : (read_outer_hello bytes ≡ Err (Broken cause offset)) ⊎ ((x : List ℕ × List ℕ) × (read_outer_hello bytes ≡ Ok x) × (finish_hello x ≡ Err (Broken cause offset))) → offset ≤ length bytes
    cases (inl h) = omega (arith, outer_hello_inside bytes cause offset h)
    cases (inr h) =
        let t = (is_outer_hello.spelled_so bytes h.0.0 h.0.1 fits h.1).0 in
        let k = cert_inside h.0.0 cause offset (only_ok (checked_cert (read_lane_cert h.0.0)) (λ (lane : LaneCert). (lane, h.0.1)) cause offset h.2) in
        omega (arith, k, ap length t.parts, length-append (outer_spelling_of_hello h.0.0) h.0.1, hello_length h.0.0)

-- ---- frames

bodies_inside : (key : PubKey) (o : OuterFrame) (cause : Cause) (offset : ℕ) → checked_bodies key o (split o.messages o.body) ≡ Err (Broken cause offset) → offset ≤ 13 + length o.body
bodies_inside key o cause offset e = cases (split o.messages o.body) e
  where
    signed : (b c : Bool) (frame : Frame) → cond b (cond c (Ok frame) (Err (Broken causes.Signature (13 + length o.body)))) (Err (Broken causes.Leaf (13 + length o.body))) ≡ Err (Broken cause offset) → offset ≤ 13 + length o.body
    signed true true frame g = absurd cc
    signed true false frame g = let is : offset ≡ 13 + length o.body = cc in omega (arith, is)
    signed false c frame g = let is : offset ≡ 13 + length o.body = cc in omega (arith, is)

    cases : (r : Option (List (List ℕ))) → checked_bodies key o r ≡ Err (Broken cause offset) → offset ≤ 13 + length o.body
    cases None g = let is : offset ≡ 11 = cc in omega (arith, is)
    cases (Some bodies) g = signed (begins_with o.number o.signature) (is_good key.0 (signed_fields o.number o.messages o.body) o.signature) (record { number = o.number; bodies = bodies }) g

frame_length : (o : OuterFrame) → length (outer_spelling_of_frame o) ≡ 13 + length o.body + length o.signature
unfolding outer_spelling_of_frame spelling_of_signature
frame_length o = omega (arith, length-append (signed_fields o.number o.messages o.body) (to_be_bytes w16 (length o.signature) ++ o.signature), fields_length o.number o.messages o.body)

abbrev finish_frame : PubKey → OuterFrame × List ℕ → Result (Frame × List ℕ) ReadFault
finish_frame key o = checked_bodies key o.0 (split o.0.messages o.0.body) >>= λ (frame : Frame). Ok (frame, o.1)

frame_inside : (key : PubKey) (bytes : List ℕ) (cause : Cause) (offset : ℕ) → IsBytes bytes → read_frame key bytes ≡ Err (Broken cause offset) → offset ≤ length bytes
unfolding read_frame
frame_inside key bytes cause offset fits e = cases (bind_err (read_outer_frame bytes) (finish_frame key) (Broken cause offset) e)
  where
    cases : (read_outer_frame bytes ≡ Err (Broken cause offset)) ⊎ ((x : OuterFrame × List ℕ) × (read_outer_frame bytes ≡ Ok x) × (finish_frame key x ≡ Err (Broken cause offset))) → offset ≤ length bytes
    cases (inl h) = omega (arith, outer_frame_inside bytes cause offset h)
    cases (inr h) =
        let t = (is_outer_frame.spelled_so bytes h.0.0 h.0.1 fits h.1).0 in
        let k = bodies_inside key h.0.0 cause offset (only_ok (checked_bodies key h.0.0 (split h.0.0.messages h.0.0.body)) (λ (frame : Frame). (frame, h.0.1)) cause offset h.2) in
        omega (arith, k, ap length t.parts, length-append (outer_spelling_of_frame h.0.0) h.0.1, frame_length h.0.0)

-- ---- items

pub item_inside : (lane : Option LaneCert) (bytes : List ℕ) (cause : Cause) (offset : ℕ) → IsBytes bytes → read_item lane bytes ≡ Err (Broken cause offset) → offset ≤ length bytes
unfolding read_item
item_inside None bytes cause offset fits e = hello_inside bytes cause offset fits (only_ok (read_hello bytes) (λ (hello : LaneCert × List ℕ). (items.Hello hello.0, hello.1)) cause offset e)
item_inside (Some lane) bytes cause offset fits e = frame_inside lane.key bytes cause offset fits (only_ok (read_frame lane.key bytes) (λ (frame : Frame × List ℕ). (items.Frame frame.0, frame.1)) cause offset e)

pub item_among : (X : Type 0) (lane : Option LaneCert) (bytes : List ℕ) (halt : ReadFaultOrMemory) → IsBytes bytes → Halts halt (read_item lane bytes) → IsAmong {X = X} (length bytes) (Err halt)
item_among X lane bytes halts.NoMemory fits e = tt
item_among X lane bytes halts.Open fits e = tt
item_among X lane bytes (halts.Broken cause offset) fits e = item_inside lane bytes cause offset fits e
