-- A fault is within the input, and near its front.
use Rattle.std.proofs.Common.{◌≡◌, ℕ, zero, suc, ◌+◌, ◌*◌, ◌-◌, ◌^◌, ◌<◌, ◌≤◌, Bool, true, false, cond, ltb, eqb, List, [], ◌∷◌, length, drop, Option, Some, None, refl, sym, ap, subst, ◌∙◌, ◌⊎◌, inl, inr, arith}
use Rattle.std.specs.Prelude.{Result, Ok, Err}
use Rattle.std.specs.Int.{Width, w8, w16, w32, w64, byte_len, from_be_bytes}
use Rattle.std.specs.List.{list_all}
use Rattle.std.proofs.lemmas.Bool.{ltb-false}
use Rattle.std.proofs.lemmas.List.{length-drop}
use Rattle.ds_wire.specs.Fields.{number_at, bytes_at}
use Rattle.ds_label.specs.declared.category.Category.{Category}
use Rattle.ds_label.specs.Flow.{is_above}
use Rattle.ds_label.specs.Names.{by_name}
use Rattle.ds_cert.specs.Categories.{category_in}
use Rattle.ds_cert.specs.Fields.{◌>>=◌, whole, number_within, counted_at, alone, placed, Fails, Refuses, fault_at, IsNear}
use Rattle.ds_cert.specs.declared.fault.ReadFault.{ReadFault}
use Rattle.ds_cert.specs.declared.fault.ReadFault.TheVariants as read_faults
use Rattle.ds_cert.specs.Ranges.{is_letter}
use Rattle.ds_cert.specs.Reading.{moment_at, key_at, category_at, category_above, members_at, label_at, address_text_at, signature_at, delegation_at, address_at, lane_cert_at}
use Rattle.ds_cert.proofs.CategoryLaws.{category_rest}
use Rattle.ds_cert.proofs.Steps.{bind_ok, guard_err, ok_is}

-- how many bytes there are from the end of what was read, or from the fault on
abbrev pub left_of : {A : Type 0} → Result (A × List ℕ) ℕ → ℕ
left_of (Ok x) = length x.1
left_of (Err left) = left

pub record Uses (most : ℕ) (bytes : List ℕ) (left : ℕ) : Type 0 where
  pub inside : left ≤ length bytes
  pub near : length bytes ≤ left + most

pub uses_then : {A B : Type 0} (j k : ℕ) (bytes : List ℕ) (r : Result (A × List ℕ) ℕ) (f : A × List ℕ → Result (B × List ℕ) ℕ) → Uses j bytes (left_of r) → ((x : A × List ℕ) → r ≡ Ok x → Uses k x.1 (left_of (f x))) → Uses (j + k) bytes (left_of (r >>= f))
uses_then j k bytes (Ok x) f u v = let w = v x refl in record { inside = omega (arith, u.inside, w.inside); near = omega (arith, u.near, w.near) }
uses_then j k bytes (Err left) f u v = record { inside = u.inside; near = omega (arith, u.near) }

-- a field and a test of it, at fault as a whole
pub uses_tested : {A B : Type 0} (j : ℕ) (bytes : List ℕ) (r : Result (A × List ℕ) ℕ) (f : A × List ℕ → Result (B × List ℕ) ℕ) → Uses j bytes (left_of r) → ((x : A × List ℕ) → (left_of (f x) ≡ length bytes) ⊎ (left_of (f x) ≡ length x.1)) → Uses j bytes (left_of (r >>= f))
uses_tested j bytes (Ok x) f u v = cases (v x)
  where
    cases : (left_of (f x) ≡ length bytes) ⊎ (left_of (f x) ≡ length x.1) → Uses j bytes (left_of (f x))
    cases (inl e) = record { inside = omega (arith, e); near = omega (arith, e) }
    cases (inr e) = record { inside = omega (arith, e, u.inside); near = omega (arith, e, u.near) }
uses_tested j bytes (Err left) f u v = u

uses_front : {A : Type 0} (n : ℕ) (v : A) (bytes : List ℕ) (b : Bool) → Uses n bytes (left_of (whole bytes (cond b None (Some (v, drop n bytes)))))
uses_front n v bytes true = record { inside = omega arith; near = omega arith }
uses_front n v bytes false = record { inside = omega (arith, length-drop n bytes); near = omega (arith, length-drop n bytes) }

pub uses_number : (w : Width) (bytes : List ℕ) → Uses (byte_len w) bytes (left_of (whole bytes (number_at w bytes)))
uses_number w bytes = uses_front (byte_len w) (from_be_bytes w (Rattle.std.proofs.Common.take (byte_len w) bytes)) bytes (ltb (length bytes) (byte_len w))

pub uses_run : (n : ℕ) (bytes : List ℕ) → Uses n bytes (left_of (whole bytes (bytes_at n bytes)))
uses_run n bytes = uses_front n (Rattle.std.proofs.Common.take n bytes) bytes (ltb (length bytes) n)

tested_twice : {A : Type 0} (b c : Bool) (n : ℕ) (x : A × List ℕ) → (left_of (cond b (Err n) (cond c (Err n) (Ok x))) ≡ n) ⊎ (left_of (cond b (Err n) (cond c (Err n) (Ok x))) ≡ length x.1)
tested_twice true c n x = inl refl
tested_twice false true n x = inl refl
tested_twice false false n x = inr refl

pub tested : {A : Type 0} (b : Bool) (n : ℕ) (x : A × List ℕ) → (left_of (cond b (Ok x) (Err n)) ≡ n) ⊎ (left_of (cond b (Ok x) (Err n)) ≡ length x.1)
tested true n x = inr refl
tested false n x = inl refl

pub uses_within : (w : Width) (low high : ℕ) (bytes : List ℕ) → Uses (byte_len w) bytes (left_of (number_within w low high bytes))
unfolding number_within
uses_within w low high bytes = uses_tested (byte_len w) bytes (whole bytes (number_at w bytes)) (λ (n : ℕ × List ℕ). cond (ltb n.0 low) (Err (length bytes)) (cond (ltb high n.0) (Err (length bytes)) (Ok n))) (uses_number w bytes) (λ n. tested_twice (ltb n.0 low) (ltb high n.0) (length bytes) n)

pub within_most : (w : Width) (low high : ℕ) (bytes : List ℕ) (x : ℕ × List ℕ) → number_within w low high bytes ≡ Ok x → x.0 ≤ high
unfolding number_within
within_most w low high bytes x e =
    let b = bind_ok (whole bytes (number_at w bytes)) (λ (n : ℕ × List ℕ). cond (ltb n.0 low) (Err (length bytes)) (cond (ltb high n.0) (Err (length bytes)) (Ok n))) x e in
    let g = guard_err (ltb b.0.0 low) (length bytes) (cond (ltb high b.0.0) (Err (length bytes)) (Ok b.0)) x b.2 in
    let h = guard_err (ltb high b.0.0) (length bytes) (Ok b.0) x g.1 in
    subst (λ (y : ℕ × List ℕ). y.0 ≤ high) (ok_is b.0 x h.1) (ltb-false _ _ h.0)

pub uses_more : (j k : ℕ) (bytes : List ℕ) (left : ℕ) → j ≤ k → Uses j bytes left → Uses k bytes left
uses_more j k bytes left le u = record { inside = u.inside; near = omega (arith, u.near, le) }

pub uses_key : (bytes : List ℕ) → Uses 56 bytes (left_of (key_at bytes))
unfolding key_at
uses_key bytes = uses_tested 56 bytes (whole bytes (bytes_at 56 bytes)) (λ (key : List ℕ × List ℕ). Ok (record { 0 = key.0 }, key.1)) (uses_run 56 bytes) (λ key. inr refl)

uses_moment : (bytes : List ℕ) → Uses 8 bytes (left_of (moment_at bytes))
uses_moment bytes = uses_number w64 bytes

uses_signature : (bytes : List ℕ) → Uses (2 + 2508) bytes (left_of (signature_at bytes))
unfolding counted_at
uses_signature bytes = uses_then 2 2508 bytes (number_within w16 0 2508 bytes) (λ (x : ℕ × List ℕ). whole x.1 (bytes_at x.0 x.1)) (uses_within w16 0 2508 bytes) (λ x e. uses_more x.0 2508 x.1 (left_of (whole x.1 (bytes_at x.0 x.1))) (within_most w16 0 2508 bytes x e) (uses_run x.0 x.1))

uses_text : (bytes : List ℕ) → Uses (1 + 64) bytes (left_of (address_text_at bytes))
unfolding address_text_at
uses_text bytes = uses_then 1 64 bytes (number_within w8 1 64 bytes) _ (uses_within w8 1 64 bytes) (λ x e.
    uses_tested 64 x.1 (whole x.1 (bytes_at x.0 x.1)) (λ (y : List ℕ × List ℕ). cond (list_all is_letter y.0) (Ok y) (Err (length x.1)))
    (uses_more x.0 64 x.1 (left_of (whole x.1 (bytes_at x.0 x.1))) (within_most w8 1 64 bytes x e) (uses_run x.0 x.1))
    (λ y. tested (list_all is_letter y.0) (length x.1) y))

uses_category : (bytes : List ℕ) → Uses 65 bytes (left_of (category_at bytes))
uses_category bytes = cases (category_in bytes) refl
  where
    cases : (o : Option (Category × List ℕ)) → category_in bytes ≡ o → Uses 65 bytes (left_of (whole bytes o))
    cases None e = record { inside = omega arith; near = omega arith }
    cases (Some x) e = let len = category_rest bytes x e in record { inside = omega (arith, len); near = omega (arith, len) }

uses_members : (n : ℕ) (last : Option Category) (bytes : List ℕ) → Uses (65 * n) bytes (left_of (members_at n last bytes))
unfolding members_at category_above
uses_members zero last bytes = record { inside = omega arith; near = omega arith }
uses_members (suc n) last bytes =
    let here : Uses 65 bytes (left_of (category_above last bytes)) = uses_tested 65 bytes (category_at bytes) (λ (c : Category × List ℕ). cond (is_above by_name c.0 last) (Ok c) (Err (length bytes))) (uses_category bytes) (λ c. tested (is_above by_name c.0 last) (length bytes) c) in
    let both = uses_then 65 (65 * n) bytes (category_above last bytes) (λ (c : Category × List ℕ). members_at n (Some c.0) c.1 >>= λ (others : List Category × List ℕ). Ok (c.0 ∷ others.0, others.1)) here
    (λ c e. uses_tested (65 * n) c.1 (members_at n (Some c.0) c.1) (λ (others : List Category × List ℕ). Ok (c.0 ∷ others.0, others.1)) (uses_members n (Some c.0) c.1) (λ others. inr refl)) in
    record { inside = both.inside; near = omega (arith, both.near) }

pub uses_label : (bytes : List ℕ) → Uses (1 + 65 * 64) bytes (left_of (label_at bytes))
unfolding label_at
uses_label bytes = uses_then 1 (65 * 64) bytes (number_within w8 0 64 bytes) (λ (x : ℕ × List ℕ). members_at x.0 None x.1) (uses_within w8 0 64 bytes)
    (λ x e. uses_more (65 * x.0) (65 * 64) x.1 (left_of (members_at x.0 None x.1)) (omega (arith, within_most w8 0 64 bytes x e)) (uses_members x.0 None x.1))

pub uses_end : {A : Type 0} (x : A) (bytes : List ℕ) → Uses 0 bytes (length bytes)
uses_end x bytes = record { inside = omega arith; near = omega arith }

pub uses_delegation : (bytes : List ℕ) → Uses (1 + (65 + (56 + (8 + (8 + (56 + (2 + 2508 + 0))))))) bytes (left_of (delegation_at bytes))
unfolding delegation_at
uses_delegation bytes =
    uses_then 1 _ bytes (number_within w8 1 1 bytes) _ (uses_within w8 1 1 bytes) (λ a e.
    uses_then 65 _ a.1 (category_at a.1) _ (uses_category a.1) (λ b e.
    uses_then 56 _ b.1 (key_at b.1) _ (uses_key b.1) (λ c e.
    uses_then 8 _ c.1 (moment_at c.1) _ (uses_moment c.1) (λ d e.
    uses_then 8 _ d.1 (moment_at d.1) _ (uses_moment d.1) (λ f e.
    uses_then 56 _ f.1 (key_at f.1) _ (uses_key f.1) (λ g e.
    uses_then (2 + 2508) 0 g.1 (signature_at g.1) _ (uses_signature g.1) (λ h e. uses_end h h.1)))))))

pub uses_address : (bytes : List ℕ) → Uses (1 + (56 + (1 + 64 + (8 + (8 + (2 + 2508 + 0)))))) bytes (left_of (address_at bytes))
unfolding address_at
uses_address bytes =
    uses_then 1 _ bytes (number_within w8 2 2 bytes) _ (uses_within w8 2 2 bytes) (λ a e.
    uses_then 56 _ a.1 (key_at a.1) _ (uses_key a.1) (λ b e.
    uses_then (1 + 64) _ b.1 (address_text_at b.1) _ (uses_text b.1) (λ c e.
    uses_then 8 _ c.1 (moment_at c.1) _ (uses_moment c.1) (λ d e.
    uses_then 8 _ d.1 (moment_at d.1) _ (uses_moment d.1) (λ f e.
    uses_then (2 + 2508) 0 f.1 (signature_at f.1) _ (uses_signature f.1) (λ h e. uses_end h h.1))))))

pub uses_lane_cert : (bytes : List ℕ) → Uses (1 + (56 + (4 + (56 + (1 + 65 * 64 + (56 + (8 + (8 + (2 + 2508 + 0))))))))) bytes (left_of (lane_cert_at bytes))
unfolding lane_cert_at
uses_lane_cert bytes =
    uses_then 1 _ bytes (number_within w8 3 3 bytes) _ (uses_within w8 3 3 bytes) (λ a e.
    uses_then 56 _ a.1 (key_at a.1) _ (uses_key a.1) (λ b e.
    uses_then 4 _ b.1 (number_within w32 1 32 b.1) _ (uses_within w32 1 32 b.1) (λ c e.
    uses_then 56 _ c.1 (key_at c.1) _ (uses_key c.1) (λ d e.
    uses_then (1 + 65 * 64) _ d.1 (label_at d.1) _ (uses_label d.1) (λ f e.
    uses_then 56 _ f.1 (key_at f.1) _ (uses_key f.1) (λ g e.
    uses_then 8 _ g.1 (moment_at g.1) _ (uses_moment g.1) (λ h e.
    uses_then 8 _ h.1 (moment_at h.1) _ (uses_moment h.1) (λ i e.
    uses_then (2 + 2508) 0 i.1 (signature_at i.1) _ (uses_signature i.1) (λ j e. uses_end j j.1)))))))))

-- a fault behind the value, too
uses_alone : {A : Type 0} (most : ℕ) (bytes : List ℕ) (r : Result (A × List ℕ) ℕ) (left : ℕ) → Uses most bytes (left_of r) → alone r ≡ Err left → Uses most bytes left
uses_alone most bytes (Ok x) left u e = cases (eqb (length x.1) 0) e
  where
    cases : (b : Bool) → cond b (Ok x.0) (Err (length x.1)) ≡ Err left → Uses most bytes left
    cases true f = absurd cc
    cases false f = let is : length x.1 ≡ left = cc in subst (Uses most bytes) is u
uses_alone most bytes (Err l) left u e = let is : l ≡ left = cc in subst (Uses most bytes) is u

uses_err : {A : Type 0} (most : ℕ) (bytes : List ℕ) (r : Result (A × List ℕ) ℕ) (left : ℕ) → Uses most bytes (left_of r) → r ≡ Err left → Uses most bytes left
uses_err most bytes (Ok x) left u e = absurd cc
uses_err most bytes (Err l) left u e = let is : l ≡ left = cc in subst (Uses most bytes) is u

pub near_alone : {A : Type 0} (most : ℕ) (bytes : List ℕ) (r : Result (A × List ℕ) ℕ) (e : ReadFault) → most < 2 ^ 32 → Uses most bytes (left_of r) → Fails e (alone r) → IsNear (length bytes) e
near_alone most bytes r read_faults.NoMemory lt u f = tt
near_alone most bytes r (read_faults.Left left) lt u f = let v = uses_alone most bytes r left u f in (v.inside, omega (arith, v.near, lt))

pub near_err : {A : Type 0} (most : ℕ) (bytes : List ℕ) (r : Result (A × List ℕ) ℕ) (e : ReadFault) → most < 2 ^ 32 → Uses most bytes (left_of r) → Fails e r → IsNear (length bytes) e
near_err most bytes r read_faults.NoMemory lt u f = tt
near_err most bytes r (read_faults.Left left) lt u f = let v = uses_err most bytes r left u f in (v.inside, omega (arith, v.near, lt))

-- the fault by its place is the one that is read
pub refuses_placed : {A : Type 0} (input : List ℕ) (r : Result A ℕ) (e : ReadFault) → Fails e r → Refuses (fault_at (length input) e) (placed input r)
refuses_placed input r read_faults.NoMemory f = tt
refuses_placed input r (read_faults.Left left) f = ap (placed input) f
