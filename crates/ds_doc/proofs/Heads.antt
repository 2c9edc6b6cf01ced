-- The first bytes of a running host's key, and its signatures.
use Rattle.std.proofs.Common.{◌≡◌, ◌≤◌, ℕ, zero, suc, List, [], ◌∷◌, ◌++◌, length, take, true, nat_le, refl, sym, ap, ◌∙◌, subst, arith}
use Rattle.std.specs.Int.{w32, to_be_bytes}
use Rattle.std.proofs.lemmas.List.{length-append, length-take}
use Rattle.std.proofs.lemmas.Bool.{and_from, le-leb}
use Rattle.lms_sig.specs.declared.params.Params.{Params}
use Rattle.lms_sig.specs.declared.params.LmsType.{LmsType}
use Rattle.lms_sig.specs.declared.params.LmsType.TheVariants.{H5, H10}
use Rattle.lms_sig.specs.declared.params.OtsType.{OtsType}
use Rattle.lms_sig.specs.declared.params.OtsType.TheVariants.{W4, W8}
use Rattle.lms_sig.specs.Keys.{derived_id}
use Rattle.lms_sig.specs.Merkle.{public_key, signature}
use Rattle.lms_sig.specs.Parameters.{lms_code, ots_code, signature_length}
use Rattle.lms_sig.specs.Strings.{u32str}
use Rattle.lms_sig.proofs.Lengths.{length-u32str, length-sha256, length-signature}
use Rattle.ds_cert.specs.declared.address.Address.{Address}
use Rattle.ds_plan.specs.Documents.{is_address, is_address_in_range}

take_front : (n : ℕ) (xs ys : List ℕ) → length xs ≡ n → take n (xs ++ ys) ≡ xs
take_front zero [] ys e = refl
take_front (suc n) [] ys e = absurd (omega (arith, e))
take_front zero (x ∷ xs) ys e = absurd (omega (arith, e))
take_front (suc n) (x ∷ xs) ys e = ap (λ zs. x ∷ zs) (take_front n xs ys (omega (arith, e)))

sixteen : (m : List ℕ) → length m ≡ 32 → length (take 16 m) ≡ 16
sixteen m size = omega (arith, size, length-take 16 m)

id_length : (secret : List ℕ) (index : ℕ) → length (derived_id secret index) ≡ 16
unfolding derived_id
id_length secret index = sixteen _ (length-sha256 _)

head_is : (identity : Params) (seed id : List ℕ) → length id ≡ 16 → take 24 (public_key identity seed id) ≡ u32str (lms_code identity.lms) ++ u32str (ots_code identity.ots) ++ id
unfolding public_key
head_is identity seed id size =
    take_front 24 (u32str (lms_code identity.lms) ++ u32str (ots_code identity.ots) ++ id) _
    (omega (
      arith,
      size,
      length-append (u32str (lms_code identity.lms) ++ u32str (ots_code identity.ots)) id,
      length-append (u32str (lms_code identity.lms)) (u32str (ots_code identity.ots)),
      length-u32str (lms_code identity.lms),
      length-u32str (ots_code identity.ots),
    ))

-- types and identifier, one after another
pub running : (identity : Params) (seed secret : List ℕ) (first second third : List ℕ) → first ≡ [] ++ to_be_bytes w32 (lms_code identity.lms) → second ≡ first ++ to_be_bytes w32 (ots_code identity.ots)
    → third ≡ second ++ derived_id secret 0 → third ≡ take 24 (public_key identity seed (derived_id secret 0))
unfolding u32str
running identity seed secret first second third e g h =
    h ∙ ap (λ zs. zs ++ derived_id secret 0) (g ∙ ap (λ zs. zs ++ to_be_bytes w32 (ots_code identity.ots)) e) ∙ sym (head_is identity seed (derived_id secret 0) (id_length secret 0))

longest : (lms : LmsType) (ots : OtsType) → signature_length (record { lms = lms; ots = ots }) ≤ 2508
longest H5 W4 = omega arith
longest H5 W8 = omega arith
longest H10 W4 = omega arith
longest H10 W8 = omega arith

pub short_signature : (params : Params) (seed id : List ℕ) (leaf : ℕ) (message : List ℕ) → length (signature params seed id leaf message) ≤ 2508
short_signature params seed id leaf message = subst (λ n. n ≤ 2508) (sym (length-signature params seed id leaf message)) (longest params.lms params.ots)

pub whole_in_range : (a : Address) → is_address a.address ≡ true → length a.signature ≤ 2508 → is_address_in_range a ≡ true
whole_in_range a e short = and_from (is_address a.address) (nat_le (length a.signature) 2508) e (le-leb (length a.signature) 2508 short)
