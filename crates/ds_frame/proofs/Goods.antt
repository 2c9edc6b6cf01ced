-- A signature that is good, as a test.
use Rattle.std.proofs.Common.{◌≡◌, Bool, true, false, Option, Some, None, List, ℕ, IsTrue, ◌↔◌, refl, sym, ap}
use Rattle.std.specs.Prelude.{is_none}
use Rattle.lms_sig.specs.Good.{IsGood, first_bad}
use Rattle.lms_sig.specs.declared.verifying.Bad.{Bad}
use Rattle.lms_sig.proofs.Goods.{good-none, first_bad-good}
use Rattle.ds_frame.specs.Checks.{is_good}

pub good_from_test : (key message signature : List ℕ) → is_good key message signature ≡ true → IsGood key message signature
good_from_test key message signature e = cases (first_bad key message signature) refl e
  where
    cases : (o : Option Bad) → first_bad key message signature ≡ o → is_none o ≡ true → IsGood key message signature
    cases None f g = first_bad-good key message signature f
    cases (Some bad) f g = absurd cc

pub test_from_good : (key message signature : List ℕ) → IsGood key message signature → is_good key message signature ≡ true
test_from_good key message signature good = ap is_none (good-none key message signature good)

pub is_test : (b : Bool) (key message signature : List ℕ) → (IsTrue b ↔ IsGood key message signature) → b ≡ is_good key message signature
is_test true key message signature told = sym (test_from_good key message signature (told.0 refl))
is_test false key message signature told = cases (is_good key message signature) refl
  where
    cases : (r : Bool) → is_good key message signature ≡ r → false ≡ r
    cases false f = refl
    cases true f = told.1 (good_from_test key message signature f)
