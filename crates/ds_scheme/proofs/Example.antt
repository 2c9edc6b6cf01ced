-- The example's lane is read by its receiver.
use Rattle.std.proofs.Common.{◌≡◌, ℕ, zero, suc, true, List, [], ◌∷◌, ◌++◌, length-append, refl, sym, ap, subst, ◌∙◌, ⊎_elim, arith}
use Rattle.std.specs.Prelude.{Contains}
use Rattle.std.specs.List.Sorted.{IsStrictlySortedBy}
use Rattle.std.proofs.lemmas.Slice.Eq.{bytes_eq-Decides}
use Rattle.lms_sig.specs.Merkle.{T, public_key}
use Rattle.lms_sig.specs.Parameters.{lms_code, ots_code, height}
use Rattle.lms_sig.specs.Strings.{u32str}
use Rattle.lms_sig.proofs.Goods.{signature-good}
use Rattle.lms_sig.proofs.Lengths.{length-T}
use Rattle.ds_cert.specs.Ranges.{KeyFits, LabelFits, LaneCertFits}
use Rattle.ds_cert.specs.Spelling.{signed_part_of_lane_cert}
use Rattle.ds_frame.proofs.Goods.{test_from_good}
use Rattle.ds_frame.specs.Checks.{is_good}
use Rattle.ds_model.specs.Keys.{same_key}
use Rattle.ds_delivery.specs.Premises.{Written, CanBeWritten}
use Rattle.ds_delivery.proofs.Lists.{in_cases, in_none}
use Rattle.ds_scheme.specs.Example.{key_named, public_of, unsigned_lane, signed_lane, the_lane, the_receiver, the_plan, the_message, the_frame, PremisesHold, IsRead}
use Rattle.ds_scheme.specs.Receivers.{IsReceiver}
use Rattle.ds_scheme.specs.Spelled.{has_spelling, HasSpelledLanes}
use Rattle.ds_scheme.specs.TheScheme.{scheme}
use Rattle.ds_scheme.proofs.Owns.{signature_fits}
use Rattle.ds_scheme.proofs.Received.{all_items}

named_fits : (byte : ℕ) → KeyFits (public_of (key_named byte))
unfolding public_key u32str
named_fits byte =
    let key = key_named byte in
    let front = u32str (lms_code key.params.lms) ++ u32str (ots_code key.params.ots) ++ key.id in
    let root = T key.params key.seed key.id (height key.params.lms) 1 in
    omega (arith, length-append front root, length-T key.params key.seed key.id (height key.params.lms) 1)

no_label : LabelFits []
unfolding IsStrictlySortedBy
no_label = record { count = omega arith; each = tt; rising = tt }

-- what the certificate's signature is over doesn't hang on the signature
same_part : signed_part_of_lane_cert unsigned_lane ≡ signed_part_of_lane_cert signed_lane
unfolding signed_part_of_lane_cert
same_part = refl

cert_fits : LaneCertFits signed_lane
cert_fits = record {
  exporter = named_fits 1;
  receiver = named_fits 2;
  label = no_label;
  key = named_fits 3;
  from = omega arith;
  until = omega arith;
  range = record { first = omega arith; last = omega arith; signature = (signature_fits (key_named 1) 0 (signed_part_of_lane_cert unsigned_lane)).most };
}

cert_good : scheme.good_lane signed_lane ≡ true
cert_good =
    let key = key_named 1 in
    let made = signature-good key.params key.seed key.id (signed_part_of_lane_cert unsigned_lane) 0 refl (omega arith) in
    ap (λ (part : List ℕ). is_good signed_lane.exporter.0 part signed_lane.signature) (sym same_part) ∙ test_from_good signed_lane.exporter.0 (signed_part_of_lane_cert unsigned_lane) signed_lane.signature made

is_receiver : IsReceiver the_receiver the_lane
is_receiver =
    let same : same_key (public_of (key_named 1)) (public_of (key_named 1)) ≡ true = (bytes_eq-Decides (public_of (key_named 1)).0 (public_of (key_named 1)).0).1 refl in
    record { fits = cert_fits; good = cert_good; named = refl; inlet = 0; declared = rw same refl; signs = refl; identifier = refl }

spelled_lanes : HasSpelledLanes the_plan
spelled_lanes zero zero is = cert_fits
spelled_lanes zero (suc l) is = absurd (omega (arith, is))
spelled_lanes (suc zero) l is = absurd (omega (arith, is))
spelled_lanes (suc (suc h)) l is = absurd (omega (arith, is))

pub is_met : PremisesHold
is_met = (spelled_lanes, is_receiver)

-- the frame can be written

is_spelled : has_spelling the_message ≡ true
is_spelled = refl

can_be_written : CanBeWritten scheme has_spelling the_lane the_frame
can_be_written = record {
  leaf = refl;
  some = λ e. absurd cc;
  most = omega arith;
  each = λ m there. ⊎_elim (λ is. subst (λ x. has_spelling x ≡ true) is is_spelled) (λ none. absurd (in_none m none)) (in_cases the_message [] m there);
}

each_can : (f : Written) → Contains (the_frame ∷ []) f → CanBeWritten scheme has_spelling the_lane f
each_can f there = ⊎_elim (λ is. subst (λ x. CanBeWritten scheme has_spelling the_lane x) is can_be_written) (λ none. absurd (in_none f none)) (in_cases the_frame [] f there)

pub is_read : IsRead
is_read = all_items the_receiver the_lane is_receiver (the_frame ∷ []) each_can
