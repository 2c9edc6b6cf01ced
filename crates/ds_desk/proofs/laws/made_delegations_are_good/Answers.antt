use Rattle.std.proofs.Common.{◌≡◌, ℕ, ◌<◌, List, length, true, sym, ap, subst}
use Rattle.std.specs.Prelude.{is_none, Option}
use Rattle.lms_sig.specs.Keys.{Key}
use Rattle.lms_sig.specs.Merkle.{public_key, signature}
use Rattle.lms_sig.specs.Good.{IsGood}
use Rattle.lms_sig.specs.declared.verifying.Bad.{Bad}
use Rattle.lms_sig.proofs.Goods.{good-none, signature-good}
use Rattle.lms_state.specs.Signers.{leaves_of}
use Rattle.ds_label.specs.declared.category.PubKey.{PubKey}
use Rattle.ds_label.specs.declared.category.Category.{Category}
use Rattle.ds_cert.specs.Good.{is_good_delegation}
use Rattle.ds_cert.specs.Spelling.{signed_part_of_delegation}
use Rattle.ds_desk.specs.Signing.{unsigned, signed_at}
use Rattle.ds_desk.proofs.laws.made_delegations_are_good.Goals as goal

made_good : (key : Key) (leaf : ℕ) (here : PubKey) (c : Category) (to : PubKey) (from until : ℕ) → here.0 ≡ public_key key.params key.seed key.id → length key.id ≡ 16 → leaf < leaves_of key → is_good_delegation (signed_at key leaf here c to from until) ≡ true
unfolding signed_part_of_delegation
made_good key leaf here c to from until host size below =
    let part : List ℕ = signed_part_of_delegation (unsigned here c to from until) in
    let made : List ℕ = signature key.params key.seed key.id leaf part in
    let good : IsGood here.0 part made = subst (λ (k : List ℕ). IsGood k part made) (sym host) (signature-good key.params key.seed key.id part leaf size below) in
    ap (λ (o : Option Bad). is_none o) (good-none here.0 part made good)

pub returns : goal.returns
returns c = made_good
