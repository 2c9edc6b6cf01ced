use Rattle.std.proofs.Common.{refl, sym, ◌∙◌}
use Rattle.lms_sig.specs.Good.{first_bad}
use Rattle.lms_sig.proofs.Goods.{ok-good}
use Rattle.lms_sig.proofs.verifying.verify.Goals as goal

pub returns-in-None-clause-bad : goal.returns-in-None-clause-bad
unfolding first_bad
returns-in-None-clause-bad c =
    let none = sym c.types_of.ensures ∙ c.in-None.is in
    rw none refl

pub returns-in-Some-clause-good : goal.returns-in-Some-clause-good
unfolding first_bad
returns-in-Some-clause-good c =
    let known = sym c.types_of.ensures ∙ c.in-Some.is in
    ok-good c.checked.result c.args.key.now c.args.message.now c.args.signature.now (rw known c.checked.ensures)

pub returns-in-Some-clause-bad : goal.returns-in-Some-clause-bad
unfolding first_bad
returns-in-Some-clause-bad c =
    let known = sym c.types_of.ensures ∙ c.in-Some.is in
    rw known c.checked.ensures
