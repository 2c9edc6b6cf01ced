use Rattle.std.proofs.Common.{◌≡◌, ap₂, sym, ◌∙◌, subst, arith}
use Rattle.lms_sig.specs.Keys.{Key}
use Rattle.lms_state.specs.Signers.{IsLeafOf}
use Rattle.ds_commands.proofs.Leaves.{key_for, spent_of, signs_of}
use Rattle.ds_commands.proofs.keys.signed.Goals as goal

pub returns-then-left-eq0-clause-ok : goal.returns-then-left-eq0-clause-ok
returns-then-left-eq0-clause-ok g c =
    spent_of c.args.params c.args.index c.args.secret.now c.args.message.now (g.K.Keeper.tells c.args.keeper.now) (g.K.Keeper.tells c.resume.new.keeper) c.resume.ensures.tells c.in-Ok-resume.signer
    (c.in-Ok-resume.ensures.key ∙ (c.in-Ok.ensures ∙ ap₂ (λ s i. record { params = c.args.params; seed = s; id = i }) c.derive.ensures.seed c.derive.ensures.id))
    (subst (λ (k : Key). IsLeafOf (g.K.Keeper.tells c.args.keeper.now) k c.in-Ok-resume.signer.next) (sym c.in-Ok-resume.ensures.key) c.in-Ok-resume.ensures.leaf)
    (omega (arith, c.left.ensures.left, c.left.ensures.next, c.if-left-eq0.true))

pub returns-clause-ok : goal.returns-clause-ok
returns-clause-ok g c =
    signs_of c.args.params c.args.index c.args.secret.now c.args.message.now (g.K.Keeper.tells c.args.keeper.now) (g.K.Keeper.tells c.resume.new.keeper) c.resume.ensures.tells c.in-Ok-resume.signer
    (c.in-Ok-resume.ensures.key ∙ (c.in-Ok.ensures ∙ ap₂ (λ s i. record { params = c.args.params; seed = s; id = i }) c.derive.ensures.seed c.derive.ensures.id))
    (subst (λ (k : Key). IsLeafOf (g.K.Keeper.tells c.args.keeper.now) k c.in-Ok-resume.signer.next) (sym c.in-Ok-resume.ensures.key) c.in-Ok-resume.ensures.leaf)
    (g.K.Keeper.tells c.signed_text.new.keeper)
    c.in_ok-text.text
    (omega (arith, c.left.ensures.left, c.left.ensures.next, c.if-left-eq0.false))
    c.in_ok-text.ensures.ok
    c.in_ok-text.ensures.text
