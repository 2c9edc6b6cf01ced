use Rattle.std.proofs.Common.{rules}
use Rattle.lms_state.specs.Signers.{IsLeafOf}
use Rattle.lms_state.proofs.Traces.{after_resume}
use Rattle.lms_state.proofs.signer.Signer.resume.Goals as goal

pub returns-in-Ok-clause-traced : goal.returns-in-Ok-clause-traced
returns-in-Ok-clause-traced g c = λ before released trace.
    let leaf : IsLeafOf (g.K.Keeper.tells c.args.keeper.now) c.args.key c.min-next.result = search rules in
    rw c.mark.ensures.tells (after_resume (g.K.Keeper.tells c.args.keeper.now) c.args.key before released c.min-next.result trace leaf)
