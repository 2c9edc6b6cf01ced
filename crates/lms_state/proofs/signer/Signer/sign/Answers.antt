use Rattle.std.proofs.Common.{◌≡◌, ◌+◌, ◌<◌, rules, arith}
use Rattle.std.proofs.lemmas.Grind.{common_steps}
use Rattle.ds_base.specs.Marks.{Raised, MayBeRaised}
use Rattle.lms_state.specs.Signers.{leaves_of}
use Rattle.lms_state.proofs.Traces.{after_sign, after_fault}
use Rattle.lms_state.proofs.signer.Signer.sign.Goals as goal

pub returns-then-is_err-clause-traced : goal.returns-then-is_err-clause-traced
returns-then-is_err-clause-traced g c = λ released trace.
    let raised : MayBeRaised (g.K.Keeper.tells c.args.keeper.now) c.args.self.now.key.id (c.args.self.now.next + 1) (g.K.Keeper.tells c.raise.new.self) = search rules in
    after_fault _ _ c.args.self.now.key c.args.self.now.next released trace raised

pub returns-clause-traced : goal.returns-clause-traced
returns-clause-traced g c = λ released trace.
    let raised : Raised (g.K.Keeper.tells c.args.keeper.now) c.args.self.now.key.id (c.args.self.now.next + 1) (g.K.Keeper.tells c.raise.new.self) = search rules in
    let on : c.self.inside.next + 1 ≡ c.args.self.now.next + 1 = search rules in
    let stands : c.args.self.now.next < leaves_of c.args.self.now.key = grind (arith, common_steps) in
    after_sign _ _ c.args.self.now.key c.args.self.now.next (c.self.inside.next + 1) released on trace stands raised
