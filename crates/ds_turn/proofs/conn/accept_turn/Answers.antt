use Rattle.std.proofs.Common.{sym, ap, ◌∙◌}
use Rattle.std.specs.Prelude.{is_some}
use Rattle.ds_inlet.specs.Connections.{Connection}
use Rattle.ds_turn.specs.ConnRecords.{ConnRecord}
use Rattle.ds_turn.specs.ConnTurns.{KeepsBack}
use Rattle.ds_turn.proofs.ConnMade.{keeps_offer, on_err, rests_broken}
use Rattle.ds_turn.proofs.conn.accept_turn.Goals as goal

pub returns-in_err-count_turn-in-Ok-Frame-clause-err : goal.returns-in_err-count_turn-in-Ok-Frame-clause-err
returns-in_err-count_turn-in-Ok-Frame-clause-err g c =
    on_err (KeepsBack c.args.conn.now.link c.count_turn.new.conn.link) c.from_residual-in_err-count_turn-in-Ok-Frame.result
    (keeps_offer c.args.conn.now.link c.reserve.new.self.link c.read.new.self.link c.count_turn.new.conn.link c.in-Ok-Frame.field-0 c.in-Ok-Frame.inlet c.in-Ok-Frame.number
    c.in_ok-reserve.ensures.same c.in-Ok-Frame.field-0-is c.in-Ok-Frame.ensures.exact c.in-Ok-Frame.ensures.events c.in_err-count_turn-in-Ok-Frame.ensures.err)

pub returns-then-failed-clause-ok : goal.returns-then-failed-clause-ok
returns-then-failed-clause-ok g c =
    rests_broken c.args.conn.now.link c.reserve.new.self.link c.read.new.self.link c.in-Err-BadFrame.field-0 c.in-Err-BadFrame._cause c.in-Err-BadFrame._place
    c.in_ok-reserve.ensures.same c.requires.hand c.requires.free
    (ap (λ (r : ConnRecord). is_some r.conn.reader.failure) (sym c.in_ok-reserve.ensures.same)
    ∙ (ap (λ (k : Connection). is_some k.reader.failure) (sym c.conn.ensures) ∙ (ap is_some (sym c.failure.ensures) ∙ (sym c.is_some-failed.ensures ∙ c.if-failed.true))))
    c.in-Err-BadFrame.field-0-is c.in-Err-BadFrame.ensures.exact c.in-Err-BadFrame.ensures.events
