use Rattle.std.proofs.Common.{◌≡◌, ◌∙◌, List, ℕ, sym, ap, subst}
use Rattle.std.specs.Prelude.{IfOk}
use Rattle.ds_model.specs.Plan.{Plan}
use Rattle.ds_setup.specs.Plans.{plan_of}
use Rattle.ds_report.specs.Printings.{printing_of}
use Rattle.ds_report.specs.Texts.{world_text}
use Rattle.ds_report.proofs.Texts.{texts_are, plan_is}
use Rattle.ds_report.proofs.printing.text.Goals as goal

pub returns : goal.returns
returns c =
    let w = c.args.world.now in
    subst (λ (text : List ℕ). IfOk c.pieces.result (λ made. made.items ≡ text))
    (ap (λ (q : Plan). world_text (printing_of w.doc) q w) (plan_is w.doc) ∙ sym (texts_are (printing_of w.doc) w c.fit.ensures)) c.pieces.ensures
