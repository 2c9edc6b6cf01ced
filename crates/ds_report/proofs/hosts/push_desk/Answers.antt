use Rattle.std.proofs.Common.{◌≡◌, ◌++◌, OnOk, sym, subst, List, ℕ, ◌∙◌}
use Rattle.ds_desk.specs.Desks.{desk_of}
use Rattle.ds_report.specs.Printings.{printing_of, planned}
use Rattle.ds_report.proofs.Whole.{some_desk}
use Rattle.ds_report.proofs.hosts.push_desk.Goals as goal

pub returns : goal.returns
returns c =
    subst (λ (text : List ℕ). OnOk c.push_desk_pieces.result (c.push_desk_pieces.new.out.items ≡ c.args.out.now.items ++ text))
    (sym (some_desk c.args.doc.now (planned c.args.doc.now) (desk_of c.args.desk.now) (sym c.keeps_nothing.ensures ∙ c.if-keeps_nothing.false))) c.push_desk_pieces.ensures
