use Rattle.std.proofs.Common.{◌≡◌, ◌++◌, OnOk, sym, subst, List, ℕ}
use Rattle.ds_desk.specs.Desks.{desk_of}
use Rattle.ds_report.specs.Printings.{printing_of, planned}
use Rattle.ds_report.proofs.Whole.{line_of_host}
use Rattle.ds_report.proofs.hosts.push_line.Goals as goal

pub returns : goal.returns
returns c =
    subst (λ (text : List ℕ). OnOk c.push_pieces.result (c.push_pieces.new.out.items ≡ c.args.out.now.items ++ text))
    (sym (line_of_host (printing_of c.args.doc.now) (planned c.args.doc.now) c.args.host (desk_of c.args.desk.now))) c.push_pieces.ensures
