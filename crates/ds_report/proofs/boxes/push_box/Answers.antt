use Rattle.std.proofs.Common.{◌≡◌, ◌++◌, OnOk, sym, subst, List, ℕ}
use Rattle.ds_exporter.specs.HostStates.{box_of}
use Rattle.ds_report.specs.Printings.{printing_of, planned}
use Rattle.ds_report.proofs.Boxed.{section_of_box}
use Rattle.ds_report.proofs.boxes.push_box.Goals as goal

pub returns : goal.returns
returns c =
    let table = c.args.table.now in
    subst (λ (text : List ℕ). OnOk c.push_pieces.result (c.push_pieces.new.out.items ≡ c.args.out.now.items ++ text))
    (sym (section_of_box (printing_of c.args.doc.now) (planned c.args.doc.now) table.here table.rows c.args.host (box_of c.args.mailbox.now))) c.push_pieces.ensures
