use Rattle.std.proofs.Common.{◌≡◌, ◌++◌, OnOk, sym, subst, List, ℕ}
use Rattle.ds_report.specs.Printings.{printing_of, planned}
use Rattle.ds_report.specs.Conns.{source_of}
use Rattle.ds_report.proofs.Ended.{section_of_conn}
use Rattle.ds_report.proofs.conns.push_conn.Goals as goal

pub returns : goal.returns
returns c = λ link passed.
    subst (λ (text : List ℕ). OnOk c.push_pieces.result (c.push_pieces.new.out.items ≡ c.args.out.now.items ++ text))
    (sym (section_of_conn (printing_of c.args.doc.now) (planned c.args.doc.now) c.args.number (source_of c.args.from) c.args.host link passed c.args.conn.now.conn)) c.push_pieces.ensures
