use Rattle.std.proofs.Common.{◌≡◌, ◌++◌, OnOk, sym, subst, List, ℕ}
use Rattle.ds_exporter.specs.HostStates.{lane_of}
use Rattle.ds_report.specs.Printings.{printing_of, planned}
use Rattle.ds_report.proofs.Spaced.{section_of_lane}
use Rattle.ds_report.proofs.lanes.push_lane.Goals as goal

pub returns : goal.returns
returns c =
    subst (λ (text : List ℕ). OnOk c.push_pieces.result (c.push_pieces.new.out.items ≡ c.args.out.now.items ++ text))
    (sym (section_of_lane (printing_of c.args.doc.now) (planned c.args.doc.now) c.args.host c.args.place (lane_of c.args.lane.now))) c.push_pieces.ensures
