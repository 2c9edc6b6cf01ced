use Rattle.std.proofs.Common.{sym, subst}
use Rattle.std.specs.List.{All}
use Rattle.std.proofs.lemmas.List.Elements.{All-nil}
use Rattle.ds_crew.specs.Histories.{IsHistory}
use Rattle.ds_crew.proofs.object_histories.histories.Goals as goal

pub returns-clause-entries : goal.returns-clause-entries
returns-clause-entries g c =
    c.in_ok-add_inlets.ensures.each (c.in_ok-add_lanes.ensures.each (c.in_ok-add_boxes.ensures.each (c.in_ok-add_desk.ensures.each
    (subst (All IsHistory) (sym c.new-out.ensures.items) (All-nil IsHistory)))))
