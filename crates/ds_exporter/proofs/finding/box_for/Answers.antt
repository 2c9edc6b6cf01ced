use Rattle.std.proofs.Common.{◌∙◌, ap}
use Rattle.std.specs.Prelude.{position}
use Rattle.ds_exporter.specs.HostStates.{box_of}
use Rattle.ds_exporter.specs.Mailboxes.{has_slot}
use Rattle.ds_exporter.proofs.Queues.{position_seen}
use Rattle.ds_exporter.proofs.finding.box_for.Goals as goal

pub returns-clause-place : goal.returns-clause-place
returns-clause-place c =
    c.place_for.ensures.place
    ∙ (ap (position (λ b. has_slot c.args.slot (box_of b))) c.as_slice.ensures.value
    ∙ position_seen box_of (has_slot c.args.slot) c.args.boxes.now.items)
