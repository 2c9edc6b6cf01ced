use Rattle.std.proofs.Common.{◌+◌, cond, sym, ◌∙◌}
use Rattle.ds_merge.specs.Standing.{touched_it}
use Rattle.ds_merge.specs.Tables.{at_object}
use Rattle.ds_merge.proofs.Lookups.{raised_actor}
use Rattle.ds_merge.proofs.tables.Tables.take.Goals as goal

pub returns-in-None : goal.returns-in-None
returns-in-None c =
    let event = c.args.event.now in
    let old = c.args.self.now in
    let raised = raised_actor old.actors c.insert.new.self event.who event.stamp c.in_ok-insert.ensures.updates.0 in
    (λ i. record {
      actor_last = λ who. raised who i;
      object_last = λ name. cond (touched_it name (sym c.in-None.is i)) event.stamp (at_object old.objects name);
      taken = λ name. cond (touched_it name (sym c.in-None.is i)) (at_object old.counts name + 1) (at_object old.counts name);
    })

pub returns-in_ok-take_entry-in-Some : goal.returns-in_ok-take_entry-in-Some
returns-in_ok-take_entry-in-Some c =
    let event = c.args.event.now in
    let old = c.args.self.now in
    let raised = raised_actor old.actors c.insert.new.self event.who event.stamp c.in_ok-insert.ensures.updates.0 in
    let entry = c.in_ok-take_entry-in-Some.ensures in
    (λ i. record {
      actor_last = λ who. (entry.actors who ∙ raised who) i;
      object_last = λ name. (entry.objects name ∙ (λ j. cond (touched_it name (sym c.in-Some.is j)) event.stamp (at_object old.objects name))) i;
      taken = λ name. (entry.counts name ∙ (λ j. cond (touched_it name (sym c.in-Some.is j)) (at_object old.counts name + 1) (at_object old.counts name))) i;
    })
