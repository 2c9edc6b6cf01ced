use Rattle.ds_merge.specs.declared.records.History.{History}
use Rattle.ds_crew.proofs.Growing.{is_history, one_more}
use Rattle.ds_crew.proofs.object_histories.add.Goals as goal

pub returns : goal.returns
returns c =
    let h : History = record { object = c.args.object; entries = c.in_ok-entries.entries } in
    one_more c.args.out.now.items c.push.new.self.items h c.in_ok-push.ensures.items
    (is_history h c.args.entries.items c.in_ok-entries.ensures c.requires.rising c.requires.spells)
