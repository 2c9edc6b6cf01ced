use Rattle.std.proofs.Common.{ap, subst, sym, ◌∙◌}
use Rattle.std.specs.Prelude.{is_some}
use Rattle.ds_map.proofs.Sets.{true_false}
use Rattle.ds_exporter.specs.HostStates.{HostProcess, process_of}
use Rattle.ds_exporter.specs.Queueing.{HandAsks}
use Rattle.ds_exporter.specs.Sites.{seen_of}
use Rattle.ds_exporter.proofs.Places.{some_is, stands_now}
use Rattle.ds_exporter.proofs.queueing.hand_ask.Goals as goal

pub unreachable-requires : goal.unreachable-requires
unreachable-requires c = true_false (is_some c.index.result.now.hand)
    (c.requires.hand (process_of c.index.result.now) (stands_now process_of c.args.procs.now.items c.args.place c.index.result.now c.requires.place c.index.ensures))
    (ap is_some c.in_default.is)

pub returns : goal.returns
returns c =
    let there = stands_now process_of c.args.procs.now.items c.args.place c.index.result.now c.requires.place c.index.ensures in
    let asked : HandAsks (seen_of c.args.site.now) (process_of c.index.result.now) c.in_ok-ask.ask = record {
      message = c.in-Some.message;
      hand = c.in-Some.is;
      kind = c.in_ok-ask.ensures.hand;
      copied = c.in_ok-ask.ensures.copied;
      range = c.in_ok-ask.ensures.range;
      asked = λ here rows plan y z. c.in_ok-ask.ensures.asked here rows plan y z;
    } in
    λ x h. subst (λ (y : HostProcess). HandAsks (seen_of c.args.site.now) y c.in_ok-ask.ask) (some_is (process_of c.index.result.now) x (sym there ∙ h)) asked
