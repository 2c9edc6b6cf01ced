use Rattle.std.proofs.Common.{◌≡◌, [], ◌∷◌, Some, sym, ap, subst, ◌∙◌}
use Rattle.std.specs.Prelude.{IsTrue}
use Rattle.ds_script.specs.Process.{Process}
use Rattle.ds_model.specs.ProcessStep.{taken_after_reply}
use Rattle.ds_map.specs.Labels.{have_names}
use Rattle.ds_actor.specs.Replying.{MovedOn, took_process}
use Rattle.ds_exporter.specs.HostStates.{HostProcess, process_of}
use Rattle.ds_exporter.specs.PlainHosts.{plain_mail, plain_process}
use Rattle.ds_exporter.specs.Taking.{TakesSo}
use Rattle.ds_exporter.proofs.Places.{some_is, stands_now, there_now}
use Rattle.ds_exporter.proofs.taking.took_at.Goals as goal

pub took-requires-clause-room : goal.took-requires-clause-room
took-requires-clause-room c = (c.requires.ready c.index_mut.result.now (there_now c.args.procs.now.items c.args.place c.index_mut.result.now c.requires.place c.index_mut.ensures.value)).room

pub took-requires-clause-spare : goal.took-requires-clause-spare
took-requires-clause-spare c = (c.requires.ready c.index_mut.result.now (there_now c.args.procs.now.items c.args.place c.index_mut.result.now c.requires.place c.index_mut.ensures.value)).spare

pub took-requires-clause-going : goal.took-requires-clause-going
took-requires-clause-going c = (c.requires.ready c.index_mut.result.now (there_now c.args.procs.now.items c.args.place c.index_mut.result.now c.requires.place c.index_mut.ensures.value)).going

pub returns-clause-takes : goal.returns-clause-takes
returns-clause-takes c =
    let now : HostProcess = process_of c.index_mut.result.now in
    let there = stands_now process_of c.args.procs.now.items c.args.place c.index_mut.result.now c.requires.place c.index_mut.ensures.value in
    let same : c.took.new.process.process ≡ took_process c.args.reg c.args.slot c.args.message now.process = c.took.ensures.process in
    let takes : TakesSo c.args.reg c.args.slot c.args.message now = record {
      moved = subst (λ (p : Process). MovedOn now.process p) same c.took.ensures.moved;
      names = ap (λ (p : Process). p.names) (sym same) ∙ c.took.ensures.names;
      labels = λ here rows named mail. subst (λ (p : Process). IsTrue (have_names here rows (p.label ∷ p.own ∷ p.clear ∷ []))) same (c.took.ensures.labels here rows named mail);
      becomes = λ here rows table named mail. subst (λ (p : Process). plain_process here rows (record { process = p; hand = now.hand }) ≡ taken_after_reply c.args.reg c.args.slot (Some (plain_mail here rows c.args.message)) (plain_process here rows now))
          same (c.took.ensures.becomes here rows table named mail now.hand);
    } in
    λ x h. subst (λ (y : HostProcess). TakesSo c.args.reg c.args.slot c.args.message y) (some_is now x (sym there ∙ h)) takes
