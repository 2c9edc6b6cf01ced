use Rattle.std.proofs.Common.{◌≡◌, ◌↔◌, Some, None, map, slice_get, sym, ◌∙◌, subst}
use Rattle.std.specs.Prelude.{◌≢◌, Option}
use Rattle.ds_exporter.specs.declared.moved.Moved.{Moved}
use Rattle.ds_exporter.specs.declared.moved.Moved.TheVariants.{Still, Changed}
use Rattle.ds_exporter.specs.HostStates.{HostProcess, process_of}
use Rattle.ds_exporter.specs.Running.{inside_of, ran_inside}
use Rattle.ds_exporter.proofs.IfDone.{if_done}
use Rattle.ds_exporter.proofs.Places.{some_is, stands_now}
use Rattle.ds_exporter.proofs.running.run_at.Goals as goal

pub returns-clause-outer : goal.returns-clause-outer
returns-clause-outer c =
    let there = stands_now process_of c.args.procs.now.items c.args.place c.index_mut.result.now c.requires c.index_mut.ensures.value in
    if_done (λ (ran : Option Moved). (ran ≡ None) ↔ (inside_of (process_of c.index_mut.result.now) ≡ None))
    (λ (ran : Option Moved). (x : HostProcess) → slice_get (map process_of c.args.procs.now.items) c.args.place ≡ Some x → (ran ≡ None) ↔ (inside_of x ≡ None))
    c.run_inside.result (λ ran is x h. subst (λ (y : HostProcess). (ran ≡ None) ↔ (inside_of y ≡ None)) (some_is (process_of c.index_mut.result.now) x (sym there ∙ h)) is) c.run_inside.ensures.outer

pub returns-clause-still : goal.returns-clause-still
returns-clause-still c =
    let there = stands_now process_of c.args.procs.now.items c.args.place c.index_mut.result.now c.requires c.index_mut.ensures.value in
    if_done (λ (ran : Option Moved). ran ≡ Some Still → ran_inside (process_of c.index_mut.result.now) ≡ process_of c.index_mut.result.now)
    (λ (ran : Option Moved). (x : HostProcess) → slice_get (map process_of c.args.procs.now.items) c.args.place ≡ Some x → ran ≡ Some Still → ran_inside x ≡ x)
    c.run_inside.result (λ ran is x h. subst (λ (y : HostProcess). ran ≡ Some Still → ran_inside y ≡ y) (some_is (process_of c.index_mut.result.now) x (sym there ∙ h)) is) c.run_inside.ensures.still

pub returns-clause-changed : goal.returns-clause-changed
returns-clause-changed c =
    let there = stands_now process_of c.args.procs.now.items c.args.place c.index_mut.result.now c.requires c.index_mut.ensures.value in
    if_done (λ (ran : Option Moved). ran ≡ Some Changed → ran_inside (process_of c.index_mut.result.now) ≢ process_of c.index_mut.result.now)
    (λ (ran : Option Moved). (x : HostProcess) → slice_get (map process_of c.args.procs.now.items) c.args.place ≡ Some x → ran ≡ Some Changed → ran_inside x ≢ x)
    c.run_inside.result (λ ran is x h. subst (λ (y : HostProcess). ran ≡ Some Changed → ran_inside y ≢ y) (some_is (process_of c.index_mut.result.now) x (sym there ∙ h)) is) c.run_inside.ensures.changed
