use Rattle.std.proofs.Common.{◌≤◌, length, ap, arith}
use Rattle.std.proofs.lemmas.List.{length-map}
use Rattle.ds_exporter.specs.HostStates.{process_of}
use Rattle.ds_hosts.proofs.Entering.{none_steps}
use Rattle.ds_hosts.proofs.stepping.step_of.Goals as goal

pub returns-then-index-len-clause-entered : goal.returns-then-index-len-clause-entered
returns-then-index-len-clause-entered c =
    let e = c.args.exporter.now in
    let v = c.procs.result.now in
    let le : length e.procs ≤ c.args.index = omega (arith, c.if-index-len.true, c.len.ensures, v.ok, length-map v.items process_of, ap length c.procs.ensures) in
    none_steps e c.args.stamp c.args.index le
