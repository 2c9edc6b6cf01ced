use Rattle.ds_exporter.specs.HostStates.{process_of}
use Rattle.ds_boot.specs.Parts.{process_begun}
use Rattle.ds_boot.proofs.Lists.{map_step}
use Rattle.ds_boot.proofs.procs.begin_processes.Goals as goal

pub loop-spec-preserved : goal.loop-spec-preserved
loop-spec-preserved c = map_step process_of (process_begun c.args.table.now.here c.args.table.now.rows) c.args.specs.now c.loop-spec.spec-index _ c.loop-spec.procs.items c.push.new.self.items c.in_ok-begin_process.field-0 c.spec-item.result _ c.loop-spec-test.true c.in_ok-push.ensures.items c.spec-item.is c.in_ok-begin_process.ensures c.loop-spec.invariant
