-- What contracts see of the fields of the objects in memory.
use Rattle.std.specs.Prelude.{drop}
use Rattle.ds_base.specs.FaultPlans.{PlannedFaults}
use Rattle.ds_base.specs.Memory.{Supply, CalmSupply, Output, CalmMarks, Marks, Connections}
use Rattle.ds_base.specs.Edge.{Reading, Writing, Folder}
use Rattle.ds_base.specs.declared.fault_plan.FaultPlan.TheInside.{Inside as PlanFields}
use Rattle.ds_base.specs.declared.calm_source.CalmSource.TheInside.{Inside as CalmSourceFields}
use Rattle.ds_base.specs.declared.mem_source.MemSource.TheInside.{Inside as MemSourceFields}
use Rattle.ds_base.specs.declared.mem_sink.MemSink.TheInside.{Inside as MemSinkFields}
use Rattle.ds_base.specs.declared.calm_keeper.CalmKeeper.TheInside.{Inside as CalmKeeperFields}
use Rattle.ds_base.specs.declared.mem_keeper.MemKeeper.TheInside.{Inside as MemKeeperFields}
use Rattle.ds_base.specs.declared.mem_wire.MemWire.TheInside.{Inside as MemWireFields}
use Rattle.ds_base.specs.declared.read_source.ReadSource.TheInside.{Inside as ReadSourceFields}
use Rattle.ds_base.specs.declared.write_sink.WriteSink.TheInside.{Inside as WriteSinkFields}
use Rattle.ds_base.specs.declared.file_keeper.FileKeeper.TheInside.{Inside as FileKeeperFields}
use Rattle.std.specs.Vec.Iter.{into_iter_items}

abbrev pub plan_seen : PlanFields → PlannedFaults
plan_seen p = record { failing = p.failing.items; made = p.made; faults = p.faults }

abbrev pub calm_supply_of : CalmSourceFields → CalmSupply
calm_supply_of s = record { left = drop s.at s.bytes.items; ends = s.ends }

abbrev pub supply_of : MemSourceFields → Supply
supply_of s = record { left = s.inner.left; ends = s.inner.ends; plan = s.plan }

abbrev pub output_of : MemSinkFields → Output
output_of s = record { written = s.written.items; piece = s.piece; plan = s.plan }

abbrev pub calm_marks_of : CalmKeeperFields → CalmMarks
calm_marks_of k = record { raised = k.raised }

abbrev pub marks_of : MemKeeperFields → Marks
marks_of k = record { marks = k.marks.items; keeping = k.keeping.items; plan = k.plan }

abbrev pub connections_of : {I O : Type 0} → MemWireFields I O → Connections I O
connections_of w = record { accepts = into_iter_items w.accepts; connects = into_iter_items w.connects; plan = w.plan }

abbrev pub reading_of : {R : Type 0} → ReadSourceFields R → Reading R
reading_of s = record { reader = s.reader; faults = s.faults; ends = s.ends }

abbrev pub writing_of : {W : Type 0} → WriteSinkFields W → Writing W
writing_of s = record { writer = s.writer; faults = s.faults }

abbrev pub folder_of : {R D : Type 0} → FileKeeperFields R D → Folder
folder_of k = record { faults = k.faults }
