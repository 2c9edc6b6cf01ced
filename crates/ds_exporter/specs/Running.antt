-- A process that runs an operation inside itself.
use Rattle.std.specs.Prelude.{unwrap_or, Option}
use Rattle.ds_script.specs.Inner.{Course, inner}
use Rattle.ds_exporter.specs.HostStates.{HostProcess}

-- the course after the operation, where it is one of the five inside a process
abbrev pub inside_of : HostProcess → Option Course
inside_of x = inner x.process.script x.process.course

-- the process after it
abbrev pub ran_inside : HostProcess → HostProcess
ran_inside x = record x { process = record x.process { course = unwrap_or (inside_of x) x.process.course } }
