use Rattle.std.proofs.Common.{map}
use Rattle.ds_setup.specs.Events.{meant}
use Rattle.dstar.proofs.Meshes.{outside_by}
use Rattle.dstar.proofs.mesh.meshed.Goals as goal

pub returns-clause-ok : goal.returns-clause-ok
returns-clause-ok g c = record {
  document = c.in_ok-doc.doc;
  reads = c.in_ok-doc.ensures.answer.0;
  free = c.in_ok-doc.ensures.answer.1;
  runs = c.in_ok-text.ensures;
  outside = outside_by c.args.bytes.now c.in_ok-doc.doc (map meant c.in_ok-text.ensures.events) c.in_ok-doc.ensures.answer.0;
}
