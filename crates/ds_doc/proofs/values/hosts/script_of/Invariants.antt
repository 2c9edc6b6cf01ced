use Rattle.std.proofs.Common.{◌≡◌, ◌++◌, drop, map}
use Rattle.ds_doc.specs.Values.{op}
use Rattle.ds_doc.proofs.values.hosts.script_of.Given as goal

abbrev pub invariant-loop-op : goal.invariant-loop-op
invariant-loop-op l =
    l.script ++ map (op l.keys) (drop l.op-index l.ops)
    ≡ map (op l.keys) l.ops
