use Rattle.std.proofs.Common.{◌≡◌, ◌++◌, drop, map, codes}
use Rattle.ds_doc.specs.Places.{member_text}
use Rattle.ds_doc.specs.Seen.{seen}
use Rattle.ds_doc.proofs.reading.whole.names_of.Given as goal

abbrev pub invariant-loop-host : goal.invariant-loop-host
invariant-loop-host l =
    l.names ++ map (member_text (codes "name")) (map seen (drop l.host-index l.hosts))
    ≡ map (member_text (codes "name")) (map seen l.hosts)
