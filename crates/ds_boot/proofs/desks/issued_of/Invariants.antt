use Rattle.std.proofs.Common.{◌≡◌, ◌++◌, drop}
use Rattle.std.specs.List.{flat_map}
use Rattle.ds_boot.specs.Desks.{issued_for}
use Rattle.ds_boot.proofs.desks.issued_of.Given as goal

abbrev pub invariant-loop-kept : goal.invariant-loop-kept
invariant-loop-kept l =
    l.issued.items ++ flat_map (issued_for l.place) (drop l.kept-index l.certs) ≡ flat_map (issued_for l.place) l.certs
