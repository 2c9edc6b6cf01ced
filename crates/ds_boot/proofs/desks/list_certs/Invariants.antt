use Rattle.std.proofs.Common.{◌≡◌, drop}
use Rattle.std.specs.List.{flat_map}
use Rattle.ds_boot.specs.Desks.{addresses_for, with_addresses}
use Rattle.ds_boot.proofs.desks.list_certs.Given as goal

abbrev pub invariant-loop-kept : goal.invariant-loop-kept
invariant-loop-kept l =
    with_addresses l.list.items (flat_map (addresses_for l.place) (drop l.kept-index l.certs)) ≡ with_addresses l.initial.list.items (flat_map (addresses_for l.place) l.certs)
