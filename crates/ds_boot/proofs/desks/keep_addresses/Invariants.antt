use Rattle.std.proofs.Common.{◌≡◌, drop}
use Rattle.ds_boot.specs.Desks.{with_addresses}
use Rattle.ds_boot.proofs.desks.keep_addresses.Given as goal

abbrev pub invariant-loop-address : goal.invariant-loop-address
invariant-loop-address l =
    with_addresses l.list.items (drop l.address-index l.addresses) ≡ with_addresses l.initial.list.items l.addresses
