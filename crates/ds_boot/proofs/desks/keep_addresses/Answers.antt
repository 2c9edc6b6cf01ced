use Rattle.ds_boot.proofs.Kept.{next_fits}
use Rattle.ds_boot.proofs.desks.keep_addresses.Goals as goal

pub keep_address-requires-clause-few : goal.keep_address-requires-clause-few
keep_address-requires-clause-few c = rw c.in_ok-copy.ensures (next_fits c.loop-address.list.items c.args.addresses.now c.loop-address.address-index _ c.address-item.result _ c.loop-address-test.true c.address-item.is c.loop-address.invariant c.requires.few)
