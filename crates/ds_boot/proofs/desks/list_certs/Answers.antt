use Rattle.ds_boot.proofs.Kept.{next_fits_of}
use Rattle.ds_boot.specs.Desks.{addresses_for}
use Rattle.ds_boot.proofs.desks.list_certs.Goals as goal

pub list_cert-requires-clause-few : goal.list_cert-requires-clause-few
list_cert-requires-clause-few c = next_fits_of (addresses_for c.args.place) c.loop-kept.list.items c.args.certs.now c.loop-kept.kept-index _ c.kept-item.result _ c.loop-kept-test.true c.kept-item.is c.loop-kept.invariant c.requires.few
