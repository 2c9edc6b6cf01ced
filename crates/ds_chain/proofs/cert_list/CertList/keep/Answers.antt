use Rattle.ds_cert.specs.Good.{is_good_delegation}
use Rattle.ds_cert.specs.NoDoubles.{same_delegation}
use Rattle.ds_cert.specs.Ranges.{DelegationRange}
use Rattle.ds_cert.proofs.Same.{delegation_itself}
use Rattle.ds_chain.proofs.Stores.{IsStore-push, known_push}
use Rattle.ds_chain.proofs.cert_list.CertList.keep.Goals as goal

pub invariant_of-self : goal.invariant_of-self
invariant_of-self c =
    let items = c.self.inside.certs.items in
    rw (c.push_reserved.ensures.items, c.push_reserved-2.ensures.items) (
      IsStore-push same_delegation delegation_itself 256 DelegationRange items c.args.cert c.self.invariant.0 (rw (← c.self.view_is) at c.requires.few) (rw (← c.self.view_is) at c.requires.new) c.requires.range,
      known_push is_good_delegation items c.args.cert c.self.inside.good_flags.items c.is_good-good.result c.self.invariant.1 c.is_good-good.ensures.test,
    )
