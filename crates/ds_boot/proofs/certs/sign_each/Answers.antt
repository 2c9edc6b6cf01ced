use Rattle.std.proofs.Common.{◌≡◌, List, Some, slice_get, subst, sym, ap, ◌∙◌}
use Rattle.ds_plan.specs.declared.cert.CertSpec.{CertSpec}
use Rattle.ds_boot.proofs.Lists.{there_at}
use Rattle.ds_boot.proofs.Signers.{certs_step, signers_step}
use Rattle.ds_boot.proofs.certs.sign_each.Goals as goal

pub loop-place-preserved : goal.loop-place-preserved
loop-place-preserved c =
    let there : slice_get c.args.doc.now.certs c.loop-place.place ≡ Some c.index-specs-place.result = subst (λ (xs : List CertSpec). slice_get xs c.loop-place.place ≡ Some c.index-specs-place.result) c.requires.specs (there_at c.args.specs.now c.loop-place.place _ c.loop-place-test.true ∙ ap (λ (x : CertSpec). Some x) (sym c.index-specs-place.is)) in
    record {
      certs = certs_step c.args.doc.now.hosts c.args.doc.now.certs c.loop-place.place c.index-specs-place.result c.loop-place.certs.items c.push.new.self.items c.in_ok-next_cert.field-0 there c.in_ok-push.ensures.items c.in_ok-next_cert.ensures.cert c.loop-place.invariant.certs;
      signers = signers_step c.args.doc.now.hosts c.args.doc.now.certs c.loop-place.place c.index-specs-place.result c.next_cert.new.signers there c.in_ok-next_cert.ensures.signers;
    }
