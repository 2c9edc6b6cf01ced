use Rattle.std.proofs.Common.{List, length, subst, sym, ap, ◌∙◌}
use Rattle.std.specs.Prelude.{All}
use Rattle.ds_label.specs.declared.category.PubKey.{PubKey}
use Rattle.ds_plan.specs.declared.host.HostSpec.{HostSpec}
use Rattle.ds_plan.specs.Keys.{host_keys}
use Rattle.ds_boot.specs.Lanes.{MayBegin}
use Rattle.ds_boot.proofs.Signers.{key_count}
use Rattle.ds_boot.proofs.Booted.{may_begin}
use Rattle.ds_boot.proofs.booting.begin_all.Goals as goal

pub begin_hosts-requires-clause-fits : goal.begin_hosts-requires-clause-fits
begin_hosts-requires-clause-fits c =
    let hosts = c.as_slice-hosts.ensures in
    let keys = c.as_slice.ensures.value ∙ (c.in_ok-keys.ensures ∙ ap (λ (hs : List HostSpec). host_keys hs) hosts) in
    subst (λ (hs : List HostSpec). All (MayBegin (length c.as_slice.result.now)) hs) (sym hosts)
    (subst (λ n. All (MayBegin n) c.args.doc.now.hosts) (sym (ap (λ (ks : List PubKey). length ks) keys ∙ key_count c.args.doc.now.hosts)) (may_begin c.args.doc.now c.requires.document))
