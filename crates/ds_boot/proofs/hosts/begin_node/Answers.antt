use Rattle.std.proofs.Common.{ℕ, List, length, subst, sym, ap, ◌∙◌}
use Rattle.ds_label.specs.declared.category.PubKey.{PubKey}
use Rattle.ds_setup.specs.Signed.{leaf_behind}
use Rattle.ds_boot.specs.Parts.{HasInlets}
use Rattle.ds_boot.proofs.Signers.{key_count}
use Rattle.ds_boot.proofs.Wholes.{has_inlets, runs_if}
use Rattle.ds_boot.proofs.hosts.begin_node.Goals as goal

pub inlet_names-requires-clause-own : goal.inlet_names-requires-clause-own
inlet_names-requires-clause-own c = subst (λ (n : ℕ). HasInlets n c.args.host.now) (sym (ap (λ (ks : List PubKey). length ks) (c.as_slice.ensures.value ∙ c.requires.shared.keys) ∙ key_count c.args.doc.now.hosts)) (has_inlets c.args.doc.now c.requires.document c.args.place c.args.host.now c.requires.there)

pub returns-in_ok-begin_exporter-in-Some : goal.returns-in_ok-begin_exporter-in-Some
returns-in_ok-begin_exporter-in-Some c = (runs_if c.args.host.now.identity c.args.host.now.secret (leaf_behind c.args.host.now c.args.place c.args.doc.now.certs) c.args.signer _ c.requires.signer c.in-Some.is, c.in_ok-begin_exporter-in-Some.ensures)
