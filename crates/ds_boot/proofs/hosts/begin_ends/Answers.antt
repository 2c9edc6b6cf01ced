use Rattle.std.proofs.Common.{ℕ, ◌<◌, List, length, map, subst, sym, ◌∙◌}
use Rattle.ds_exporter.specs.HostStates.{connection_of}
use Rattle.ds_label.specs.declared.category.PubKey.{PubKey}
use Rattle.ds_boot.proofs.Signers.{key_count}
use Rattle.std.proofs.lemmas.Option.{slice_get_within}
use Rattle.ds_boot.proofs.Wholes.{conns_are, ends_count, key_is}
use Rattle.ds_boot.proofs.hosts.begin_ends.Goals as goal

pub key_of-key-requires : goal.key_of-key-requires
key_of-key-requires c = subst (λ (ks : List PubKey). c.args.place < length ks) (sym (c.as_slice.ensures.value ∙ c.requires.shared.keys)) (rw (key_count c.args.doc.now.hosts) (slice_get_within c.args.doc.now.hosts c.args.place c.args.host.now c.requires.there))

pub begin_conns-requires : goal.begin_conns-requires
begin_conns-requires c = record { few = subst (λ (xs : List ℕ). length xs < 4294967296) (sym (c.as_slice-2.ensures.value ∙ c.requires.shared.ends)) (ends_count c.args.doc.now c.requires.document) }

pub returns : goal.returns
returns c = conns_are c.args.doc.now c.args.place c.args.host.now (map connection_of c.in_ok-conns.conns.items) c.key_of-key.result c.args.names.now c.as_slice-2.result.now
    (key_is c.args.doc.now c.args.place c.args.host.now c.as_slice.result.now c.key_of-key.result c.requires.there (c.as_slice.ensures.value ∙ c.requires.shared.keys) c.key_of-key.ensures)
    c.requires.names (c.as_slice-2.ensures.value ∙ c.requires.shared.ends) c.in_ok-conns.ensures
