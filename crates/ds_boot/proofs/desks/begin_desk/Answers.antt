use Rattle.ds_setup.specs.Starts.{own_addresses}
use Rattle.std.proofs.Common.{true, ◌≡◌, ◌≤◌, List, [], length, subst, sym, ap, ◌∙◌}
use Rattle.std.specs.Prelude.{All}
use Rattle.std.specs.List.{AllByRecursion, flat_map}
use Rattle.lms_state.specs.Signers.{Signing}
use Rattle.ds_label.specs.declared.category.Category.{Category}
use Rattle.ds_label.specs.declared.category.PubKey.{PubKey}
use Rattle.ds_cert.specs.declared.address.Address.{Address}
use Rattle.ds_cert.specs.Ranges.{AddressRange}
use Rattle.ds_plan.specs.Keys.{host_key}
use Rattle.ds_plan.specs.Documents.{are_rows}
use Rattle.ds_setup.specs.Signed.{DocCert, leaf_behind}
use Rattle.ds_boot.specs.Desks.{IsTyped, addresses_for, delegations_for, issued_for, with_addresses, with_delegations}
use Rattle.ds_map.specs.Table.{IsTable, Table}
use Rattle.ds_chain.specs.Stored.{Stored}
use Rattle.ds_cert.specs.declared.delegation.Delegation.{Delegation}
use Rattle.ds_boot.proofs.OwnParts.{key_shown}
use Rattle.ds_boot.proofs.DeskFacts.{InRange, desk_facts, desk_is}
use Rattle.ds_boot.proofs.desks.begin_desk.Goals as goal

pub table_of-requires-clause-few : goal.table_of-requires-clause-few
table_of-requires-clause-few c = rw c.as_slice-2.ensures ((desk_facts c.args.doc.now c.requires.document c.args.place c.args.host.now c.requires.there c.requires.runs).few_rows)

pub table_of-requires-clause-rows : goal.table_of-requires-clause-rows
table_of-requires-clause-rows c = rw c.as_slice-2.ensures (subst (λ (key : PubKey). are_rows key c.args.host.now.map ≡ true)
    (sym (key_shown c.args.host.now (leaf_behind c.args.host.now c.args.place c.args.doc.now.certs) c.args.signer c.public.result c.requires.runs c.requires.signer c.public.ensures)) ((desk_facts c.args.doc.now c.requires.document c.args.place c.args.host.now c.requires.there c.requires.runs).rows))

pub store_of-requires-clause-range : goal.store_of-requires-clause-range
store_of-requires-clause-range c = subst (All InRange) (sym c.requires.certs) ((desk_facts c.args.doc.now c.requires.document c.args.place c.args.host.now c.requires.there c.requires.runs).range)

pub store_of-requires-clause-few : goal.store_of-requires-clause-few
store_of-requires-clause-few c = subst (λ (all : List DocCert). length all ≤ 256) (sym c.requires.certs) ((desk_facts c.args.doc.now c.requires.document c.args.place c.args.host.now c.requires.there c.requires.runs).few)

pub addresses_of-requires-clause-own : goal.addresses_of-requires-clause-own
addresses_of-requires-clause-own c = subst (All AddressRange) (sym c.requires.own) ((desk_facts c.args.doc.now c.requires.document c.args.place c.args.host.now c.requires.there c.requires.runs).own)

pub addresses_of-requires-clause-range : goal.addresses_of-requires-clause-range
addresses_of-requires-clause-range c = subst (All InRange) (sym c.requires.certs) ((desk_facts c.args.doc.now c.requires.document c.args.place c.args.host.now c.requires.there c.requires.runs).range)

pub addresses_of-requires-clause-few : goal.addresses_of-requires-clause-few
addresses_of-requires-clause-few c =
    subst (λ (own : List Address). length (with_addresses (with_addresses [] own) (flat_map (addresses_for c.args.place) c.args.certs.now)) ≤ 64) (sym c.requires.own)
    (subst (λ (all : List DocCert). length (with_addresses (with_addresses [] (own_addresses c.args.doc.now.hosts)) (flat_map (addresses_for c.args.place) all)) ≤ 64) (sym c.requires.certs)
    (((desk_facts c.args.doc.now c.requires.document c.args.place c.args.host.now c.requires.there c.requires.runs).room) (subst (AllByRecursion IsTyped) c.as_slice.ensures c.show_specs.ensures)))

pub returns : goal.returns
returns c =
    let key = key_shown c.args.host.now (leaf_behind c.args.host.now c.args.place c.args.doc.now.certs) c.args.signer c.public.result c.requires.runs c.requires.signer c.public.ensures in
    let all = c.requires.certs in
    record {
      here = c.in_ok-desk.ensures.parts.0 ∙ key;
      key = ap (λ (s : Signing). s.key) (c.in_ok-desk.ensures.whole.1 ∙ c.requires.signer);
      desk = desk_is c.args.doc.now c.args.place c.args.host.now c.in_ok-desk.desk.moment c.in_ok-desk.desk.table.rows c.in_ok-desk.desk.store.items c.in_ok-desk.desk.addresses.items c.in_ok-desk.desk.issued.items c.in_ok-desk.desk.signer.next
          c.in_ok-desk.ensures.parts.1
          (ap (λ (t : Table). t.rows) c.in_ok-desk.ensures.whole.0 ∙ (c.in_ok-table.ensures.rows ∙ c.as_slice-2.ensures))
          (ap (λ (l : Stored Delegation). l.items) c.in_ok-desk.ensures.lists.0 ∙ (c.in_ok-store.ensures ∙ ap (λ (all : List DocCert). with_delegations [] (flat_map (delegations_for c.args.place) all)) all))
          (ap (λ (l : Stored Address). l.items) c.in_ok-desk.ensures.lists.1 ∙ (c.in_ok-addresses.ensures
          ∙ (ap (λ (own : List Address). with_addresses (with_addresses [] own) (flat_map (addresses_for c.args.place) c.args.certs.now)) c.requires.own
          ∙ ap (λ (all : List DocCert). with_addresses (with_addresses [] (own_addresses c.args.doc.now.hosts)) (flat_map (addresses_for c.args.place) all)) all)))
          (ap (λ (l : Stored Delegation). l.items) c.in_ok-desk.ensures.lists.2 ∙ (c.in_ok-issued.ensures ∙ ap (λ (all : List DocCert). flat_map (issued_for c.args.place) all) all))
          (ap (λ (s : Signing). s.next) (c.in_ok-desk.ensures.whole.1 ∙ c.requires.signer));
      rows = subst (λ (rows : List Category). IsTable (host_key c.args.host.now) rows) (c.in_ok-table.ensures.rows ∙ c.as_slice-2.ensures) (subst (λ (here : PubKey). IsTable here c.in_ok-table.table.rows) (c.in_ok-table.ensures.here ∙ key) c.rows-rows.ensures.table);
      replay = c.in_ok-desk.ensures.kept;
      before = c.in_ok-desk.ensures.begins.0;
      history = c.in_ok-desk.ensures.begins.1;
    }
