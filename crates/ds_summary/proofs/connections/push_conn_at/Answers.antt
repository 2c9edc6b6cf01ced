use Rattle.std.proofs.Common.{◌≡◌, ◌++◌, ◌∙◌, None, slice_get, option_map, refl, sym, ap}
use Rattle.std.proofs.lemmas.List.{append-nil}
use Rattle.std.proofs.lemmas.Option.{slice_get-map}
use Rattle.ds_exporter.specs.HostStates.{connection_of}
use Rattle.ds_hosts.proofs.Places.{past_at}
use Rattle.ds_summary.specs.Parts.{conn_if_there}
use Rattle.ds_summary.proofs.connections.push_conn_at.Goals as goal

pub returns-in-None : goal.returns-in-None
returns-in-None c =
    let none : slice_get c.args.conns.now c.args.place ≡ None = past_at c.args.conns.now c.args.conns.now c.args.place refl c.in-None.ensures.lookup.0 in
    sym (ap (λ o. c.args.out.now.items ++ conn_if_there o) (slice_get-map connection_of c.args.conns.now c.args.place ∙ ap (option_map connection_of) none) ∙ append-nil c.args.out.now.items)
