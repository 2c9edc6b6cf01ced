use Rattle.std.proofs.Common.{◌≡◌, Some, None, slice_get, option_map, map, refl, sym, ap, ◌∙◌}
use Rattle.std.proofs.lemmas.Option.{slice_get-map}
use Rattle.ds_model.specs.Views.{proc_view}
use Rattle.ds_exporter.specs.HostStates.{process_of}
use Rattle.ds_exporter.specs.PlainHosts.{plain_process}
use Rattle.ds_exporter.specs.Conditions.{IsProcNamed}
use Rattle.ds_exporter.proofs.Places.{all_get}
use Rattle.ds_hosts.proofs.Places.{past_at, read_at}
use Rattle.ds_views.proofs.Lookups.{seen_at}
use Rattle.ds_views.proofs.seeing.view_among.Goals as goal

pub view_of_part-requires : goal.view_of_part-requires
view_of_part-requires c =
    let procs = c.args.procs.now in
    let part = c.in-Some.part.now in
    let there : slice_get procs c.args.index ≡ Some part = read_at procs procs c.args.index part refl c.in-Some.ensures.lookup.0 c.in-Some.ensures.lookup.1 in
    all_get (IsProcNamed c.args.table.now.here c.args.table.now.rows) (map process_of procs) c.args.index (process_of part) c.requires
    (slice_get-map process_of procs c.args.index ∙ ap (option_map process_of) there)

pub returns-in_ok-view_of_part-in-Some : goal.returns-in_ok-view_of_part-in-Some
returns-in_ok-view_of_part-in-Some c =
    let procs = c.args.procs.now in
    let part = c.in-Some.part.now in
    let there : slice_get procs c.args.index ≡ Some part = read_at procs procs c.args.index part refl c.in-Some.ensures.lookup.0 c.in-Some.ensures.lookup.1 in
    ap Some c.in_ok-view_of_part-in-Some.ensures
    ∙ sym (ap (option_map proc_view) (seen_at process_of (plain_process c.args.table.now.here c.args.table.now.rows) procs c.args.index (Some part) there))

pub returns-in-None : goal.returns-in-None
returns-in-None c =
    let procs = c.args.procs.now in
    let none : slice_get procs c.args.index ≡ None = past_at procs procs c.args.index refl c.in-None.ensures.lookup.0 in
    sym (ap (option_map proc_view) (seen_at process_of (plain_process c.args.table.now.here c.args.table.now.rows) procs c.args.index None none))
