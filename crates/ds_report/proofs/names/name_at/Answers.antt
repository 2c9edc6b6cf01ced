use Rattle.std.proofs.Common.{◌≡◌, Some, None, slice_get, sym, ap, ◌∙◌}
use Rattle.std.specs.Prelude.{option_copied}
use Rattle.ds_report.proofs.Places.{name_here, no_name}
use Rattle.ds_report.proofs.names.name_at.Goals as goal

pub returns-in-Some : goal.returns-in-Some
returns-in-Some c =
    let there : slice_get c.args.doc.now.hosts c.args.place ≡ Some c.in-Some.host.now = sym c.get.ensures ∙ ap option_copied c.in-Some.is in
    c.as_slice.ensures ∙ sym (name_here c.args.doc.now c.args.place c.in-Some.host.now there)

pub returns-in-None : goal.returns-in-None
returns-in-None c =
    let none : slice_get c.args.doc.now.hosts c.args.place ≡ None = sym c.get.ensures ∙ ap option_copied c.in-None.is in
    sym (no_name c.args.doc.now c.args.place none)
