use Rattle.std.proofs.Common.{◌≡◌, ◌++◌, Some, sym, ap, ◌∙◌, slice_get}
use Rattle.std.specs.Prelude.{option_copied}
use Rattle.ds_cert.specs.Spelling.{spelling_of_address}
use Rattle.ds_report.proofs.Spelt.{spelled_more}
use Rattle.ds_report.proofs.hosts.spell_addresses.Goals as goal

pub loop-place-preserved : goal.loop-place-preserved
loop-place-preserved c =
    let there : slice_get c.args.addresses.now.items c.loop-place.place ≡ Some c.in-Some.cert.now = sym c.get.ensures.cert ∙ ap option_copied c.in-Some.is in
    let spelled : c.in_ok-encode.field-0 ≡ spelling_of_address c.in-Some.cert.now = c.in_ok-encode.ensures in
    spelled_more spelling_of_address c.args.addresses.now.items c.loop-place.place c.in-Some.cert.now c.args.out.now c.loop-place.out c.append.new.self there c.loop-place.invariant
    (c.in_ok-append.ensures.ok ∙ ap (λ more. c.loop-place.out ++ more) (c.as_slice-in-loop-place.ensures ∙ spelled))
