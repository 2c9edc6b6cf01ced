use Rattle.std.proofs.Common.{◌≡◌, ◌∙◌, List, subst}
use Rattle.std.specs.List.{All}
use Rattle.std.proofs.lemmas.List.{take_all}
use Rattle.std.proofs.lemmas.List.Elements.{recursion_from_All}
use Rattle.ds_label.specs.declared.category.Category.{Category}
use Rattle.ds_cert.specs.Ranges.{CategoryFits}
use Rattle.ds_cert.proofs.fits.show_label.Goals as goal

pub returns : goal.returns
returns c =
    let members = c.args.label.now in
    let whole = take_all c.loop-member.member-index c.as_slice-members.result.now c.loop-member-test.false ∙ c.as_slice-members.ensures.members in
    record { count = c.as_slice-members.ensures.limit; each = recursion_from_All CategoryFits members (subst (λ (cs : List Category). All CategoryFits cs) whole c.loop-member.invariant); rising = c.as_slice-members.ensures.rising }
