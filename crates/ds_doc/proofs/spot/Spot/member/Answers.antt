use Rattle.std.proofs.Common.{sym, ◌∙◌}
use Rattle.ds_doc.specs.Places.{member}
use Rattle.ds_doc.proofs.Members.{unlisted_in}
use Rattle.ds_doc.proofs.spot.Spot.member.Goals as goal

pub returns-then-not-has : goal.returns-then-not-has
unfolding member
returns-then-not-has c = unlisted_in _ _ _ _ c.in_ok-members.ensures (sym c.has.ensures ∙ c.if-not-has.true)
