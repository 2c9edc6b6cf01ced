use Rattle.std.proofs.Common.{refl}
use Rattle.ds_label.specs.Numbers.{by_number}
use Rattle.ds_label.proofs.Namings.{numbers}
use Rattle.ds_label.proofs.Members.{searched}
use Rattle.ds_label.proofs.search.gap_for_number.Goals as goal

pub returns : goal.returns
returns c = rw c.err.ensures.value (searched by_number numbers _ c.args.members.now c.args.member c.binary_search.result (λ y. refl) c.requires c.binary_search.ensures.bound c.binary_search.ensures.position)
