use Rattle.ds_label.specs.contracts.category.CategoryOrd.TheImpl as order
use Rattle.ds_label.specs.declared.category.Category.{Category}
use Rattle.ds_label.specs.Names.{by_name}
use Rattle.ds_label.proofs.Derived.{categories_cmp}
use Rattle.ds_label.proofs.Namings.{names}
use Rattle.ds_label.proofs.Members.{searched}
use Rattle.ds_label.proofs.search.gap_for_name.Goals as goal

pub returns : goal.returns
returns c =
    let member = c.args.member.now in
    rw c.err.ensures.value (searched by_name names (λ (y : Category). (order.ghosts).cmp y member) c.args.members.now member c.binary_search.result (λ y. categories_cmp y member) c.requires c.binary_search.ensures.bound c.binary_search.ensures.position)
