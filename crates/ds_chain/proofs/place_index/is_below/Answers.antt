use Rattle.std.proofs.Common.{◌∙◌, ap}
use Rattle.std.specs.Ordering.{is_lt}
use Rattle.ds_label.proofs.Derived.{categories_cmp}
use Rattle.ds_chain.proofs.Listings.{below_by}
use Rattle.ds_chain.proofs.place_index.is_below.Goals as goal

pub returns : goal.returns
returns c = below_by c.args.category.now c.args.posting.now _ (c.is_lt.ensures ∙ ap is_lt (c.cmp.ensures ∙ categories_cmp c.args.posting.now.category c.args.category.now))
