use Rattle.std.proofs.Common.{◌∙◌, ap}
use Rattle.std.specs.Ordering.{is_le}
use Rattle.ds_label.proofs.Derived.{categories_cmp}
use Rattle.ds_chain.proofs.Listings.{upto_by}
use Rattle.ds_chain.proofs.place_index.is_upto.Goals as goal

pub returns : goal.returns
returns c = upto_by c.args.category.now c.args.posting.now _ (c.is_le.ensures ∙ ap is_le (c.cmp.ensures ∙ categories_cmp c.args.posting.now.category c.args.category.now))
