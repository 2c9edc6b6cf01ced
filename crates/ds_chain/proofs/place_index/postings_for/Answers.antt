use Rattle.ds_chain.proofs.Listings.{from_to, places_ranged}
use Rattle.ds_chain.proofs.place_index.postings_for.Goals as goal

pub slice_bounds-result-count : goal.slice_bounds-result-count
slice_bounds-result-count c =
    from_to c.args.category.now c.args.postings.now c.count_below-from.result c.count_upto-to.result c.count_below-from.ensures.split c.count_upto-to.ensures.split c.count_below-from.ensures.within

pub slice_bounds-result-start : goal.slice_bounds-result-start
slice_bounds-result-start c =
    from_to c.args.category.now c.args.postings.now c.count_below-from.result c.count_upto-to.result c.count_below-from.ensures.split c.count_upto-to.ensures.split c.count_below-from.ensures.within

pub returns : goal.returns
returns c =
    places_ranged c.args.category.now c.args.postings.now c.count_below-from.result c.count_upto-to.result c.count_below-from.ensures.split c.count_upto-to.ensures.split
    (from_to c.args.category.now c.args.postings.now c.count_below-from.result c.count_upto-to.result c.count_below-from.ensures.split c.count_upto-to.ensures.split c.count_below-from.ensures.within)
    c.count_upto-to.ensures.within
