use Rattle.std.proofs.Common.{sym, subst}
use Rattle.ds_chain.specs.Postings.{AreSorted}
use Rattle.ds_chain.proofs.place_index.PlaceIndex.postings.Goals as goal

pub postings_for-requires : goal.postings_for-requires
postings_for-requires c = subst AreSorted (sym c.as_slice.ensures.value) c.self.invariant
