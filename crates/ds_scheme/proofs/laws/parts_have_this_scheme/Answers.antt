use Rattle.ds_scheme.proofs.Parts.{same_flow, same_leaf, same_lane_leaf, same_frame}
use Rattle.ds_scheme.proofs.laws.parts_have_this_scheme.Goals as goal

pub returns-clause-flow : goal.returns-clause-flow
returns-clause-flow c = same_flow

pub returns-clause-leaf : goal.returns-clause-leaf
returns-clause-leaf c = same_leaf

pub returns-clause-lane_leaf : goal.returns-clause-lane_leaf
returns-clause-lane_leaf c = same_lane_leaf

pub returns-clause-frame : goal.returns-clause-frame
returns-clause-frame c = same_frame
