use Rattle.ds_model.proofs.still_by_numbers.Goals as goal
use Rattle.ds_model.proofs.Moves.{finds_still}

pub returns : goal.returns
returns c = finds_still
