use Rattle.ds_map.proofs.Numbers.{one_to_one}
use Rattle.ds_map.proofs.laws.numbers_are_one_to_one.Goals as goal

pub returns : goal.returns
returns c = one_to_one
