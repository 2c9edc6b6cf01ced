use Rattle.ds_map.proofs.Numbers.{labels_one_to_one}
use Rattle.ds_map.proofs.laws.labels_are_one_to_one.Goals as goal

pub returns : goal.returns
returns c = labels_one_to_one
