use Rattle.ds_map.proofs.Growing.{grows_so}
use Rattle.ds_map.proofs.laws.names_stay.Goals as goal

pub returns : goal.returns
returns c = grows_so
