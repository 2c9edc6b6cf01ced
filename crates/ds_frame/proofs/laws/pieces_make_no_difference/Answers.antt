use Rattle.ds_frame.specs.Checks.{read_item}
use Rattle.ds_frame.proofs.Pieces.{read_by_pieces}
use Rattle.ds_frame.proofs.SteadyItems.{steady_item}
use Rattle.ds_frame.proofs.laws.pieces_make_no_difference.Goals as goal

pub returns : goal.returns
returns c = read_by_pieces read_item steady_item
