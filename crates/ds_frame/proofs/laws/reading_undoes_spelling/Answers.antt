use Rattle.ds_frame.proofs.OuterLaws.{is_outer_hello, is_outer_frame}
use Rattle.ds_frame.proofs.laws.reading_undoes_spelling.Goals as goal

pub returns : goal.returns
returns c = record { hello = is_outer_hello; frame = is_outer_frame }
