use Rattle.ds_frame.specs.Outer.{read_outer_hello, read_outer_frame}
use Rattle.ds_frame.specs.Ranges.{HelloFits, OuterFrameFits}
use Rattle.ds_frame.specs.Spelling.{outer_spelling_of_hello, outer_spelling_of_frame}
use Rattle.ds_frame.proofs.OuterLaws.{is_outer_hello, is_outer_frame}
use Rattle.ds_frame.proofs.SteadyItems.{steady_outer_hello, steady_outer_frame}
use Rattle.ds_frame.proofs.Written.{open_before}
use Rattle.ds_frame.proofs.laws.prefixes_are_open.Goals as goal

pub returns : goal.returns
returns c = record {
  hello = open_before HelloFits outer_spelling_of_hello read_outer_hello is_outer_hello 1 steady_outer_hello;
  frame = open_before OuterFrameFits outer_spelling_of_frame read_outer_frame is_outer_frame 1 steady_outer_frame;
}
