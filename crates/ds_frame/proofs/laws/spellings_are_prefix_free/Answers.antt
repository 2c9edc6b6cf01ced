use Rattle.ds_cert.proofs.Steps.{prefix_free}
use Rattle.ds_frame.specs.Outer.{read_outer_hello, read_outer_frame}
use Rattle.ds_frame.specs.Ranges.{HelloFits, OuterFrameFits}
use Rattle.ds_frame.specs.Spelling.{outer_spelling_of_hello, outer_spelling_of_frame}
use Rattle.ds_frame.proofs.OuterLaws.{is_outer_hello, is_outer_frame}
use Rattle.ds_frame.proofs.laws.spellings_are_prefix_free.Goals as goal

pub returns : goal.returns
returns c = record {
  hello = prefix_free HelloFits outer_spelling_of_hello read_outer_hello is_outer_hello;
  frame = prefix_free OuterFrameFits outer_spelling_of_frame read_outer_frame is_outer_frame;
}
