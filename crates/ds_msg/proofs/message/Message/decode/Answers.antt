use Rattle.std.proofs.Common.{arith}
use Rattle.ds_cert.proofs.Wholes.{found_whole, only_whole}
use Rattle.ds_msg.specs.Ranges.{MessageFits, MessageRange}
use Rattle.ds_msg.specs.Reading.{message_at, read_message}
use Rattle.ds_msg.specs.Spelling.{spelling_of_message}
use Rattle.ds_msg.proofs.RecordLaws.{is_message}
use Rattle.ds_msg.proofs.message.Message.decode.Goals as goal

pub returns-clause-found : goal.returns-clause-found
unfolding read_message
returns-clause-found c = found_whole MessageFits spelling_of_message message_at is_message MessageRange (λ x fits. fits.range) c.args.input.now c.read.result (λ i. omega (arith, c.type_inv.input i)) c.read.ensures

pub returns-clause-only : goal.returns-clause-only
unfolding read_message
returns-clause-only c = λ x fits e. only_whole MessageFits spelling_of_message message_at is_message c.args.input.now c.read.result x c.read.ensures fits e
