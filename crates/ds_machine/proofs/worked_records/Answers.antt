use Rattle.std.proofs.Common.{refl}
use Rattle.ds_machine.proofs.worked_records.Goals as goal

pub returns-clause-full : goal.returns-clause-full
unfolding Rattle.ds_label.specs.Flow.flows Rattle.ds_label.specs.Flow.same_label Rattle.ds_label.specs.Flow.union Rattle.ds_share.specs.Spelling.spelling_of_mail Rattle.ds_share.specs.Spelling.spelling_of_numbers Rattle.ds_msg.specs.Spelling.spelling_of_payload Rattle.ds_cert.specs.Spelling.spelling_of_category
returns-clause-full c = (refl, refl, refl)

pub returns-clause-letter : goal.returns-clause-letter
unfolding Rattle.ds_label.specs.Flow.flows Rattle.ds_label.specs.Flow.same_label Rattle.ds_label.specs.Flow.union Rattle.ds_share.specs.Spelling.spelling_of_mail Rattle.ds_share.specs.Spelling.spelling_of_numbers Rattle.ds_share.specs.Spelling.spelling_of_waiting Rattle.ds_msg.specs.Spelling.spelling_of_payload Rattle.ds_msg.specs.Spelling.spelling_of_message Rattle.ds_msg.specs.Spelling.spelling_of_certs Rattle.ds_cert.specs.Spelling.spelling_of_label
returns-clause-letter c = (refl, refl, refl)

pub returns-clause-acts : goal.returns-clause-acts
unfolding Rattle.ds_label.specs.Flow.flows Rattle.ds_label.specs.Flow.same_label Rattle.ds_label.specs.Flow.union
returns-clause-acts c = (refl, refl, refl)

pub returns-clause-stale : goal.returns-clause-stale
unfolding Rattle.ds_label.specs.Flow.flows Rattle.ds_label.specs.Flow.same_label Rattle.ds_label.specs.Flow.union Rattle.ds_share.specs.Spelling.spelling_of_mail Rattle.ds_share.specs.Spelling.spelling_of_numbers Rattle.ds_msg.specs.Spelling.spelling_of_payload
returns-clause-stale c = (refl, refl, refl)

pub returns-clause-strange : goal.returns-clause-strange
unfolding Rattle.ds_label.specs.Flow.flows Rattle.ds_label.specs.Flow.same_label Rattle.ds_label.specs.Flow.union
returns-clause-strange c = refl
