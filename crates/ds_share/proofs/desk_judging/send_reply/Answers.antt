use Rattle.std.proofs.Common.{sym, ◌∙◌}
use Rattle.ds_share.proofs.Judgements.{lane_there, short_certs, some_scheme}
use Rattle.ds_share.proofs.desk_judging.send_reply.Goals as goal

pub returns-clause-answer : goal.returns-clause-answer
returns-clause-answer c = (c.in_ok-certs.ensures.fits, lane_there c.args.lane _ (sym (c.in_ok-rule.ensures.rule some_scheme) ∙ c.in_default.is))

pub returns-clause-short : goal.returns-clause-short
returns-clause-short c = short_certs c.in_ok-certs.certs c.in_ok-certs.ensures.fits
