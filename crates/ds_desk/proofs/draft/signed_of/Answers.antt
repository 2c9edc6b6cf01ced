use Rattle.std.proofs.Common.{◌∙◌, sym, ap}
use Rattle.ds_cert.specs.Spelling.{spelling_of_delegation}
use Rattle.ds_desk.specs.Signing.{with_signature}
use Rattle.ds_msg.proofs.CertLaws.{is_short}
use Rattle.ds_desk.proofs.Grows.{spelled_whole}
use Rattle.ds_desk.proofs.draft.signed_of.Goals as goal

pub returns-clause-spelling : goal.returns-clause-spelling
returns-clause-spelling c = rw c.as_slice.ensures.value at (c.spelled-spelling.ensures ∙ spelled_whole _ _ c.args.draft.blank c.requires.part)

pub returns-clause-size : goal.returns-clause-size
returns-clause-size c =
    let spelled = rw c.as_slice.ensures.value at (c.spelled-spelling.ensures ∙ spelled_whole _ _ c.args.draft.blank c.requires.part) in
    let kept = c.with_signature-kept.ensures ∙ ap (with_signature c.args.draft.blank) c.from_vec.ensures in
    (is_short c.spelled-spelling.result (record { delegation = c.with_signature-kept.result; fits = c.show_fits.ensures; spelled = spelled ∙ ap spelling_of_delegation (sym kept) })).most
