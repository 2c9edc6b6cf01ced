use Rattle.std.proofs.Common.{◌≡◌, drop}
use Rattle.ds_plan.specs.Documents.{stood}
use Rattle.ds_doc.specs.Rules.{same_secret}
use Rattle.ds_doc.proofs.rules.secrets.has_secret.Given as goal

abbrev pub invariant-loop-other : goal.invariant-loop-other
invariant-loop-other l = stood same_secret (drop l.other-index l.before) l.host ≡ stood same_secret l.before l.host
