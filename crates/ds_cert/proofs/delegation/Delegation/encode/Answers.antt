use Rattle.std.proofs.Common.{rules, append_assoc}
use Rattle.ds_cert.specs.Spelling.{spelling_of_delegation}
use Rattle.ds_cert.proofs.delegation.Delegation.encode.Goals as goal

pub returns : goal.returns
unfolding spelling_of_delegation
returns c = search (rules, append_assoc)
