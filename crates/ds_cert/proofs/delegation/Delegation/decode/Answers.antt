use Rattle.std.proofs.Common.{arith}
use Rattle.ds_cert.specs.Ranges.{DelegationFits, DelegationRange}
use Rattle.ds_cert.specs.Reading.{delegation_at, read_delegation}
use Rattle.ds_cert.specs.Spelling.{spelling_of_delegation}
use Rattle.ds_cert.proofs.RecordLaws.{is_delegation}
use Rattle.ds_cert.proofs.Wholes.{found_whole, only_whole}
use Rattle.ds_cert.proofs.delegation.Delegation.decode.Goals as goal

pub returns-clause-found : goal.returns-clause-found
unfolding read_delegation
returns-clause-found c = found_whole DelegationFits spelling_of_delegation delegation_at is_delegation DelegationRange (λ x fits. fits.range) c.args.input.now c.read.result (λ i. omega (arith, c.type_inv.input i)) c.read.ensures

pub returns-clause-only : goal.returns-clause-only
unfolding read_delegation
returns-clause-only c = λ x fits e. only_whole DelegationFits spelling_of_delegation delegation_at is_delegation c.args.input.now c.read.result x c.read.ensures fits e
