use Rattle.std.proofs.Common.{arith}
use Rattle.ds_cert.specs.Ranges.{AddressFits, AddressRange}
use Rattle.ds_cert.specs.Reading.{address_at, read_address}
use Rattle.ds_cert.specs.Spelling.{spelling_of_address}
use Rattle.ds_cert.proofs.RecordLaws.{is_address}
use Rattle.ds_cert.proofs.Wholes.{found_whole, only_whole}
use Rattle.ds_cert.proofs.address.Address.decode.Goals as goal

pub returns-clause-found : goal.returns-clause-found
unfolding read_address
returns-clause-found c = found_whole AddressFits spelling_of_address address_at is_address AddressRange (λ x fits. fits.range) c.args.input.now c.read.result (λ i. omega (arith, c.type_inv.input i)) c.read.ensures

pub returns-clause-only : goal.returns-clause-only
unfolding read_address
returns-clause-only c = λ x fits e. only_whole AddressFits spelling_of_address address_at is_address c.args.input.now c.read.result x c.read.ensures fits e
