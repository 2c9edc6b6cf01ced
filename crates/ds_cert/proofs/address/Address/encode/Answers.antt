use Rattle.std.proofs.Common.{rules, append_assoc}
use Rattle.ds_cert.specs.Spelling.{spelling_of_address}
use Rattle.ds_cert.proofs.address.Address.encode.Goals as goal

pub returns : goal.returns
unfolding spelling_of_address
returns c = search (rules, append_assoc)
