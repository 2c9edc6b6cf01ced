use Rattle.ds_cert.proofs.Wholes.{only_cert}
use Rattle.ds_cert.proofs.cert.Cert.decode.Goals as goal

pub returns-clause-only : goal.returns-clause-only
returns-clause-only c = λ x fits e. only_cert c.args.input.now c.read.result x c.read.ensures.exact fits e
