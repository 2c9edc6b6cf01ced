use Rattle.std.proofs.Common.{arith}
use Rattle.ds_cert.proofs.Wholes.{found_label, only_label}
use Rattle.ds_cert.proofs.label.get_label.Goals as goal

pub returns-clause-found : goal.returns-clause-found
returns-clause-found c = found_label (λ x. (x.0, x.1.now)) c.args.input.now c.read.result (λ i. omega (arith, c.type_inv.input i)) c.read.ensures

pub returns-clause-only : goal.returns-clause-only
returns-clause-only c = λ members rest fits e. only_label (λ x. (x.0, x.1.now)) c.args.input.now c.read.result members rest c.read.ensures fits e
