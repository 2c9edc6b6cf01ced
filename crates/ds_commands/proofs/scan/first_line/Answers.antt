use Rattle.std.proofs.Common.{Some, None}
use Rattle.ds_commands.proofs.Cuts.{lines_are}
use Rattle.ds_commands.proofs.scan.first_line.Goals as goal

pub returns-in_default-None-clause-lines : goal.returns-in_default-None-clause-lines
returns-in_default-None-clause-lines c =
    lines_are c.args.input.now c.cut.result.0.now None c.requires c.cut.ensures.line (rw c.in_default-None.is-1 at c.cut.ensures.rest)

pub returns-in_default-Some-clause-lines : goal.returns-in_default-Some-clause-lines
returns-in_default-Some-clause-lines c =
    rw c.in_default-Some.is-1 (lines_are c.args.input.now c.cut.result.0.now (Some c.in_default-Some.rest.now) c.requires c.cut.ensures.line (rw c.in_default-Some.is-1 at c.cut.ensures.rest))
