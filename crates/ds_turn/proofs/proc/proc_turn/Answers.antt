use Rattle.ds_turn.specs.Nodes.{seen_of}
use Rattle.ds_turn.proofs.ProcTurned.{steps_again}
use Rattle.ds_turn.proofs.proc.proc_turn.Goals as goal

pub returns-clause-may : goal.returns-clause-may
returns-clause-may g c =
    steps_again (seen_of c.args.node.now) c.args.process.now.proc c.requires.may c.turn.new.process.proc c.turn.result c.turn.ensures.ok c.turn.ensures.err
