use Rattle.ds_machine.proofs.histories_are_runs.Goals as goal
use Rattle.ds_machine.proofs.Lines.{runs_are_runs, lines_replay}
use Rattle.ds_machine.proofs.Histories.{histories_are_lines}

pub returns-clause-runs : goal.returns-clause-runs
returns-clause-runs c = λ s plan w es. runs_are_runs s plan es w

pub returns-clause-lines : goal.returns-clause-lines
returns-clause-lines c = λ s plan w es name. lines_replay s plan es w name

pub returns-clause-histories : goal.returns-clause-histories
returns-clause-histories c = histories_are_lines
