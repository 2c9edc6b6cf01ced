use Rattle.ds_turn.proofs.ConnVerdicts.{judged_plainly}
use Rattle.ds_turn.proofs.conn_laws.verdicts_are_the_plain_worlds.Goals as goal

pub returns : goal.returns
returns c = judged_plainly
