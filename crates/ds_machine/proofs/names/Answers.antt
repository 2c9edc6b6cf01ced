use Rattle.ds_machine.proofs.names.Goals as goal
use Rattle.ds_machine.proofs.Naming as laws
use Rattle.ds_machine.proofs.Owning.{enters_own}

pub returns-clause-ones : goal.returns-clause-ones
returns-clause-ones c = laws.names_are_ones

pub returns-clause-have : goal.returns-clause-have
returns-clause-have c = laws.objects_have_names

pub returns-clause-own : goal.returns-clause-own
returns-clause-own c = enters_own
