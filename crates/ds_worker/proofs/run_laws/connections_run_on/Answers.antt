use Rattle.std.proofs.Common.{refl}
use Rattle.ds_worker.specs.Actors.{Arrived, ConnMoved, ConnTurned, Turned}
use Rattle.ds_worker.proofs.Running.{ran_as, ran_more, ran_none}
use Rattle.ds_worker.proofs.run_laws.connections_run_on.Goals as goal

pub returns-clause-arrives : goal.returns-clause-arrives
returns-clause-arrives c = λ boxes a b arrives. ran_more (ConnMoved boxes) 0 1 a a b (ran_none (ConnMoved boxes) a a refl) (Arrived arrives) refl

pub returns-clause-turns : goal.returns-clause-turns
returns-clause-turns c = λ boxes n a b ran. ran_as (ConnTurned boxes) (ConnMoved boxes) (λ x y turn. Turned turn) n a b ran
