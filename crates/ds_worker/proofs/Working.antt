-- What a fault left of an actor at work.
use Rattle.std.proofs.Common.{◌≡◌, ◌≢◌, ℕ, ◌+◌, ◌<◌, ◌≤◌, List, All, Some, None, length, sym, ap, subst, ◌∙◌, arith}
use Rattle.std.specs.Prelude.{slice_get, slice_index_or}
use Rattle.std.proofs.lemmas.Option.{get_or_from_slice_get}
use Rattle.ds_base.specs.Counts.{Rose}
use Rattle.ds_cert.specs.declared.lane.LaneCert.{LaneCert}
use Rattle.ds_share.specs.declared.desk_act.TurnFault.{TurnFault}
use Rattle.ds_share.specs.declared.desk_act.TurnFault.TheVariants.{KeeperFault, NoMemory}
use Rattle.ds_share.specs.SharedLanes.{IsSameLane}
use Rattle.ds_turn.specs.declared.node.Node.{Node}
use Rattle.ds_worker.specs.Actors.{SparesKeeper}
use Rattle.ds_worker.specs.declared.task.Task.{Task}
use Rattle.ds_worker.specs.Tasks.{IsKept, IsWorkerOf, MayWork}

-- WHAT IS LEFT OF ITS KEEPER

no_fault : (f : TurnFault) → None ≡ Some f → ⊥
no_fault f e = absurd cc

same_fault : (f g : TurnFault) → Some f ≡ Some g → f ≡ g
same_fault f g e = cc

not_memory : (f : TurnFault) → f ≡ NoMemory → f ≢ KeeperFault
not_memory f is other = absurd cc

pub kept_so : {K : Type 0} (faults_of : K → ℕ) (fault : TurnFault) (n made before now : ℕ) (a b : K) → faults_of a ≤ faults_of b → (fault ≡ KeeperFault → Rose (faults_of a) (faults_of b))
    → SparesKeeper fault n a b → now ≡ before + n → made + before ≡ now → IsKept faults_of (Some fault) made a b
kept_so faults_of fault n made before now a b counted rose spares grew same = record {
  counted = counted;
  rose = λ is. rose (same_fault fault KeeperFault is);
  spared = λ is none. spares (not_memory fault (same_fault fault NoMemory is)) (omega arith);
}

-- WHAT STANDS AT A PLACE

-- what was read there is what stands there
pub read_there : {X : Type 0} (xs : List X) (i : ℕ) (x now : X) → slice_get xs i ≡ Some x → now ≡ slice_index_or xs i now → now ≡ x
read_there xs i x now there read = read ∙ get_or_from_slice_get xs i x now there

-- the worker of a lane that was read there
pub worker_of : (lanes : List LaneCert) (place : ℕ) (lane now cert : LaneCert) → slice_get lanes place ≡ Some lane → now ≡ slice_index_or lanes place now → IsSameLane now cert → IsWorkerOf lanes place cert
worker_of lanes place lane now cert there read same =
    record { lane = now; there = there ∙ ap (λ (x : LaneCert). Some x) (sym (read_there lanes place lane now there read)); same = same }

-- AMONG TASKS

-- one of them may work where all may
pub may_at : {K : Type 0} (nodes : List Node) (tasks : List (Task K)) (i : ℕ) (t : Task K) → All (MayWork nodes) tasks → i < length tasks → t ≡ slice_index_or tasks i t → MayWork nodes t
may_at nodes tasks i t may within is = subst (MayWork nodes) (sym is) (may i t within)
