-- Each actor becomes what the answer alone says.
use Rattle.std.proofs.Common.{◌≡◌, Option, Some, None, slice_get, option_map, refl}
use Rattle.ds_model.specs.ProcessStep.{Waits, Internal, Put, Admit, TakeFrom, PublicAct, AsksJudgement}
use Rattle.ds_model.specs.WorkerStep.{WorkerWaits, Lifts, AsksRecheck}
use Rattle.ds_model.specs.ConnectionStep.{ConnWaits, ConnInternal, AsksInlet, AsksArrival, PutsPassed}
use Rattle.ds_model.specs.Replies.{ProcessesTold, WorkersTold, ConnectionsTold}
use Rattle.ds_model.proofs.Places.{at_here}

map_id : {X : Type 0} (o : Option X) → o ≡ option_map (λ x. x) o
map_id None = refl
map_id (Some x) = refl

pub processes_told : ProcessesTold
processes_told s plan x p Waits = map_id (slice_get x.procs p)
processes_told s plan x p (Internal next) = at_here p _ x.procs
processes_told s plan x p (Put b m next) = at_here p _ x.procs
processes_told s plan x p (Admit l m next) = at_here p _ x.procs
processes_told s plan x p (TakeFrom b reg slot) = at_here p _ x.procs
processes_told s plan x p (PublicAct act reg host) = at_here p _ x.procs
processes_told s plan x p (AsksJudgement m) = at_here p _ x.procs

pub workers_told : WorkersTold
workers_told s plan x l WorkerWaits = map_id (slice_get x.workers l)
workers_told s plan x l Lifts = at_here l _ x.workers
workers_told s plan x l (AsksRecheck hand) = at_here l _ x.workers

pub connections_told : ConnectionsTold
connections_told s plan x k ConnWaits = refl
connections_told s plan x k (ConnInternal next) = refl
connections_told s plan x k (AsksInlet i n fresh stale) = refl
connections_told s plan x k (AsksArrival lane m rest) = refl
connections_told s plan x k (PutsPassed b m next) = refl
