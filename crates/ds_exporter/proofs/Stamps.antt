-- What is below a stamp is below the next one.
use Rattle.std.proofs.Common.{ℕ, ◌+◌, ◌<◌, ◌≤◌, List, arith}
use Rattle.std.specs.Prelude.{All}
use Rattle.ds_desk.specs.Desks.{DeskView}
use Rattle.ds_exporter.specs.HostStates.{HostLane, HostState}
use Rattle.ds_exporter.specs.Stamping.{IsBefore, IsLaneBefore, last_of_desk}

pub all_more : {X : Type 0} (P Q : X → Type 0) (xs : List X) → ((x : X) → P x → Q x) → All P xs → All Q xs
all_more P Q xs more all k d within = more _ (all k d within)

pub below_suc : (n m : ℕ) → m < n → m < n + 1
below_suc n m h = omega (arith, h)

pub lane_more : (n : ℕ) (l : HostLane) → IsLaneBefore n l → IsLaneBefore (n + 1) l
lane_more n l b = record {
  last = below_suc n _ b.last;
  senders = λ k d within. below_suc n _ (b.senders k d within);
  worker = λ k d within. below_suc n _ (b.worker k d within);
}

-- the other parts, beside a desk whose last stamp is this one or below it
pub below_desk : (n : ℕ) (e : HostState) (k : DeskView) → last_of_desk k ≤ n → IsBefore n e → IsBefore (n + 1) (record e { desk = k })
below_desk n e k last b = record {
  desk = omega (arith, last);
  boxes = λ i d within. below_suc n _ (b.boxes i d within);
  lanes = λ i d within. lane_more n _ (b.lanes i d within);
  inlets = λ i d within. below_suc n _ (b.inlets i d within);
}

pub below_more : (n : ℕ) (e : HostState) → IsBefore n e → IsBefore (n + 1) e
below_more n e b = record {
  desk = below_suc n _ b.desk;
  boxes = λ i d within. below_suc n _ (b.boxes i d within);
  lanes = λ i d within. lane_more n _ (b.lanes i d within);
  inlets = λ i d within. below_suc n _ (b.inlets i d within);
}
