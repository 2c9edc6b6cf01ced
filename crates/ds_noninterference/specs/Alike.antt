-- Two worlds that are equal but for what is high, place by place.
use Rattle.std.specs.Prelude.{◌≡◌, ℕ, Bool, true, List, Option, Some, None, ◌⊎◌}
use Rattle.ds_label.specs.declared.category.Category.{Category}
use Rattle.ds_model.specs.Lists.{Everywhere}
use Rattle.ds_model.specs.Plan.{HostPlan, Plan, host_plan, lane_plan}
use Rattle.ds_model.specs.Inlet.{Inlet}
use Rattle.ds_model.specs.World.{Process, Mailbox, Host, World}
use Rattle.ds_noninterference.specs.High.{is_in, high_at, high_box, high_lane, high_conn, high_inlet, IsTrusted}

-- equal, or both high
abbrev pub Alike : {X : Type 0} → (a b : Bool) → X → X → Type 0
Alike a b x y = (x ≡ y) ⊎ ((a ≡ true) × (b ≡ true))

-- A high lane to a trusted host may differ. A high lane to any other host must be equal: it stays as setup left it.
pub record Hidden (c : Category) (trusted : List ℕ) (plan : Plan) (h l : ℕ) : Type 0 where
  pub high : high_lane c trusted plan h l ≡ true
  pub to : IsTrusted trusted plan (lane_plan (host_plan plan h) l).cert.receiver

-- processes, each equal or high in both worlds
abbrev pub AlikeProcs : Category → (t : Bool) → List Process → List Process → Type 0
AlikeProcs c t = Everywhere (λ p x y. Alike (high_at c t x) (high_at c t y) x y)

-- mailboxes, likewise
abbrev pub AlikeBoxes : Category → (t : Bool) → HostPlan → List Process → List Process → List Mailbox → List Mailbox →
    Type 0
AlikeBoxes c t plan ps qs = Everywhere (λ b x y. Alike (high_box c t plan ps b) (high_box c t plan qs b) x y)

-- equal, or on a lane that may differ
abbrev pub AlikeLanes : {X : Type 0} → Category → List ℕ → Plan → (host : ℕ) → List X → List X → Type 0
AlikeLanes c trusted plan h = Everywhere (λ l x y. (x ≡ y) ⊎ Hidden c trusted plan h l)

-- inlets, equal or high
abbrev pub AlikeInlets : Category → List ℕ → Plan → (host : ℕ) → List Inlet → List Inlet → Type 0
AlikeInlets c trusted plan h = Everywhere (λ i x y. (x ≡ y) ⊎ (high_inlet c trusted plan h i ≡ true))

-- a host in two worlds: its desk is equal, all else equal but for what is high
pub record AlikeHosts (c : Category) (trusted : List ℕ) (plan : Plan) (h : ℕ) (x y : Host) : Type 0 where
  pub desk : x.desk ≡ y.desk
  pub procs : AlikeProcs c (is_in trusted h) x.procs y.procs
  pub boxes : AlikeBoxes c (is_in trusted h) (host_plan plan h) x.procs y.procs x.boxes y.boxes
  pub queues : AlikeLanes c trusted plan h x.queues y.queues
  pub workers : AlikeLanes c trusted plan h x.workers y.workers
  pub logs : AlikeLanes c trusted plan h x.logs y.logs
  pub inlets : AlikeInlets c trusted plan h x.inlets y.inlets

-- hosts that may not be there: both are there or neither is
abbrev pub AlikeAt : Category → List ℕ → Plan → (host : ℕ) → Option Host → Option Host → Type 0
AlikeAt c trusted plan h None None = Unit {0}
AlikeAt c trusted plan h (Some x) (Some y) = AlikeHosts c trusted plan h x y
AlikeAt c trusted plan h None (Some y) = ⊥
AlikeAt c trusted plan h (Some x) None = ⊥

-- hosts that are so, and connections that are equal or high
pub record AlikeWorlds (c : Category) (trusted : List ℕ) (plan : Plan) (v w : World) : Type 0 where
  pub hosts : Everywhere (AlikeAt c trusted plan) v.hosts w.hosts
  pub conns : Everywhere (λ k x y. (x ≡ y) ⊎ (high_conn c trusted plan k ≡ true)) v.conns w.conns
