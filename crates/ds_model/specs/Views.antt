-- What a process and a host see of a world, and worlds in which nothing is left to do.
use Rattle.std.specs.Prelude.{◌≡◌, ℕ, ◌==◌, Bool, true, false, List, [], ◌∷◌, Option, Some, None, length, slice_get, option_map, if◌then◌else◌}
use Rattle.ds_label.specs.declared.category.Category.{Category}
use Rattle.ds_cert.specs.declared.delegation.Delegation.{Delegation}
use Rattle.ds_cert.specs.declared.address.Address.{Address}
use Rattle.ds_script.specs.declared.note.Note.{Note}
use Rattle.ds_model.specs.Lists.{gathered}
use Rattle.ds_model.specs.Scheme.{Scheme}
use Rattle.ds_model.specs.Plan.{Plan, conn_plan}
use Rattle.ds_model.specs.Desk.{Desk}
use Rattle.ds_model.specs.World.{Process, Conn, Host, World}
use Rattle.ds_model.specs.Step.{Event, Step, Frame, Arrive, Accept, Deliver, Tick, Inject, Copy, arrived, step}

-- a process sees its label, its registers and its notes
pub record ProcView : Type 0 where
  pub label : List Category
  pub registers : List (List ℕ)
  pub notes : List Note

-- what it sees of itself
abbrev pub proc_view : Process → ProcView
proc_view x = record { label = x.label; registers = x.course.registers; notes = x.course.notes }

-- process p of a host that may not be there
abbrev pub proc_in : Option Host → ℕ → Option Process
proc_in None p = None
proc_in (Some x) p = slice_get x.procs p

-- process p of host h, where there is one
abbrev pub proc_at : World → (host proc : ℕ) → Option Process
proc_at w h p = proc_in (slice_get w.hosts h) p

-- the view of a process, where there is one
abbrev pub view_of_proc : World → (host proc : ℕ) → Option ProcView
view_of_proc w h p = option_map proc_view (proc_at w h p)

-- a host sees its public state, and the arrived bytes of each connection to it, in the order of connections
pub record HostView : Type 0 where
  pub moment : ℕ
  pub rows : List Category
  pub store : List Delegation
  pub addresses : List Address
  pub issued : List Delegation
  pub leaf : ℕ
  pub arrived : List (List ℕ)

-- the arrived bytes of a connection that may not be there
abbrev pub arrived_in : Plan → World → ℕ → Option Conn → List (List ℕ)
arrived_in plan w k None = []
arrived_in plan w k (Some y) = arrived w (conn_plan plan k).source y ∷ []

-- what arrived on a connection, where there is one
abbrev pub arrived_at : Plan → World → (conn : ℕ) → List (List ℕ)
arrived_at plan w k = arrived_in plan w k (slice_get w.conns k)

-- those of each connection to a host
abbrev pub arrived_to : Plan → World → (host : ℕ) → List (List ℕ)
arrived_to plan w h = gathered (λ k. if (conn_plan plan k).host == h then arrived_at plan w k else []) (length plan.conn_plans)

-- the view of a desk and of arrived bytes
abbrev pub host_view : Desk → List (List ℕ) → HostView
host_view d bytes = record { moment = d.moment; rows = d.rows; store = d.store; addresses = d.addresses; issued = d.issued; leaf = d.leaf; arrived = bytes }

-- the desk of host h, where there is one
abbrev pub desk_at : World → (host : ℕ) → Option Desk
desk_at w h = option_map (λ x. x.desk) (slice_get w.hosts h)

-- the view of a host, where there is one
abbrev pub view_of_host : Plan → World → (host : ℕ) → Option HostView
view_of_host plan w h = option_map (λ d. host_view d (arrived_to plan w h)) (desk_at w h)

-- an event is still where it leaves the world as it is
abbrev pub IsStill : Scheme → Plan → World → Event → Type 0
IsStill s plan w e = step s plan w e ≡ w

-- what hosts do by themselves: neither a tick nor what outsiders write
abbrev pub is_work : Event → Bool
is_work (Step h p) = true
is_work (Frame h l) = true
is_work (Arrive k n) = true
is_work (Accept k) = true
is_work (Deliver k) = true
is_work (Tick h t) = false
is_work (Inject k bytes) = false
is_work (Copy k j from until) = false

-- nothing is left to do
abbrev pub IsQuiet : Scheme → Plan → World → Type 0
IsQuiet s plan w = (e : Event) → is_work e ≡ true → IsStill s plan w e
