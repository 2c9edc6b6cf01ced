-- A connection that accepts, and the inlets of its host.
use Rattle.std.specs.Prelude.{◌≡◌, ◌⊎◌, ℕ, ◌<◌, List, map, Some, slice_get}
use Rattle.ds_label.specs.declared.category.PubKey.{PubKey}
use Rattle.ds_label.specs.declared.category.Category.{Category}
use Rattle.ds_script.specs.declared.actor.Actor.{Actor}
use Rattle.ds_model.specs.Lists.{at}
use Rattle.ds_model.specs.Plan.{HostPlan}
use Rattle.ds_model.specs.World.{Host}
use Rattle.ds_model.specs.Inlet.{number_entry}
use Rattle.ds_model.specs.ConnectionStep.{accept}
use Rattle.ds_model.specs.Step.{HostAndConn, perform_conn}
use Rattle.ds_model.specs.Access.{Access, NoAccess, access_of_conn_ask, number_access}
use Rattle.ds_inlet.specs.Inlets.{CountedLane, InletWithCapacity, entered}
use Rattle.ds_inlet.specs.Accepting.{inlet_plan}
use Rattle.ds_inlet.specs.Connections.{Connection}
use Rattle.ds_scheme.specs.TheScheme.{scheme}
use Rattle.ds_exporter.specs.declared.moved.Moved.{Moved}
use Rattle.ds_exporter.specs.declared.moved.Moved.TheVariants.{Still}
use Rattle.ds_exporter.specs.Moving.{Moves}
use Rattle.ds_exporter.specs.PlainHosts.{plain_inlet, conn_of}
use Rattle.ds_exporter.specs.Conditions.{HasHelloFirst}

-- an inlet after a frame's number
abbrev pub counted : (stamp : ℕ) → Actor → (number : ℕ) → CountedLane → CountedLane
counted stamp who number i = entered stamp who (number_entry number i.number) i

-- there is memory for a number at the inlet at a place
abbrev pub HasRoomAt : (place : ℕ) → List InletWithCapacity → Type 0
HasRoomAt place inlets = (i : InletWithCapacity) → slice_get inlets place ≡ Some i → 0 < i.spare

-- a host with these inlets, and a connection to it, by the names of a table
abbrev pub met : PubKey → List Category → (link : List ℕ) → Host → List CountedLane → Connection → HostAndConn
met here rows link x inlets k = record { host = record x { inlets = map plain_inlet inlets }; conn = conn_of here rows link k }

-- What became of a connection and the inlets is what the plain world's accept makes of them, whatever the rest of the host is.
abbrev pub Accepted : Moved → (before after : Connection) → (inlets later : List CountedLane) → Type 0
Accepted moved before after inlets later = (here : PubKey) (rows : List Category) (plan : HostPlan) (x : Host) (link : List ℕ) →
    Moves moved (met here rows link x inlets before) (met here rows link x later after)
    (perform_conn scheme (inlet_plan plan before) (record x { inlets = map plain_inlet inlets }) (conn_of here rows link before) (accept scheme (inlet_plan plan before) (conn_of here rows link before) before.arrived))

-- what a connection that accepts touches of a host with these inlets is this, whatever the rest of the host is
abbrev pub Touches : Connection → (inlets : List CountedLane) → Access → Type 0
Touches k inlets access = (here : PubKey) (rows : List Category) (plan : HostPlan) (x : Host) (link : List ℕ) →
    access_of_conn_ask (inlet_plan plan k) (record x { inlets = map plain_inlet inlets })
    (accept scheme (inlet_plan plan k) (conn_of here rows link k) k.arrived) ≡ access

-- each inlet stayed as it was and none is touched, or one of them took a frame's number and is the one that is touched
abbrev pub IsCounted : (stamp : ℕ) → Connection → (before after : List CountedLane) → Type 0
IsCounted stamp k before after =
    ((after ≡ before) × Touches k before NoAccess)
    ⊎ ((place : ℕ) × (number : ℕ) × (after ≡ at place (counted stamp k.who number) before)
    × Touches k before (number_access place number (slice_get (map plain_inlet before) place)))

-- what a connection keeps of itself when it accepts
pub record KeepsPassed (before after : Connection) : Type 0 where
  pub who : after.who ≡ before.who
  pub here : after.here ≡ before.here
  pub inlets : after.inlets ≡ before.inlets
  pub arrived : after.arrived ≡ before.arrived
  pub passed : after.passed ≡ before.passed
  pub hello : HasHelloFirst before → HasHelloFirst after

-- What became of both: what the plain world makes of them, with the connection's inlets counted, or nothing.
pub record IsNext (moved : Moved) (stamp : ℕ) (before after : Connection) (inlets later : List CountedLane) : Type 0 where
  pub accepted : Accepted moved before after inlets later
  pub keeps : KeepsPassed before after
  pub counts : IsCounted stamp before inlets later
  pub still : moved ≡ Still → (after ≡ before) × (later ≡ inlets)

-- the same of the connection at a place of a list
abbrev pub IsNextAt : Moved → (stamp place : ℕ) → (before after : List Connection) → (inlets later : List CountedLane) → Type 0
IsNextAt moved stamp place before after inlets later = (k : Connection) → slice_get before place ≡ Some k → (m : Connection) × (after ≡ at place (λ _. m) before) × IsNext moved stamp k m inlets later
