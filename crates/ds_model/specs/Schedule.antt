-- The canonical schedule: the events of a document that lists none. It goes in rounds. A round has, for each host in
-- order, a step of each process once and then a frame of each lane twice running; and then, for each connection, the
-- arrival of all that is left, and an accept once and then deliveries as long as they change something, in turn,
-- until neither changes anything. What is still is left out. It ends after a round that kept nothing, and is cut,
-- also in the middle of a round, where it has as many events as the budget.
use Rattle.std.specs.Prelude.{◌≡◌, ◌↔◌, ℕ, zero, suc, ◌-◌, ◌==◌, ◌||◌, Bool, false, not, List, [], ◌∷◌, ◌++◌, length, slice_get, Option, Some, None, bytes_eq, if◌then◌else◌}
use Rattle.ds_model.specs.Lists.{gathered}
use Rattle.ds_model.specs.Scheme.{Scheme}
use Rattle.ds_model.specs.Plan.{Plan, host_plan}
use Rattle.ds_model.specs.Desk.{Desk}
use Rattle.ds_model.specs.World.{Process, Worker, Conn, World}
use Rattle.ds_model.specs.Step.{Event, Step, Frame, Arrive, Accept, Deliver, Tick, Inject, Copy, stream_at, worker_at, step}
use Rattle.ds_model.specs.Views.{IsStill, proc_at, desk_at}

-- whether an event changes a world
abbrev pub Test : Type 0
Test = World → Event → Bool

-- the test answers false exactly where an event is still
abbrev pub Decides : Scheme → Plan → Test → Type 0
Decides s plan changes = (w : World) (e : Event) → (changes w e ≡ false) ↔ IsStill s plan w e

-- NUMBERS THAT TELL WHETHER ANYTHING CHANGED: an event that changes anything changes one of these

-- 1 where there is one, and else 0
abbrev pub how_many : {X : Type 0} → Option X → ℕ
how_many None = 0
how_many (Some x) = 1

-- a process's place, and whether a message is in hand
abbrev pub proc_numbers : Option Process → List ℕ
proc_numbers None = []
proc_numbers (Some y) = y.course.place ∷ how_many y.hand ∷ []

-- how many messages a worker has in hand
abbrev pub worker_numbers : Option Worker → List ℕ
worker_numbers None = []
worker_numbers (Some e) = length e.hand ∷ []

-- how many bytes a link has and how many arrived, how many items were taken, how many messages are in hand, and
-- whether one is passed and whether the connection failed
abbrev pub conn_numbers : Option Conn → List ℕ
conn_numbers None = []
conn_numbers (Some y) = length y.link ∷ y.count ∷ y.taken ∷ length y.hand ∷ how_many y.passed ∷ how_many y.failed ∷ []

-- a desk's moment
abbrev pub desk_numbers : Option Desk → List ℕ
desk_numbers None = []
desk_numbers (Some d) = d.moment ∷ []

-- the numbers of the actor of an event
abbrev pub numbers_of : Event → World → List ℕ
numbers_of (Step h p) w = proc_numbers (proc_at w h p)
numbers_of (Frame h l) w = worker_numbers (worker_at (slice_get w.hosts h) l)
numbers_of (Arrive k n) w = conn_numbers (slice_get w.conns k)
numbers_of (Accept k) w = conn_numbers (slice_get w.conns k)
numbers_of (Deliver k) w = conn_numbers (slice_get w.conns k)
numbers_of (Tick h t) w = desk_numbers (desk_at w h)
numbers_of (Inject k bytes) w = conn_numbers (slice_get w.conns k)
numbers_of (Copy k j from until) w = conn_numbers (slice_get w.conns k)

-- whether an event changes a world, by these numbers
abbrev pub changes : Scheme → Plan → Test
changes s plan w e = not (bytes_eq (numbers_of e (step s plan w e)) (numbers_of e w))

-- it finds what is still, in every world
abbrev pub FindsStill : Type 0
FindsStill = (s : Scheme) (plan : Plan) → Decides s plan (changes s plan)

-- THE SCHEDULE

-- a schedule as it is made: the world that it has come to, its events, and how many more it may have
pub record Schedule : Type 0 where
  pub world : World
  pub events : List Event
  pub left : ℕ

-- with an event that changed something, unless no more may come
abbrev pub kept : Scheme → Plan → Event → Schedule → ℕ → Schedule
kept s plan e sch zero = sch
kept s plan e sch (suc left) = record { world = step s plan sch.world e; events = sch.events ++ e ∷ []; left = left }

-- with an event, unless it is still or no more may come
abbrev pub tried : Test → Scheme → Plan → Event → Schedule → Schedule
tried changes s plan e sch = if changes sch.world e then kept s plan e sch sch.left else sch

-- these events, one after another
abbrev pub all_tried : Test → Scheme → Plan → List Event → Schedule → Schedule
all_tried changes s plan [] sch = sch
all_tried changes s plan (e ∷ events) sch = all_tried changes s plan events (tried changes s plan e sch)

-- deliveries as long as they change something; at most so many
abbrev pub delivered : Test → Scheme → Plan → (conn : ℕ) → (most : ℕ) → Schedule → Schedule
delivered changes s plan k zero sch = sch
delivered changes s plan k (suc most) sch = if changes sch.world (Deliver k) then delivered changes s plan k most (tried changes s plan (Deliver k) sch) else sch

-- an accept and then deliveries, in turn, until neither changes anything; at most so many turns
abbrev pub turned : Test → Scheme → Plan → (conn : ℕ) → (budget most : ℕ) → Schedule → Schedule
turned changes s plan k budget zero sch = sch
turned changes s plan k budget (suc most) sch =
    if changes sch.world (Accept k) || changes sch.world (Deliver k)
    then turned changes s plan k budget most (delivered changes s plan k budget (tried changes s plan (Accept k) sch))
    else sch

-- how many bytes have arrived
abbrev pub count_of : Option Conn → ℕ
count_of None = 0
count_of (Some y) = y.count

-- the bytes of a connection's stream that haven't arrived
abbrev pub bytes_left : Plan → World → (conn : ℕ) → ℕ
bytes_left plan w k = length (stream_at w plan k (slice_get w.conns k)) - count_of (slice_get w.conns k)

-- what a round does with a connection: the rest arrives, and is accepted and delivered
abbrev pub connected : Test → Scheme → Plan → (budget : ℕ) → (conn : ℕ) → Schedule → Schedule
connected changes s plan budget k sch = turned changes s plan k budget budget (tried changes s plan (Arrive k (bytes_left plan sch.world k)) sch)

-- the first so many connections
abbrev pub all_connected : Test → Scheme → Plan → (budget : ℕ) → ℕ → Schedule → Schedule
all_connected changes s plan budget zero sch = sch
all_connected changes s plan budget (suc k) sch = connected changes s plan budget k (all_connected changes s plan budget k sch)

-- what is tried of a host in each round
abbrev pub host_events : Plan → (host : ℕ) → List Event
host_events plan h =
    gathered (λ p. Step h p ∷ []) (host_plan plan h).procs
    ++ gathered (λ l. Frame h l ∷ Frame h l ∷ []) (length (host_plan plan h).lanes)

-- a round: the hosts, then the connections
abbrev pub round : Test → Scheme → Plan → (budget : ℕ) → Schedule → Schedule
round changes s plan budget sch = all_connected changes s plan budget (length plan.conn_plans) (all_tried changes s plan (gathered (host_events plan) (length plan.hosts)) sch)

-- where the round kept nothing the schedule ends
abbrev pub after_round : Schedule → Schedule → Schedule → Schedule
after_round before after more = if length after.events == length before.events then after else more

-- rounds until one keeps nothing; at most so many
abbrev pub rounds : Test → Scheme → Plan → (budget most : ℕ) → Schedule → Schedule
rounds changes s plan budget zero sch = sch
rounds changes s plan budget (suc most) sch = after_round sch (round changes s plan budget sch) (rounds changes s plan budget most (round changes s plan budget sch))

-- Each turn and each round but the last keeps an event, so no more of them than the budget are needed.
abbrev pub canonical : Test → Scheme → Plan → (budget : ℕ) → World → List Event
canonical changes s plan budget w = (rounds changes s plan budget (suc budget) (record { world = w; events = []; left = budget })).events

-- the canonical schedule, by any test that finds what is still
pub record IsCanonical (s : Scheme) (plan : Plan) (budget : ℕ) (w : World) (events : List Event) : Type 0 where
  pub changes : Test
  pub decides : Decides s plan changes
  pub made : events ≡ canonical changes s plan budget w

-- each world has a canonical schedule
abbrev pub SomeSchedule : Type 0
SomeSchedule = (s : Scheme) (plan : Plan) (budget : ℕ) (w : World) →
    IsCanonical s plan budget w (canonical (changes s plan) s plan budget w)

-- and one alone
abbrev pub OneSchedule : Type 0
OneSchedule = (s : Scheme) (plan : Plan) (budget : ℕ) (w : World) (one two : List Event) →
    IsCanonical s plan budget w one → IsCanonical s plan budget w two → one ≡ two
