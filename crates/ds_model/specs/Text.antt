-- The text of a world in sections: the first line, each running host's line, then its processes, mailboxes, lanes and
-- inlets, and at last the connections to running hosts. A section is a thing's line with its entries. How each thing is
-- printed is left open: a format says it, and all that it needs stands in the plan and the world.
use Rattle.std.specs.Prelude.{ℕ, Bool, false, List, [], ◌∷◌, ◌++◌, Option, Some, None, length, slice_get, if◌then◌else◌}
use Rattle.ds_model.specs.Lists.{gathered}
use Rattle.ds_model.specs.Plan.{HostPlan, Plan, host_plan, conn_plan}
use Rattle.ds_model.specs.Inlet.{Inlet}
use Rattle.ds_model.specs.Desk.{Desk}
use Rattle.ds_model.specs.World.{Process, Mailbox, Queue, Worker, LaneLine, Conn, Host, World}
use Rattle.ds_model.specs.Step.{arrived}

-- how each thing is printed, its line and its entries, from what the world keeps of it
pub record Format : Type 0 where
  pub first : List ℕ
  pub host : (host : ℕ) → Desk → List ℕ
  pub proc : (host proc : ℕ) → Process → List ℕ
  pub box : (host box : ℕ) → Mailbox → List ℕ
  pub lane : (host lane : ℕ) → Queue → Worker → List LaneLine → List ℕ
  pub inlet : (host inlet : ℕ) → Inlet → List ℕ
  -- with the bytes that arrived
  pub conn : (conn : ℕ) → Conn → List ℕ → List ℕ

-- which sections are left out
pub record Hiding : Type 0 where
  pub proc : (host proc : ℕ) → Bool
  pub box : (host box : ℕ) → Bool
  pub lane : (host lane : ℕ) → Bool
  pub inlet : (host inlet : ℕ) → Bool
  pub conn : (conn : ℕ) → Bool

-- the whole text
abbrev pub nothing_hidden : Hiding
nothing_hidden = record { proc = λ h p. false; box = λ h b. false; lane = λ h l. false; inlet = λ h i. false; conn = λ k. false }

-- the section of a thing that is there
abbrev pub section : {X : Type 0} → (X → List ℕ) → Option X → List (List ℕ)
section text None = []
section text (Some x) = text x ∷ []

-- the section of a lane, of its three parts
abbrev pub lane_section : (Queue → Worker → List LaneLine → List ℕ) → Option Queue → Option Worker → Option (List LaneLine) → List (List ℕ)
lane_section text (Some q) (Some e) (Some log) = text q e log ∷ []
lane_section text _ _ _ = []

-- the sections of the first so many places, without hidden ones
abbrev pub sections : (ℕ → Bool) → (ℕ → List (List ℕ)) → ℕ → List (List ℕ)
sections hidden text n = gathered (λ i. if hidden i then [] else text i) n

-- the sections of a running host
abbrev pub host_sections : Format → Hiding → HostPlan → ℕ → Host → List (List ℕ)
host_sections f hiding plan h x =
    f.host h x.desk
    ∷ (sections (hiding.proc h) (λ p. section (f.proc h p) (slice_get x.procs p)) plan.procs
    ++ (sections (hiding.box h) (λ b. section (f.box h b) (slice_get x.boxes b)) (length plan.boxes)
    ++ (sections (hiding.lane h) (λ l. lane_section (f.lane h l) (slice_get x.queues l) (slice_get x.workers l) (slice_get x.logs l)) (length plan.lanes)
    ++ sections (hiding.inlet h) (λ i. section (f.inlet h i) (slice_get x.inlets i)) (length plan.inlets))))

-- a silent host has none
abbrev pub sections_at : Format → Hiding → HostPlan → ℕ → Option Host → List (List ℕ)
sections_at f hiding plan h None = []
sections_at f hiding plan h (Some x) = if plan.silent then [] else host_sections f hiding plan h x

-- the section of a connection that is there
abbrev pub conn_section : Format → Plan → World → ℕ → Option Conn → List (List ℕ)
conn_section f plan w k None = []
conn_section f plan w k (Some y) = f.conn k y (arrived w (conn_plan plan k).source y) ∷ []

-- a connection to a silent host has none
abbrev pub conn_sections : Format → Plan → World → ℕ → List (List ℕ)
conn_sections f plan w k = if (host_plan plan (conn_plan plan k).host).silent then [] else conn_section f plan w k (slice_get w.conns k)

-- the first line, the hosts' sections, and those of connections
abbrev pub sections_of : Format → Hiding → Plan → World → List (List ℕ)
sections_of f hiding plan w =
    f.first
    ∷ (gathered (λ h. sections_at f hiding (host_plan plan h) h (slice_get w.hosts h)) (length plan.hosts)
    ++ sections hiding.conn (conn_sections f plan w) (length plan.conn_plans))

-- sections one after another
abbrev pub joined : List (List ℕ) → List ℕ
joined [] = []
joined (section ∷ sections) = section ++ joined sections

-- the whole text
abbrev pub text_of : Format → Plan → World → List ℕ
text_of f plan w = joined (sections_of f nothing_hidden plan w)
