-- Two runs that meet the premises of the law, computed: a process with a secret of its own releases the same word in both.
use Rattle.std.specs.Prelude.{◌≡◌, ℕ, List, [], ◌∷◌, Option, Some, None, option_map, replicate, codes, true, false}
use Rattle.ds_label.specs.declared.category.Category.{Category}
use Rattle.ds_script.specs.declared.op.Op.{Op}
use Rattle.ds_script.specs.declared.op.Op.TheVariants as ops
use Rattle.ds_script.specs.declared.note.Note.{Note}
use Rattle.ds_script.specs.declared.note.Note.TheVariants as notes
use Rattle.ds_model.specs.Plan.{HostSetup, BoxPlan, Plan, no_signing}
use Rattle.ds_model.specs.World.{Process, World}
use Rattle.ds_model.specs.Step.{Event, Step, run}
use Rattle.ds_model.specs.Views.{proc_at}
use Rattle.ds_model.specs.Examples.OneHost.{one_host, one_process, empty_scheme, only_key, a_secret, a_mail}
use Rattle.ds_noninterference.specs.Observations.{Release, ToBox, Low, marks, High, mark}
use Rattle.ds_noninterference.specs.Premises.{IsScheme}
use Rattle.ds_noninterference.specs.Law.{Premises}

-- a host with two processes and a mailbox of the second, without a label
abbrev pub public_box : BoxPlan
public_box = record { slot = 1; owner = 1; label = []; room = 4 }

-- the host
abbrev pub pair_host : HostSetup
pair_host = record { key = only_key; silent = false; signing = no_signing; procs = 2; boxes = public_box ∷ []; lanes = []; inlets = [] }

-- the plan of that host alone
abbrev pub pair : Plan
pair = record { hosts = pair_host ∷ []; conn_plans = [] }

-- a process that owns what its label has
abbrev pub process : List Op → (label : List Category) → Process
process script label = record { script = script; course = record { place = 0; registers = replicate 8 []; notes = [] }; label = label; own = label; clear = []; names = []; made = 1; hand = None }

-- the second process takes what the first one sends, and prints it
abbrev pub taking : List Op
taking = ops.Take 0 1 ∷ ops.Print 0 ∷ []

-- the world in which the first process has this script
abbrev pub pair_world : List Op → World
pair_world script = record {
  hosts = record {
    desk = record { moment = 0; rows = []; store = []; addresses = []; issued = []; leaf = 0 };
    procs = process script (a_secret ∷ []) ∷ process taking [] ∷ [];
    boxes = record { waiting = []; entries = [] } ∷ [];
    queues = [];
    workers = [];
    logs = [];
    inlets = [];
  } ∷ [];
  conns = [];
}

-- the first process, which owns the secret of its label, has a word of its own and sends another one without a label
abbrev pub first_script : List Op
first_script = ops.Set 1 (codes "yes") ∷ ops.Set 0 (codes "x") ∷ ops.Send 0 1 0 [] [] [] ∷ []

-- in the second run its own word is another one, which it prints, so it takes a step more
abbrev pub second_script : List Op
second_script = ops.Set 1 (codes "no") ∷ ops.Print 1 ∷ ops.Set 0 (codes "x") ∷ ops.Send 0 1 0 [] [] [] ∷ []

-- three steps of the first process and two of the second
abbrev pub first_events : List Event
first_events = Step 0 0 ∷ Step 0 0 ∷ Step 0 0 ∷ Step 0 1 ∷ Step 0 1 ∷ []

-- four and two
abbrev pub second_events : List Event
second_events = Step 0 0 ∷ Step 0 0 ∷ Step 0 0 ∷ Step 0 0 ∷ Step 0 1 ∷ Step 0 1 ∷ []

-- they meet the premises
abbrev pub PremisesHold : Type 0
PremisesHold = IsScheme empty_scheme pair × Premises empty_scheme a_secret (0 ∷ []) pair (pair_world first_script) (pair_world second_script) first_events second_events

-- the marks of both runs: the release, and the steps of the second process
abbrev pub IsMarked : Type 0
IsMarked = marks empty_scheme a_secret (0 ∷ []) pair (pair_world first_script) first_events ≡ Release 0 0 (ToBox 0 a_mail) ∷ Low (Step 0 1) ∷ Low (Step 0 1) ∷ []

-- a step of an owner of the secret is high, also where its label hasn't the secret
abbrev pub IsOwnerHigh : Type 0
IsOwnerHigh = mark a_secret (0 ∷ []) one_host (one_process first_script [] (a_secret ∷ [])) (Step 0 0) ≡ High

-- what a process has noted at the end
abbrev pub notes_in : List Op → List Event → (proc : ℕ) → Option (List Note)
notes_in script events p = option_map (λ x. x.course.notes) (proc_at (run empty_scheme pair (pair_world script) events) 0 p)

-- what the second process prints, and what the first one prints in the second run alone
abbrev pub IsPrinted : Type 0
IsPrinted = (notes_in first_script first_events 1 ≡ Some (notes.Took 1 1 true ∷ notes.Print (codes "x") ∷ []))
    × (notes_in first_script first_events 0 ≡ Some (notes.Sent ∷ []))
    × (notes_in second_script second_events 0 ≡ Some (notes.Print (codes "no") ∷ notes.Sent ∷ []))
