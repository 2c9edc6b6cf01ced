-- A host's sections, one after another.
use Rattle.std.specs.Prelude.{ℕ, suc, List, [], ◌∷◌, ◌++◌, length, flat_map, codes, decimal}
use Rattle.ds_label.specs.declared.category.PubKey.{PubKey}
use Rattle.ds_label.specs.declared.category.Category.{Category}
use Rattle.ds_cert.specs.Spelling.{spelling_of_delegation, spelling_of_address, spelling_of_category}
use Rattle.ds_inlet.specs.Inlets.{CountedLane}
use Rattle.ds_model.specs.Desk.{Desk}
use Rattle.ds_model.specs.Plan.{Plan}
use Rattle.ds_model.specs.Print.{Printing, host_line, host_name, proc_section}
use Rattle.ds_exporter.specs.HostStates.{HostProcess, HostBox, HostLane, HostState}
use Rattle.ds_exporter.specs.PlainHosts.{plain_process, plain_box, plan_of_box, plan_of_lane, plain_queue, plain_worker, log_of, plain_inlet, name_of_inlet}
use Rattle.ds_report.specs.Boxes.{box_text}
use Rattle.ds_report.specs.Lanes.{lane_text}
use Rattle.ds_report.specs.Inlets.{inlet_text}

-- all that a desk keeps, spelled
abbrev pub desk_spelled : Desk → List ℕ
desk_spelled d = flat_map spelling_of_delegation d.store ++ (flat_map spelling_of_address d.addresses ++ flat_map spelling_of_category d.rows)

-- how far it is, and how much it keeps
abbrev pub host_state : Desk → List ℕ
host_state d = codes " moment " ++ (decimal d.moment ++ (codes " leaf " ++ decimal d.leaf))

abbrev pub host_counts : Desk → List ℕ
host_counts d =
    codes " store " ++ (decimal (length d.store) ++ (codes " addresses " ++ (decimal (length d.addresses) ++ (codes " maps " ++ decimal (length d.rows)))))

-- the front of a host's line
abbrev pub host_front : Printing → Plan → (h : ℕ) → Desk → List ℕ
host_front p plan h d = codes "host " ++ (host_name p plan h ++ (host_state d ++ (host_counts d ++ codes " desk ")))

-- what each thing of a list gives with its place, from a place on
abbrev pub texts : {X : Type 0} → (ℕ → X → List ℕ) → ℕ → List X → List ℕ
texts f n [] = []
texts f n (x ∷ xs) = f n x ++ texts f (suc n) xs

-- processes, mailboxes, lanes and inlets
abbrev pub proc_at : Printing → Plan → (h : ℕ) → PubKey → List Category → ℕ → HostProcess → List ℕ
proc_at p plan h here rows n x = proc_section p plan h n (plain_process here rows x)

abbrev pub procs_text : Printing → Plan → (h : ℕ) → PubKey → List Category → ℕ → List HostProcess → List ℕ
procs_text p plan h here rows n xs = texts (proc_at p plan h here rows) n xs

abbrev pub box_at : Printing → Plan → (h : ℕ) → PubKey → List Category → HostBox → List ℕ
box_at p plan h here rows b = box_text p plan h (plan_of_box here rows b) (plain_box here rows b)

abbrev pub boxes_text : Printing → Plan → (h : ℕ) → PubKey → List Category → List HostBox → List ℕ
boxes_text p plan h here rows bs = flat_map (box_at p plan h here rows) bs

abbrev pub lane_at : Printing → Plan → (h : ℕ) → ℕ → HostLane → List ℕ
lane_at p plan h n l = lane_text p plan h n (plan_of_lane l) (plain_queue l) (plain_worker l) (log_of l)

abbrev pub lanes_text : Printing → Plan → (h : ℕ) → ℕ → List HostLane → List ℕ
lanes_text p plan h n ls = texts (lane_at p plan h) n ls

abbrev pub inlet_at : Printing → Plan → (h : ℕ) → CountedLane → List ℕ
inlet_at p plan h i = inlet_text p plan h (name_of_inlet i) (plain_inlet i)

abbrev pub inlets_text : Printing → Plan → (h : ℕ) → List CountedLane → List ℕ
inlets_text p plan h is = flat_map (inlet_at p plan h) is

-- what stands behind its line, under a table
abbrev pub things_text : Printing → Plan → (h : ℕ) → PubKey → List Category → HostState → List ℕ
things_text p plan h here rows e =
    procs_text p plan h here rows 0 e.procs ++ (boxes_text p plan h here rows e.boxes ++ (lanes_text p plan h 0 e.lanes ++ inlets_text p plan h e.inlets))

-- the whole host
abbrev pub host_text : Printing → Plan → (h : ℕ) → HostState → List ℕ
host_text p plan h e = host_line p plan h e.desk.desk ++ things_text p plan h e.desk.here e.desk.desk.rows e
