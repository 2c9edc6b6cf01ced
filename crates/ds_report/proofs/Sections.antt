-- A running host's sections in the model's text are those that code prints.
use Rattle.std.proofs.Common.{◌≡◌, ℕ, zero, suc, Bool, false, List, [], ◌∷◌, ◌++◌, Option, Some, None, refl, sym, ap, subst, ◌∙◌, map, flat_map, length, slice_get, get_or, option_map, append_assoc}
use Rattle.std.proofs.lemmas.List.{append-nil, length-map}
use Rattle.std.proofs.lemmas.Option.{slice_get-map, get_or_from_slice_get}
use Rattle.ds_model.specs.Lists.{gathered}
use Rattle.ds_model.specs.Plan.{Plan, HostPlan, BoxPlan, LanePlan, host_plan, box_plan, lane_plan, inlet_name, no_box, no_lane, no_inlet}
use Rattle.ds_model.specs.Scheme.{InletName}
use Rattle.ds_model.specs.World.{Host, Queue, Worker, LaneLine}
use Rattle.ds_model.specs.Text.{section, lane_section, joined, host_sections, nothing_hidden}
use Rattle.ds_model.specs.Print.{Printing, printed, proc_section, box_section, lane_section_text, inlet_section, host_line}
use Rattle.ds_exporter.specs.HostStates.{HostState, HostProcess, HostBox, HostLane}
use Rattle.ds_exporter.specs.PlainHosts.{host_of, site_of, plain_process, plain_box, plan_of_box, plan_of_lane, plain_queue, plain_worker, log_of, plain_inlet, name_of_inlet}
use Rattle.ds_inlet.specs.Inlets.{CountedLane}
use Rattle.ds_report.specs.Boxes.{box_text}
use Rattle.ds_report.specs.Lanes.{lane_text}
use Rattle.ds_report.specs.Inlets.{inlet_text}
use Rattle.ds_report.specs.Hosts.{texts, proc_at, box_at, lane_at, inlet_at, procs_text, boxes_text, lanes_text, inlets_text, host_text}

-- sections of two lists, one after another
pub joined_append : (xs ys : List (List ℕ)) → joined (xs ++ ys) ≡ joined xs ++ joined ys
joined_append [] ys = refl
joined_append (x ∷ xs) ys = ap (λ more. x ++ more) (joined_append xs ys) ∙ sym (append_assoc x (joined xs) (joined ys))

-- what is gathered, from its first place
pub gathered_first : {X : Type 0} (f : ℕ → List X) (n : ℕ) → gathered f (suc n) ≡ f zero ++ gathered (λ i. f (suc i)) n
gathered_first f zero = sym (append-nil (f zero))
gathered_first f (suc n) = ap (λ front. front ++ f (suc n)) (gathered_first f n) ∙ append_assoc (f zero) (gathered (λ i. f (suc i)) n) (f (suc n))

pub texts_later : {X : Type 0} (f : ℕ → X → List ℕ) (n : ℕ) (xs : List X) → texts (λ i. f (suc i)) n xs ≡ texts f (suc n) xs
texts_later f n [] = refl
texts_later f n (x ∷ xs) = ap (λ more. f (suc n) x ++ more) (texts_later f (suc n) xs)

-- where the place makes no difference
texts_all : {X : Type 0} (f : X → List ℕ) (n : ℕ) (xs : List X) → texts (λ i. f) n xs ≡ flat_map f xs
texts_all f n [] = refl
texts_all f n (x ∷ xs) = ap (λ more. f x ++ more) (texts_all f (suc n) xs)

-- the sections of a list's things, by their places
placed : {X Y : Type 0} (F : ℕ → Y → List ℕ) (g : X → Y) (G : ℕ → X → List ℕ) (xs : List X) → ((i : ℕ) (x : X) → slice_get xs i ≡ Some x → F i (g x) ≡ G i x)
    → joined (gathered (λ i. section (F i) (slice_get (map g xs) i)) (length xs)) ≡ texts G 0 xs
placed F g G [] same = refl
placed F g G (x ∷ xs) same =
    ap joined (gathered_first (λ i. section (F i) (slice_get (map g (x ∷ xs)) i)) (length xs))
    ∙ (λ i. same 0 x refl i ++ placed (λ j. F (suc j)) g (λ j. G (suc j)) xs (λ j y e. same (suc j) y e) i)
    ∙ ap (λ more. G 0 x ++ more) (texts_later G 0 xs)

-- the same of things in three parts
placed_lanes : {X : Type 0} (F : ℕ → Queue → Worker → List LaneLine → List ℕ) (q : X → Queue) (w : X → Worker) (l : X → List LaneLine) (G : ℕ → X → List ℕ) (xs : List X)
    → ((i : ℕ) (x : X) → slice_get xs i ≡ Some x → F i (q x) (w x) (l x) ≡ G i x)
    → joined (gathered (λ i. lane_section (F i) (slice_get (map q xs) i) (slice_get (map w xs) i) (slice_get (map l xs) i)) (length xs)) ≡ texts G 0 xs
placed_lanes F q w l G [] same = refl
placed_lanes F q w l G (x ∷ xs) same =
    ap joined (gathered_first (λ i. lane_section (F i) (slice_get (map q (x ∷ xs)) i) (slice_get (map w (x ∷ xs)) i) (slice_get (map l (x ∷ xs)) i)) (length xs))
    ∙ (λ i. same 0 x refl i ++ placed_lanes (λ j. F (suc j)) q w l (λ j. G (suc j)) xs (λ j y e. same (suc j) y e) i)
    ∙ ap (λ more. G 0 x ++ more) (texts_later G 0 xs)

-- what stands at a place of a mapped list
there : {X Y : Type 0} (f : X → Y) (xs : List X) (d : Y) (i : ℕ) (x : X) → slice_get xs i ≡ Some x → get_or (map f xs) i d ≡ f x
there f xs d i x e = get_or_from_slice_get (map f xs) i (f x) d (slice_get-map f xs i ∙ ap (option_map f) e)

module _ (p : Printing) (plan : Plan) (h : ℕ) (e : HostState) (site : site_of e ≡ host_plan plan h) where
  box_there : (i : ℕ) (b : HostBox) → slice_get e.boxes i ≡ Some b → box_plan (host_plan plan h) i ≡ plan_of_box e.desk.here e.desk.desk.rows b
  box_there i b s = ap (λ (q : HostPlan). box_plan q i) (sym site) ∙ there (plan_of_box e.desk.here e.desk.desk.rows) e.boxes no_box i b s

  lane_there : (i : ℕ) (l : HostLane) → slice_get e.lanes i ≡ Some l → lane_plan (host_plan plan h) i ≡ plan_of_lane l
  lane_there i l s = ap (λ (q : HostPlan). lane_plan q i) (sym site) ∙ there plan_of_lane e.lanes no_lane i l s

  inlet_there : (i : ℕ) (x : CountedLane) → slice_get e.inlets i ≡ Some x → inlet_name (host_plan plan h) i ≡ name_of_inlet x
  inlet_there i x s = ap (λ (q : HostPlan). inlet_name q i) (sym site) ∙ there name_of_inlet e.inlets no_inlet i x s

  procs_are : joined (gathered (λ i. section (proc_section p plan h i) (slice_get (host_of e).procs i)) (host_plan plan h).procs) ≡ procs_text p plan h e.desk.here e.desk.desk.rows 0 e.procs
  procs_are =
      ap (λ (n : ℕ). joined (gathered (λ i. section (proc_section p plan h i) (slice_get (host_of e).procs i)) n)) (ap (λ (q : HostPlan). q.procs) (sym site))
      ∙ placed (λ i. proc_section p plan h i) (plain_process e.desk.here e.desk.desk.rows) (proc_at p plan h e.desk.here e.desk.desk.rows) e.procs (λ i x s. refl)

  boxes_are : joined (gathered (λ i. section (box_section p plan h i) (slice_get (host_of e).boxes i)) (length (host_plan plan h).boxes)) ≡ boxes_text p plan h e.desk.here e.desk.desk.rows e.boxes
  boxes_are =
      ap (λ (n : ℕ). joined (gathered (λ i. section (box_section p plan h i) (slice_get (host_of e).boxes i)) n))
      (ap (λ (q : HostPlan). length q.boxes) (sym site) ∙ length-map e.boxes (plan_of_box e.desk.here e.desk.desk.rows))
      ∙ placed (λ i. box_section p plan h i) (plain_box e.desk.here e.desk.desk.rows) (λ i. box_at p plan h e.desk.here e.desk.desk.rows) e.boxes
      (λ i b s. ap (λ (q : BoxPlan). box_text p plan h q (plain_box e.desk.here e.desk.desk.rows b)) (box_there i b s))
      ∙ texts_all (box_at p plan h e.desk.here e.desk.desk.rows) 0 e.boxes

  lanes_are : joined (gathered (λ i. lane_section (lane_section_text p plan h i) (slice_get (host_of e).queues i) (slice_get (host_of e).workers i) (slice_get (host_of e).logs i)) (length (host_plan plan h).lanes)) ≡ lanes_text p plan h 0 e.lanes
  lanes_are =
      ap (λ (n : ℕ). joined (gathered (λ i. lane_section (lane_section_text p plan h i) (slice_get (host_of e).queues i) (slice_get (host_of e).workers i) (slice_get (host_of e).logs i)) n))
      (ap (λ (q : HostPlan). length q.lanes) (sym site) ∙ length-map e.lanes plan_of_lane)
      ∙ placed_lanes (λ i. lane_section_text p plan h i) plain_queue plain_worker log_of (lane_at p plan h) e.lanes
      (λ i l s. ap (λ (q : LanePlan). lane_text p plan h i q (plain_queue l) (plain_worker l) (log_of l)) (lane_there i l s))

  inlets_are : joined (gathered (λ i. section (inlet_section p plan h i) (slice_get (host_of e).inlets i)) (length (host_plan plan h).inlets)) ≡ inlets_text p plan h e.inlets
  inlets_are =
      ap (λ (n : ℕ). joined (gathered (λ i. section (inlet_section p plan h i) (slice_get (host_of e).inlets i)) n))
      (ap (λ (q : HostPlan). length q.inlets) (sym site) ∙ length-map e.inlets name_of_inlet)
      ∙ placed (λ i. inlet_section p plan h i) plain_inlet (λ i. inlet_at p plan h) e.inlets
      (λ i x s. ap (λ (q : InletName). inlet_text p plan h q (plain_inlet x)) (inlet_there i x s))
      ∙ texts_all (inlet_at p plan h) 0 e.inlets

  -- the whole host
  pub sections_are : joined (host_sections (printed p plan) nothing_hidden (host_plan plan h) h (host_of e)) ≡ host_text p plan h e
  sections_are =
      let line = host_line p plan h e.desk.desk in
      let ps = gathered (λ i. section (proc_section p plan h i) (slice_get (host_of e).procs i)) (host_plan plan h).procs in
      let bs = gathered (λ i. section (box_section p plan h i) (slice_get (host_of e).boxes i)) (length (host_plan plan h).boxes) in
      let ls = gathered (λ i. lane_section (lane_section_text p plan h i) (slice_get (host_of e).queues i) (slice_get (host_of e).workers i) (slice_get (host_of e).logs i)) (length (host_plan plan h).lanes) in
      let is = gathered (λ i. section (inlet_section p plan h i) (slice_get (host_of e).inlets i)) (length (host_plan plan h).inlets) in
      ap (λ more. line ++ more) (joined_append ps (bs ++ (ls ++ is)))
      ∙ ap (λ more. line ++ (joined ps ++ more)) (joined_append bs (ls ++ is))
      ∙ ap (λ more. line ++ (joined ps ++ (joined bs ++ more))) (joined_append ls is)
      ∙ (λ i. line ++ (procs_are i ++ (boxes_are i ++ (lanes_are i ++ inlets_are i))))
