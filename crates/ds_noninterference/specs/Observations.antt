-- The mark of an event: what it shows of itself outside what is high. What a high process releases is shown whole, all
-- else that is high isn't shown, and any other event is shown as it is, a copy as the injection of its bytes.
use Rattle.std.specs.Prelude.{ℕ, Bool, true, false, List, [], ◌∷◌, Option, Some, None, slice_get, if◌then◌else◌}
use Rattle.ds_label.specs.declared.category.Category.{Category}
use Rattle.ds_label.specs.Flow.{has}
use Rattle.ds_label.specs.Names.{by_name}
use Rattle.ds_msg.specs.declared.message.Message.{Message}
use Rattle.ds_model.specs.Scheme.{Scheme}
use Rattle.ds_model.specs.Plan.{HostPlan, Plan, host_plan}
use Rattle.ds_model.specs.Desk.{Act}
use Rattle.ds_model.specs.World.{Process, Mail, World}
use Rattle.ds_model.specs.ProcessStep.{Ask, Waits, Internal, Put, Admit, TakeFrom, PublicAct, AsksJudgement, ask}
use Rattle.ds_model.specs.Step.{Event, Step, Frame, Arrive, Accept, Deliver, Tick, Inject, Copy, resolve, step}
use Rattle.ds_model.specs.Views.{proc_in}
use Rattle.ds_noninterference.specs.High.{is_in, high_proc, high_lane, high_conn}

-- what a process lets out: a message into a mailbox or onto a lane, whether there is room or not, or a public act
pub data Released : Type 0 where
  ToBox : (box : ℕ) → Mail Category → Released
  ToLane : (lane : ℕ) → Message → Released
  ByAct : Act → Released

-- a release by a process, with all that it lets out; nothing to be seen; or the event
pub data Mark : Type 0 where
  Release : (host proc : ℕ) → Released → Mark
  High : Mark
  Low : Event → Mark

-- what is let out, unless it has the category
abbrev pub unless_has : Bool → Released → Option Released
unless_has true r = None
unless_has false r = Some r

-- what a high process's step releases: a message without the category in its label, or an act that passes the process's rules
abbrev pub released : Category → Ask → Option Released
released c (Put b m next) = unless_has (has by_name c m.label) (ToBox b m)
released c (Admit l m next) = unless_has (has by_name c m.label) (ToLane l m)
released c (PublicAct act reg host) = Some (ByAct act)
released c Waits = None
released c (Internal next) = None
released c (TakeFrom b reg slot) = None
released c (AsksJudgement m) = None

-- the mark of a high process's step
abbrev pub mark_released : (host proc : ℕ) → Option Released → Mark
mark_released h p None = High
mark_released h p (Some r) = Release h p r

-- the mark of a process's step
abbrev pub mark_proc : Category → (t : Bool) → HostPlan → (host proc : ℕ) → Option Process → Mark
mark_proc c t plan h p None = Low (Step h p)
mark_proc c t plan h p (Some x) = if high_proc c t x then mark_released h p (released c (ask plan p x)) else Low (Step h p)

-- nothing to be seen, or the event
abbrev pub high_or : Bool → Event → Mark
high_or true e = High
high_or false e = Low e

-- the mark of an event that isn't a copy
abbrev pub mark_of : Category → List ℕ → Plan → World → Event → Mark
mark_of c trusted plan w (Step h p) = mark_proc c (is_in trusted h) (host_plan plan h) h p (proc_in (slice_get w.hosts h) p)
mark_of c trusted plan w (Frame h l) = high_or (high_lane c trusted plan h l) (Frame h l)
mark_of c trusted plan w (Arrive k n) = high_or (high_conn c trusted plan k) (Arrive k n)
mark_of c trusted plan w (Accept k) = high_or (high_conn c trusted plan k) (Accept k)
mark_of c trusted plan w (Deliver k) = high_or (high_conn c trusted plan k) (Deliver k)
mark_of c trusted plan w (Tick h t) = Low (Tick h t)
mark_of c trusted plan w (Inject k bytes) = Low (Inject k bytes)
mark_of c trusted plan w (Copy k j from until) = Low (Copy k j from until)

-- the mark of an event on the world before it
abbrev pub mark : Category → List ℕ → Plan → World → Event → Mark
mark c trusted plan w e = mark_of c trusted plan w (resolve plan w e)

-- a list with a mark before it, unless that is high
abbrev pub unless_high : Mark → List Mark → List Mark
unless_high High ms = ms
unless_high (Release h p r) ms = Release h p r ∷ ms
unless_high (Low e) ms = Low e ∷ ms

-- the marks of a run, those that are high left out
abbrev pub marks : Scheme → Category → List ℕ → Plan → World → List Event → List Mark
marks s c trusted plan w [] = []
marks s c trusted plan w (e ∷ events) = unless_high (mark c trusted plan w e) (marks s c trusted plan (step s plan w e) events)

-- at each world of a run, the first and the last among them
abbrev pub Along : Scheme → Plan → (World → Type 0) → World → List Event → Type 0
Along s plan P w [] = P w × Unit {0}
Along s plan P w (e ∷ events) = P w × Along s plan P (step s plan w e) events
