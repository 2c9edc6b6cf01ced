-- What is known of an ask, besides that it is the model's.
use Rattle.std.specs.Prelude.{◌≡◌, ℕ, ◌+◌, ◌<◌, [], List, length, Option, Some, IsTrue}
use Rattle.ds_label.specs.declared.category.PubKey.{PubKey}
use Rattle.ds_label.specs.declared.category.Category.{Category}
use Rattle.ds_script.specs.declared.op.Op.{Op}
use Rattle.ds_script.specs.declared.usable.Usable.{Usable}
use Rattle.ds_script.specs.Process.{ProcView, Process as Numbered}
use Rattle.ds_msg.specs.declared.message.Message.{Message}
use Rattle.ds_model.specs.Plan.{HostPlan}
use Rattle.ds_model.specs.Mapping.{to_number}
use Rattle.ds_model.specs.ProcessStep.{ask_outer}
use Rattle.ds_map.specs.Labels.{have_names}
use Rattle.ds_actor.specs.declared.ask.ProcessAsk.{ProcessAsk}
use Rattle.ds_actor.specs.declared.ask.ProcessAsk.TheVariants as asks
use Rattle.ds_actor.specs.Usable.{IsAgreed}
use Rattle.ds_actor.specs.Sites.{SitePlan, with_site}
use Rattle.ds_actor.specs.Seen.{UnderTables, process_of, proc_labels}
use Rattle.ds_actor.specs.Asks.{IsAsked, IsCopied, IsAskInRange, HasMailNames, StaysUnless}

-- the numbers of the usable names are those of one table
abbrev pub HasTable : PubKey → List Usable → Type 0
HasTable here names = (rows : List Category) × IsAgreed here rows names

-- so they are, and in that table the category has this number
abbrev pub IsNumbered : Category → ℕ → List Usable → Type 0
IsNumbered c number names = (here : PubKey) × (rows : List Category) × IsAgreed here rows names × (to_number here rows c ≡ Some number)

-- the process is at an operation, and there is room for its end and for a grant
pub record CanEnd (p : ProcView) : Type 0 where
  pub going : p.process.course.place < length p.process.script
  pub room : 0 < p.room
  pub spare : 0 < p.spare

-- so it is where the operation has yet to end
abbrev pub IsReady : ProcessAsk → ProcView → Type 0
IsReady asks.Waits p = Unit {0}
IsReady asks.Internal p = Unit {0}
IsReady _ p = CanEnd p

-- a step inside the process led to the next operation
abbrev pub MovesInside : ProcessAsk → (old new : Numbered) → Type 0
MovesInside asks.Internal old new = new.course.place ≡ old.course.place + 1
MovesInside _ old new = Unit {0}

-- an operation asks for no lane: only a judged message goes onto one
abbrev pub IsOfOperation : ProcessAsk → Type 0
IsOfOperation (asks.Admit place message kept) = ⊥
IsOfOperation _ = Unit {0}

-- nor does it take a step inside the process
abbrev pub IsOutside : ProcessAsk → Type 0
IsOutside (asks.Admit place message kept) = ⊥
IsOutside asks.Internal = ⊥
IsOutside _ = Unit {0}

-- it is refused, or takes, or acts in public: no message leaves the process
abbrev pub SendsNothing : ProcessAsk → Type 0
SendsNothing (asks.Refused rule) = Unit {0}
SendsNothing (asks.TakeFrom place reg slot) = Unit {0}
SendsNothing (asks.PublicAct request reg host) = Unit {0}
SendsNothing _ = ⊥

-- a judged message in hand asks for its lane, or for nothing
abbrev pub IsOfHand : ProcessAsk → Type 0
IsOfHand asks.Waits = Unit {0}
IsOfHand (asks.Admit place message kept) = Unit {0}
IsOfHand _ = ⊥

-- All of it, of what a process with this operation asks.
pub record IsAnswer (site : SitePlan) (index : ℕ) (op : Option Op) (old new : ProcView) (a : ProcessAsk) : Type 0 where
  pub copied : IsCopied a
  pub range : IsAskInRange site a
  pub operation : IsOfOperation a
  pub ready : IsReady a new
  pub still : StaysUnless a old new
  pub moved : MovesInside a old.process new.process
  pub names : UnderTables site.here [] old.process (λ rows. IsAgreed site.here rows new.process.names)
  pub labels : UnderTables site.here [] old.process (λ rows. IsTrue (have_names site.here rows (proc_labels new.process)))
  pub mail : UnderTables site.here [] old.process (λ rows. HasMailNames site.here rows a)
  pub asked : UnderTables site.here site.boxes old.process (λ rows. (plan : HostPlan) (hand : Option Message) →
      IsAsked site.here rows (process_of site.here rows hand old.process) (process_of site.here rows hand new.process) a
      (ask_outer (with_site site rows plan) index (process_of site.here rows hand old.process) op))
