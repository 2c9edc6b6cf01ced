-- What a process asks, in its host's own numbers, against what it asks in the model, by names.
use Rattle.std.specs.Prelude.{◌≡◌, ℕ, ◌<◌, ◌≤◌, ◌^◌, List, None, IsTrue, length}
use Rattle.ds_label.specs.declared.category.PubKey.{PubKey}
use Rattle.ds_label.specs.declared.category.Category.{Category}
use Rattle.ds_script.specs.declared.note.Note.TheVariants as notes
use Rattle.ds_script.specs.declared.op.Op.{Op}
use Rattle.ds_script.specs.declared.op.Op.TheVariants as ops
use Rattle.ds_script.specs.Fits.{IsShort}
use Rattle.ds_model.specs.World.{Process}
use Rattle.ds_model.specs.Desk.{Act, Delegating, Importing, Mapping}
use Rattle.ds_model.specs.ProcessStep.{Ask, Waits, Internal, Put, Admit, TakeFrom, PublicAct, AsksJudgement, refused, noted}
use Rattle.ds_map.specs.Labels.{have_names}
use Rattle.ds_actor.specs.declared.ask.DeskRequest.{DeskRequest}
use Rattle.ds_actor.specs.declared.ask.DeskRequest.TheVariants as requests
use Rattle.ds_actor.specs.declared.ask.ProcessAsk.{ProcessAsk}
use Rattle.ds_actor.specs.declared.ask.ProcessAsk.TheVariants as asks
use Rattle.ds_script.specs.Process.{ProcView}
use Rattle.ds_actor.specs.Sites.{SitePlan}
use Rattle.ds_actor.specs.Seen.{mail_of, mail_labels}

-- the act of the model
abbrev pub act_of : DeskRequest → Act
act_of (requests.Delegating category to from until) = Delegating category to from until
act_of (requests.Importing bytes) = Importing bytes
act_of (requests.Mapping category) = Mapping category

-- The ask is the model's, of the process x by its names; a step inside it was done already, and it is y now.
abbrev pub IsAsked : PubKey → List Category → (x y : Process) → ProcessAsk → Ask → Type 0
IsAsked here rows x y asks.Waits ask = ask ≡ Waits
IsAsked here rows x y asks.Internal ask = ask ≡ Internal y
IsAsked here rows x y (asks.Refused rule) ask = ask ≡ refused rule x
IsAsked here rows x y (asks.Put place message kept) ask = ask ≡ Put place (mail_of here rows message) (noted notes.Sent x)
IsAsked here rows x y (asks.Admit place message kept) ask = ask ≡ Admit place message (noted notes.Sent (record x { hand = None }))
IsAsked here rows x y (asks.TakeFrom place reg slot) ask = ask ≡ TakeFrom place reg slot
IsAsked here rows x y (asks.PublicAct request reg host) ask = ask ≡ PublicAct (act_of request) reg host
IsAsked here rows x y (asks.AsksJudgement message) ask = ask ≡ AsksJudgement message

-- a message's copy for the entry is equal to it
abbrev pub IsCopied : ProcessAsk → Type 0
IsCopied (asks.Put place message kept) = kept ≡ message
IsCopied (asks.Admit place message kept) = kept ≡ message
IsCopied _ = Unit {0}

-- what may be put has names for its numbers
abbrev pub HasMailNames : PubKey → List Category → ProcessAsk → Type 0
HasMailNames here rows (asks.Put place message kept) = IsTrue (have_names here rows (mail_labels message))
HasMailNames here rows _ = Unit {0}

-- places are those of mailboxes and lanes, payloads and what is imported are short, registers are below 8, and a mapped
-- category is one that a host may make
abbrev pub IsAskInRange : SitePlan → ProcessAsk → Type 0
IsAskInRange site (asks.Put place message kept) = (place < length site.boxes) × IsShort message.payload
IsAskInRange site (asks.Admit place message kept) = place < length site.lanes
IsAskInRange site (asks.TakeFrom place reg slot) = (place < length site.boxes) × (reg < 8)
IsAskInRange site (asks.PublicAct (requests.Delegating category to from until) reg host) = reg < 8
IsAskInRange site (asks.PublicAct (requests.Importing bytes) reg host) = IsShort bytes
IsAskInRange site (asks.PublicAct (requests.Mapping category) reg host) = category.number < 2 ^ 62
IsAskInRange site (asks.AsksJudgement message) = IsShort message.payload
IsAskInRange site _ = Unit {0}

-- nothing is asked of a shared object: the step was inside, or is refused
abbrev pub IsInside : ProcessAsk → Type 0
IsInside asks.Internal = Unit {0}
IsInside (asks.Refused rule) = Unit {0}
IsInside _ = ⊥

-- the process is the same, unless its step was inside it; and there is still room for the end of the operation
abbrev pub StaysUnless : ProcessAsk → ProcView → ProcView → Type 0
StaysUnless asks.Internal old new = Unit {0}
StaysUnless _ old new = (new.process ≡ old.process) × (old.room ≤ new.room) × (old.spare ≤ new.spare)

-- the hosts of an operation are among so many
abbrev pub IsAmongHosts : ℕ → Op → Type 0
IsAmongHosts hosts (ops.Send host slot reg label own clear) = host < hosts
IsAmongHosts hosts (ops.Delegate reg category to from until) = to < hosts
IsAmongHosts hosts _ = Unit {0}
