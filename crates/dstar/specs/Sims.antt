-- What `sim` answers by the bytes of its input alone.
use Rattle.std.specs.Prelude.{◌≡◌, ℕ, List, Ok, Err}
use Rattle.ds_label.specs.declared.category.Category.{Category}
use Rattle.ds_model.specs.Lawful.{Lawful}
use Rattle.ds_model.specs.Step.{Event}
use Rattle.ds_scheme.specs.TheScheme.{scheme}
use Rattle.ds_setup.specs.Plans.{plan_of}
use Rattle.ds_setup.specs.Starts.{start_of}
use Rattle.ds_setup.specs.Events.{IsScheduled}
use Rattle.ds_law.specs.TwoDocuments.{Both}
use Rattle.ds_sim.specs.Outside.{outside_of}
use Rattle.ds_commands.specs.declared.reply.Reply.{Reply}
use Rattle.ds_commands.specs.declared.reply.Reply.TheVariants.{Prints, Denies, Breaks, Spends}
use Rattle.ds_plan.specs.declared.doc.Doc.{Doc}
use Rattle.ds_doc.specs.declared.fault.DocFault.{DocFault}
use Rattle.ds_doc.specs.declared.fault.DocFault.TheVariants.{Refused, NoMemory}
use Rattle.ds_doc.specs.Reading.{Document}
use Rattle.ds_sim.specs.Sims.{IsTextOf}

-- For each secrecy category and hosts that are trusted for it, and for each other input that says a document, and each run that
-- it has: where both documents agree, the trusted hosts obey and nothing is forged, both texts are the same outside.
abbrev pub LooksTheSame : Doc → List Event → Type 0
LooksTheSame d one = (other : List ℕ) (e : Doc) (two : List Event) → Document other (Ok e) → IsScheduled e two →
    (c : Category) (trusted : List ℕ) → Both c trusted d one e two → outside_of d one c trusted ≡ outside_of e two c trusted

-- What a document's run delivers it delivers only where the sender's, the exporters' and the mailbox's rules hold.
abbrev pub IsDeliveredLawfully : Doc → List Event → Type 0
IsDeliveredLawfully d events = Lawful scheme (plan_of d) (start_of d) events

-- the bytes say a document, this is the text of its run, which delivers lawfully, and outside it looks as the texts of other runs do
pub record IsRunOf (bytes text : List ℕ) : Type 0 where
  pub document : Doc
  pub reads : Document bytes (Ok document)
  pub runs : IsTextOf document text
  pub lawful : IsDeliveredLawfully document runs.events
  pub outside : LooksTheSame document runs.events

-- the bytes break a rule of documents: the least code, and the least place where that rule is broken
abbrev pub IsRefused : List ℕ → (code place : ℕ) → Type 0
IsRefused bytes code place = Document bytes (Err (code, place))

-- why there is no text: a broken rule, or memory ran out
abbrev pub IsRefusedBy : List ℕ → DocFault → Type 0
IsRefusedBy bytes (Refused code place) = IsRefused bytes code place
IsRefusedBy bytes NoMemory = Unit {0}

-- the text of the run, or why there is none
unfoldable pub SimGives : List ℕ → Reply → Type 0
SimGives bytes (Prints text) = IsRunOf bytes text
SimGives bytes (Breaks code place) = IsRefused bytes code place
SimGives bytes (Denies text) = ⊥
SimGives bytes Spends = ⊥
