-- Two documents that differ in what is high alone, and what the law over two runs says of their runs.
use Rattle.std.specs.Prelude.{◌≡◌, ℕ, Bool, true, false, List, [], map, Option, Some, None, slice_get}
use Rattle.ds_label.specs.declared.category.Category.{Category}
use Rattle.ds_label.specs.Names.{is_secrecy}
use Rattle.ds_model.specs.Plan.{Plan}
use Rattle.ds_model.specs.World.{World}
use Rattle.ds_model.specs.Step.{Event, run}
use Rattle.ds_model.specs.Views.{proc_at, view_of_proc, view_of_host}
use Rattle.ds_model.specs.Text.{Format}
use Rattle.ds_noninterference.specs.High.{is_in, high_at}
use Rattle.ds_noninterference.specs.Observations.{marks}
use Rattle.ds_noninterference.specs.Alike.{Alike, AlikeWorlds}
use Rattle.ds_noninterference.specs.Premises.{Obeys, Unforged}
use Rattle.ds_noninterference.specs.Outside.{outside_sections}
use Rattle.ds_scheme.specs.TheScheme.{scheme}
use Rattle.ds_plan.specs.declared.doc.Doc.{Doc}
use Rattle.ds_plan.specs.declared.host.HostSpec.{HostSpec}
use Rattle.ds_plan.specs.declared.process.ProcSpec.{ProcSpec}
use Rattle.ds_plan.specs.Documents.{IsDocument}
use Rattle.ds_setup.specs.Plans.{plan_of}
use Rattle.ds_setup.specs.Starts.{start_of}

-- DOCUMENTS THAT AGREE

abbrev pub without_procs : HostSpec → HostSpec
without_procs h = record h { procs = [] }

-- a document without its processes, its budget and its events
abbrev pub rest_of : Doc → Doc
rest_of d = record d { hosts = map without_procs d.hosts; budget = 0; events = None }

-- process p of a host that may not be there, as the document has it: script, made, label, ownership and clearance
abbrev pub spec_in : Option HostSpec → (proc : ℕ) → Option ProcSpec
spec_in None p = None
spec_in (Some h) p = slice_get h.procs p

-- process p of host h
abbrev pub spec_at : Doc → (host proc : ℕ) → Option ProcSpec
spec_at d h p = spec_in (slice_get d.hosts h) p

-- whether it is high at setup
abbrev pub high_at_setup : Category → (trusted : List ℕ) → Doc → (host proc : ℕ) → Bool
high_at_setup c trusted d h p = high_at c (is_in trusted h) (proc_at (start_of d) h p)

-- The documents are equal but for their budgets and events, and for processes that are high at both setups, place by
-- place.
pub record AgreeDocs (c : Category) (trusted : List ℕ) (d e : Doc) : Type 0 where
  pub rest : rest_of d ≡ rest_of e
  pub procs : (h p : ℕ) →
      Alike (high_at_setup c trusted d h p) (high_at_setup c trusted e h p) (spec_at d h p) (spec_at e h p)

-- such documents have one plan, and their worlds at the start are equal but for what is high
abbrev pub AgreeingSetups : Type 0
AgreeingSetups = (c : Category) (trusted : List ℕ) (d e : Doc) → AgreeDocs c trusted d e →
    (plan_of d ≡ plan_of e) × AlikeWorlds c trusted (plan_of d) (start_of d) (start_of e)

-- THEIR RUNS

-- Two runs of documents that agree, for a secrecy category, with equal observations once high ones are left out, of
-- trusted hosts that obey, with nothing forged.
pub record Both (c : Category) (trusted : List ℕ) (d : Doc) (one : List Event) (e : Doc) (two : List Event)
    : Type 0 where
  pub secret : is_secrecy c.kind ≡ true
  pub documents : AgreeDocs c trusted d e
  pub same_marks : marks scheme c trusted (plan_of d) (start_of d) one
      ≡ marks scheme c trusted (plan_of e) (start_of e) two
  pub obeys_one : Obeys scheme c trusted (plan_of d) (start_of d) one
  pub obeys_two : Obeys scheme c trusted (plan_of e) (start_of e) two
  pub unforged_one : Unforged scheme c trusted (plan_of d) (start_of d) one
  pub unforged_two : Unforged scheme c trusted (plan_of e) (start_of e) two

-- the world after the events
abbrev pub end_of : Doc → List Event → World
end_of d events = run scheme (plan_of d) (start_of d) events

-- a claim of the ends of each two such runs, each with its own plan
abbrev pub AtBothEnds : (Category → List ℕ → Plan → World → Plan → World → Type 0) → Type 0
AtBothEnds Claim = (c : Category) (trusted : List ℕ) (d : Doc) (one : List Event) (e : Doc) (two : List Event) →
    IsDocument d → IsDocument e → Both c trusted d one e two →
    Claim c trusted (plan_of d) (end_of d one) (plan_of e) (end_of e two)

-- each process that isn't high at the end of the first run has equal views
abbrev pub SameProcesses : Category → List ℕ → Plan → World → Plan → World → Type 0
SameProcesses c trusted plan v other w = (h p : ℕ) → high_at c (is_in trusted h) (proc_at v h p) ≡ false →
    view_of_proc v h p ≡ view_of_proc w h p

-- each host that isn't trusted has equal views
abbrev pub SameHosts : Category → List ℕ → Plan → World → Plan → World → Type 0
SameHosts c trusted plan v other w = (h : ℕ) → is_in trusted h ≡ false →
    view_of_host plan v h ≡ view_of_host other w h

-- the sections of both texts that aren't high are equal, however things are printed
abbrev pub SameSections : Category → List ℕ → Plan → World → Plan → World → Type 0
SameSections c trusted plan v other w = (f : Format) →
    outside_sections f c trusted plan v ≡ outside_sections f c trusted other w
