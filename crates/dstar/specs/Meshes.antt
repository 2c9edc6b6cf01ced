-- What `mesh` promises.
use Rattle.std.specs.Prelude.{◌≡◌, ◌⊎◌, ℕ, List, [], ◌∷◌, codes, map, Bool, false, None, Ok}
use Rattle.ds_base.specs.Counts.{Rose, Appended}
use Rattle.ds_label.specs.declared.category.Category.{Category}
use Rattle.ds_model.specs.Step.{Event}
use Rattle.ds_law.specs.TwoDocuments.{Both}
use Rattle.ds_sim.specs.Outside.{outside_of}
use Rattle.ds_setup.specs.Events.{meant}
use Rattle.ds_plan.specs.declared.doc.Doc.{Doc}
use Rattle.ds_doc.specs.declared.fault.DocFault.{DocFault}
use Rattle.ds_doc.specs.declared.fault.DocFault.TheVariants.{Refused, NoMemory}
use Rattle.ds_doc.specs.Reading.{Document}
use Rattle.ds_doc.specs.Listing.{SaysEvents}
use Rattle.ds_mesh.specs.Meshes.{IsMeshTextOf}
use Rattle.dstar.specs.declared.status.Status.{Status}
use Rattle.dstar.specs.declared.status.Status.TheVariants as ends
use Rattle.dstar.specs.Outside.{WroteFront}
use Rattle.dstar.specs.Causes.{Observed, Overran, ReadWhole, WroteNothing}
use Rattle.dstar.specs.Sims.{IsRefused}
use Rattle.dstar.specs.Words.{same_text}

-- `mesh` alone
abbrev pub is_mesh : List (List ℕ) → Bool
is_mesh [] = false
is_mesh (word ∷ []) = same_text word (codes "mesh")
is_mesh (word ∷ other ∷ others) = false

-- For each secrecy category and hosts that are trusted for it, and for each other input that says a document, and each run of it by
-- whatever events: where both documents agree, the trusted hosts obey and nothing is forged, both texts are the same outside.
abbrev pub LooksTheSameBy : Doc → List Event → Type 0
LooksTheSameBy d one = (other : List ℕ) (e : Doc) (two : List Event) → Document other (Ok e) →
    (c : Category) (trusted : List ℕ) → Both c trusted d one e two → outside_of d one c trusted ≡ outside_of e two c trusted

-- The bytes say a document that lists no events, this is the text of a run of its hosts in threads, which delivers lawfully, and
-- outside it looks as the texts of other runs do.
pub record IsMeshOf (bytes text : List ℕ) : Type 0 where
  pub document : Doc
  pub reads : Document bytes (Ok document)
  pub free : document.events ≡ None
  pub runs : IsMeshTextOf document text
  pub outside : LooksTheSameBy document (map meant runs.events)

-- the bytes break a rule of documents, or say a document that lists events
abbrev pub IsRefusedForMesh : List ℕ → (code place : ℕ) → Type 0
IsRefusedForMesh bytes code place = IsRefused bytes code place ⊎ SaysEvents bytes code place

-- why there is no text
abbrev pub IsRefusedForMeshBy : List ℕ → DocFault → Type 0
IsRefusedForMeshBy bytes (Refused code place) = IsRefusedForMesh bytes code place
IsRefusedForMeshBy bytes NoMemory = Unit {0}

-- HOW THE CALL ENDS

-- the text was written
pub record MeshWrote (m : Observed) : Type 0 where
  pub bytes : List ℕ
  pub whole : ReadWhole m bytes
  pub text : List ℕ
  pub mesh : IsMeshOf bytes text
  pub wrote : Appended m.written text m.written_after

-- the output failed, and some front of the text was written
pub record MeshStopped (m : Observed) : Type 0 where
  pub bytes : List ℕ
  pub whole : ReadWhole m bytes
  pub text : List ℕ
  pub mesh : IsMeshOf bytes text
  pub failed : Rose m.write_faults m.write_faults_after
  pub wrote : WroteFront m.written text m.written_after

-- nothing was written, since the input is refused
pub record MeshRefused (m : Observed) (code place : ℕ) : Type 0 where
  pub bytes : List ℕ
  pub whole : ReadWhole m bytes
  pub refused : IsRefusedForMesh bytes code place
  pub silent : WroteNothing m

-- the causes of a call
abbrev pub MeshCaused : Observed → Status → Type 0
MeshCaused m ends.Ok = MeshWrote m
MeshCaused m ends.Usage = ⊥
MeshCaused m ends.ReadFault = Rose m.read_faults m.read_faults_after × WroteNothing m
MeshCaused m ends.WriteFault = MeshStopped m
MeshCaused m ends.TooLong = Overran m
MeshCaused m (ends.Document code place) = MeshRefused m code place
MeshCaused m ends.NoMemory = WroteNothing m
MeshCaused m ends.KeeperFault = ⊥
MeshCaused m ends.Spent = ⊥
MeshCaused m ends.WireFault = ⊥
MeshCaused m ends.No = ⊥
