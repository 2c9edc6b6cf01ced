-- What is left of a run's text for those who are outside a category.
use Rattle.std.specs.Prelude.{◌≡◌, ℕ, List}
use Rattle.ds_label.specs.declared.category.Category.{Category}
use Rattle.ds_plan.specs.declared.doc.Doc.{Doc}
use Rattle.ds_plan.specs.Documents.{IsDocument}
use Rattle.ds_model.specs.Step.{Event}
use Rattle.ds_model.specs.Print.{printed}
use Rattle.ds_noninterference.specs.Outside.{outside_sections}
use Rattle.ds_setup.specs.Plans.{plan_of}
use Rattle.ds_law.specs.TwoDocuments.{Both, end_of}
use Rattle.ds_report.specs.Printings.{printing_of}

-- the sections of the text that aren't high for a category, with these hosts trusted for it
abbrev pub outside_of : Doc → List Event → Category → (trusted : List ℕ) → List (List ℕ)
outside_of d events c trusted = outside_sections (printed (printing_of d) (plan_of d)) c trusted (plan_of d) (end_of d events)

-- Two runs of documents that agree, for a secrecy category, with equal observations, of trusted hosts that obey, with nothing
-- forged, look the same outside.
abbrev pub RunsLookTheSame : Type 0
RunsLookTheSame = (c : Category) (trusted : List ℕ) (d : Doc) (one : List Event) (e : Doc) (two : List Event) →
    IsDocument d → IsDocument e → Both c trusted d one e two → outside_of d one c trusted ≡ outside_of e two c trusted
