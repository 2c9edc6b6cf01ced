-- A document that was read lists events exactly where its value does.
use Rattle.std.proofs.Common.{◌≡◌, List, Option, Some, None, map, flat_map, take, option_map, refl, sym, ap, ◌∙◌, Ok}
use Rattle.std.specs.Prelude.{codes}
use Rattle.serde_json.specs.Data.{Data}
use Rattle.ds_plan.specs.declared.doc.Doc.{Doc}
use Rattle.ds_doc.specs.declared.fault.Fault.{Fault}
use Rattle.ds_doc.specs.declared.draft.Draft.{Draft}
use Rattle.ds_doc.specs.declared.draft.DraftEvent.{DraftEvent}
use Rattle.ds_doc.specs.Places.{Spot, items, member}
use Rattle.ds_doc.specs.Draft.{draft_by, draft_of, event_of, host_names}
use Rattle.ds_doc.specs.Values.{doc_by, doc_of, happening}
use Rattle.ds_doc.specs.Reading.{answer_by, answer_of, fault_of, root_of}
use Rattle.ds_doc.specs.Listing.{events_at}

-- a document's events are those of its draft
by_draft : (f : Option Fault) (draft : Draft) (doc : Doc) → answer_by f draft ≡ Ok doc → doc.events ≡ option_map (map happening) draft.events
unfolding doc_of doc_by
by_draft None draft doc e = let same : doc_of draft ≡ doc = cc in ap (λ (d : Doc). d.events) (sym same)
by_draft (Some f) draft doc e = absurd cc

none_drafted : (root : Spot) → member (codes "events") root ≡ None → (draft_of root).events ≡ None
unfolding draft_of draft_by
none_drafted root none = ap (λ (o : Option Spot). option_map (λ t. flat_map (event_of (host_names root)) (take 20000 (items t))) o) none

no_place : (o : Option Spot) → option_map (λ (s : Spot). s.at) o ≡ None → o ≡ None
no_place None e = refl
no_place (Some s) e = absurd cc

-- where the value lists none the document lists none
pub none_listed : (d : Data) (doc : Doc) → answer_of d ≡ Ok doc → events_at d ≡ None → doc.events ≡ None
unfolding answer_of
none_listed d doc e none =
    by_draft (fault_of d) (draft_of (root_of d)) doc e
    ∙ ap (λ (o : Option (List DraftEvent)). option_map (map happening) o) (none_drafted (root_of d) (no_place (member (codes "events") (root_of d)) none))
