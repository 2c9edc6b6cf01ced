use Rattle.std.proofs.Common.{◌≡◌, ◌++◌, ◌∷◌, [], length, take, refl, sym, ap, ◌∙◌, subst, All, slice_index_or}
use Rattle.std.specs.Prelude.{unwrap_or}
use Rattle.std.proofs.lemmas.List.{take_all, take_more}
use Rattle.std.proofs.lemmas.Option.{slice_get_read}
use Rattle.ds_merge.specs.Tables.{events_of, IsPlace}
use Rattle.ds_merge.proofs.Spots.{push_list, push_all}
use Rattle.ds_merge.proofs.order.push_places.Goals as goal

pub loop-at-preserved : goal.loop-at-preserved
loop-at-preserved c =
    let records = c.args.records.now in
    let events = c.as_slice-events.result.now in
    let r = slice_index_or records c.args.record_place c.index-records-record_place.result in
    let is_here : r ≡ slice_index_or records c.args.record_place r = ap (λ d. slice_index_or records c.args.record_place d) c.index-records-record_place.is in
    let value : events ≡ r.events.items = c.as_slice-events.ensures.value in
    let e = c.index-events-at.result in
    let found = slice_get_read records (length records) c.args.record_place r refl c.requires.inside is_here in
    let there = slice_get_read events (length events) c.loop-at.at e refl c.loop-at-test.true c.index-events-at.is in
    let more = take_more events c.loop-at.at e c.loop-at-test.true ∙ ap (λ x. take c.loop-at.at events ++ x ∷ []) (sym c.index-events-at.is) in (
      ap (events_of records) c.in_ok-push.ensures.items
          ∙ push_list records c.args.record_place c.loop-at.at r events e (events_of records c.args.places.now.items) c.loop-at.places.items found value there more c.loop-at.invariant.0,
      subst (All (IsPlace records)) (sym c.in_ok-push.ensures.items)
          (push_all records c.args.record_place c.loop-at.at r events e c.loop-at.places.items found value there c.loop-at.invariant.1),
    )

pub returns-clause-list : goal.returns-clause-list
returns-clause-list c = λ r found.
    let records = c.args.records.now in
    let events = c.as_slice-events.result.now in
    let s = slice_index_or records c.args.record_place c.index-records-record_place.result in
    let is_here : s ≡ slice_index_or records c.args.record_place s = ap (λ d. slice_index_or records c.args.record_place d) c.index-records-record_place.is in
    let here = slice_get_read records (length records) c.args.record_place s refl c.requires.inside is_here in
    let same : s ≡ r = ap (λ o. unwrap_or o r) (sym here ∙ found) in
    c.loop-at.invariant.0
    ∙ ap (λ xs. events_of records c.args.places.now.items ++ xs) (take_all c.loop-at.at events c.loop-at-test.false ∙ c.as_slice-events.ensures.value ∙ ap (λ x. x.events.items) same)
