-- Where there are few address certificates, each host has room.
use Rattle.std.proofs.Common.{◌≡◌, ◌≤◌, ℕ, suc, ◌+◌, List, [], ◌∷◌, ◌++◌, length, flat_map, bytes_eq, Bool, true, false, None, refl, arith, if◌then◌else◌}
use Rattle.std.proofs.lemmas.Bool.{le-leb}
use Rattle.ds_plan.specs.Documents.{each_once, has_at_most, is_among, is_silent}
use Rattle.ds_doc.specs.declared.fault.Fault.{Fault}
use Rattle.ds_doc.specs.declared.draft.Draft.{Draft}
use Rattle.ds_doc.specs.declared.draft.DraftHost.{DraftHost}
use Rattle.ds_doc.specs.declared.rules.facts.GivenAt.{GivenAt}
use Rattle.ds_doc.specs.Shapes.{unless, least}
use Rattle.ds_doc.specs.Rules.{each_place, no_room, no_room_at, with_bytes, over_full, given_in, host_address}
use Rattle.ds_doc.proofs.Whole.{once_length, all_made_length}

none_there : (here : ℕ) (kept : List (List ℕ)) (gs : List GivenAt) → length kept + length gs ≤ 64 → no_room here kept gs ≡ []
none_there here kept [] few = refl
none_there here kept (g ∷ gs) few =
    let wider = once_length kept (g.bytes ∷ []) in
    let fits : has_at_most 64 (with_bytes kept g.bytes) ≡ true = le-leb _ _ (omega (arith, few, wider)) in
    by_place (is_among here g.keepers) (unless (has_at_most 64 (with_bytes kept g.bytes)) 5 g.at) (no_room here (with_bytes kept g.bytes) gs) (no_room here kept gs) (rw fits refl)
    (none_there here (with_bytes kept g.bytes) gs (omega (arith, few, wider))) (none_there here kept gs (omega (arith, few)))
  where
    by_place : (b : Bool) (one now later : List Fault) → one ≡ [] → now ≡ [] → later ≡ [] → (if b then one ++ now else later) ≡ []
    by_place true one now later e f g = rw (e, f) refl
    by_place false one now later e f g = g

none_at : (made : List (List ℕ)) (gs : List GivenAt) (here : ℕ) (h : DraftHost) → length made + length gs ≤ 64 → no_room_at made gs here h ≡ []
none_at made gs here h few = by_silence (is_silent h.secret.value) (none_there here made gs few)
  where
    by_silence : (b : Bool) → no_room here made gs ≡ [] → (if b then [] else no_room here made gs) ≡ []
    by_silence true e = refl
    by_silence false e = e

none_in : (made : List (List ℕ)) (gs : List GivenAt) (place : ℕ) (hs : List DraftHost) → length made + length gs ≤ 64 → each_place (no_room_at made gs) place hs ≡ []
none_in made gs place [] few = refl
none_in made gs place (h ∷ hs) few = rw (none_at made gs place h few, none_in made gs (suc place) hs few) refl

pub room_enough : (d : Draft) → length d.hosts + length (flat_map given_in d.certs) ≤ 64 → None ≡ least (over_full d)
unfolding over_full
room_enough d few =
    let made = flat_map host_address d.hosts in
    rw (none_in (each_once bytes_eq [] made) (flat_map given_in d.certs) 0 d.hosts (omega (arith, few, once_length [] made, all_made_length d.hosts))) refl
