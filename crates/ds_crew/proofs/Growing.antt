-- Lists that grow by one.
use Rattle.std.proofs.Common.{◌≡◌, ℕ, suc, ◌+◌, ◌<◌, ◌&&◌, true, List, [], ◌∷◌, ◌++◌, length, take, drop, map, refl, sym, ap, ◌∙◌, subst, arith}
use Rattle.std.specs.Prelude.{All, nat_lt, slice_index_or}
use Rattle.std.proofs.lemmas.List.{append_assoc, append-nil, drop_more, map-append, take_more}
use Rattle.std.proofs.lemmas.List.Elements.{All-push, All-nil, All-cons}
use Rattle.ds_script.specs.Replay.{rises}
use Rattle.ds_share.specs.declared.entry.SpelledEntry.{SpelledEntry}
use Rattle.ds_share.specs.Entries.{AreRising, stamp_of as spelled_stamp}
use Rattle.ds_merge.specs.declared.kept.ObjectName.{ObjectName}
use Rattle.ds_merge.specs.declared.kept.Kept.{Kept}
use Rattle.ds_merge.specs.declared.records.History.{History}
use Rattle.ds_cert.specs.declared.lane.LaneCert.{LaneCert}
use Rattle.ds_turn.specs.declared.node.BoxSeat.{BoxSeat}
use Rattle.ds_turn.specs.declared.node.InletSeat.{InletSeat}
use Rattle.ds_merge.specs.declared.records.ActorRecord.{ActorRecord}
use Rattle.ds_merge.specs.declared.recorded.Recorded.{Recorded}
use Rattle.ds_turn.specs.Records.{box_name, inlet_name, lane_name, stamp_of as event_stamp}
use Rattle.ds_crew.specs.ActorEvents.{ActorEvents, IsRising, of_record}
use Rattle.ds_crew.specs.Histories.{HasMore, IsHistory, SpellsKind, kept_as, names_of_boxes, names_of_inlets, names_of_lanes, object_in, stamp_of}

-- what is left to be made moves into what is made
pub moved_on : {X Z : Type 0} (f : X → Z) (out new : List X) (x : X) (left rest whole : List Z) → new ≡ out ++ x ∷ [] → left ≡ f x ∷ rest
    → map f out ++ left ≡ whole → map f new ++ rest ≡ whole
moved_on f out new x left rest whole grew is before =
    ap (λ ys. map f ys ++ rest) grew ∙ (ap (λ zs. zs ++ rest) (map-append f out (x ∷ [])) ∙ (append_assoc (map f out) (f x ∷ []) rest ∙ (ap (λ zs. map f out ++ zs) (sym is) ∙ before)))

-- the same without a view
pub moved : {Z : Type 0} (out new : List Z) (z : Z) (left rest whole : List Z) → new ≡ out ++ z ∷ [] → left ≡ z ∷ rest → out ++ left ≡ whole → new ++ rest ≡ whole
moved out new z left rest whole grew is before = ap (λ zs. zs ++ rest) grew ∙ (append_assoc out (z ∷ []) rest ∙ (ap (λ zs. out ++ zs) (sym is) ∙ before))

-- ---- records

-- the next actor's record
pub records_on : (old new : List ActorRecord) (r : ActorRecord) (a : ActorEvents) (left rest whole : List ActorEvents) → new ≡ old ++ r ∷ [] → left ≡ a ∷ rest → r.who ≡ a.who → r.events.items ≡ a.events
    → map of_record old ++ left ≡ whole → map of_record new ++ rest ≡ whole
records_on old new r a left rest whole grew is who events before =
    moved_on of_record old new r left rest whole grew (is ∙ λ i. record { who = sym who i; events = sym events i } ∷ rest) before

pub rising_on : (first old new : List ActorRecord) (r : ActorRecord) (events : List Recorded) → new ≡ old ++ r ∷ [] → r.events.items ≡ events → rises event_stamp 0 events ≡ true
    → (All IsRising first → All IsRising old) → All IsRising first → All IsRising new
rising_on first old new r events grew is up before all = subst (All IsRising) (sym grew) (All-push IsRising old r (before all) (ap (rises event_stamp 0) is ∙ up))

-- ---- histories

kept_rising : (object : ObjectName) (base : ℕ) (es : List SpelledEntry) → rises spelled_stamp base es ≡ rises stamp_of base (map (kept_as object) es)
kept_rising object base [] = refl
kept_rising object base (e ∷ es) = ap (λ b. nat_lt base e.stamp && b) (kept_rising object e.stamp es)

kept_objects : (object : ObjectName) (es : List SpelledEntry) → All (λ k. k.object ≡ object) (map (kept_as object) es)
kept_objects object [] = All-nil (λ (k : Kept). k.object ≡ object)
kept_objects object (e ∷ es) = All-cons (λ (k : Kept). k.object ≡ object) (kept_as object e) (map (kept_as object) es) refl (kept_objects object es)

pub is_history : (h : History) (es : List SpelledEntry) → h.entries.items ≡ map (kept_as h.object) es → AreRising es → SpellsKind h.object.kind es → IsHistory h
is_history h es kept rising spells = record {
  object = subst (All (λ (k : Kept). k.object ≡ h.object)) (sym kept) (kept_objects h.object es);
  rising = ap (rises stamp_of 0) kept ∙ (sym (kept_rising h.object 0 es) ∙ rising);
  entries = es;
  kept = kept;
  spells = spells;
}

-- one history more
pub one_more : (old new : List History) (h : History) → new ≡ old ++ h ∷ [] → IsHistory h → HasMore (h.object ∷ []) old new
one_more old new h grew is = record {
  objects = ap (map object_in) grew ∙ map-append object_in old (h ∷ []);
  each = λ all. subst (All IsHistory) (sym grew) (All-push IsHistory old h all is);
}

-- and then others
pub then_more : (xs ys : List ObjectName) (a b c : List History) → HasMore xs a b → HasMore ys b c → HasMore (xs ++ ys) a c
then_more xs ys a b c p q = record {
  objects = q.objects ∙ (ap (λ zs. zs ++ ys) p.objects ∙ append_assoc (map object_in a) xs ys);
  each = λ all. q.each (p.each all);
}

pub no_more : (a : List History) → HasMore [] a a
no_more a = record { objects = sym (append-nil (map object_in a)); each = λ all. all }

-- the next mailbox
pub boxes_on : (host i : ℕ) (seats : List BoxSeat) (seat : BoxSeat) (a b c : List History) → i < length seats → seat ≡ slice_index_or seats i seat → HasMore (names_of_boxes host (take i seats)) a b → HasMore (box_name host seat.slot ∷ []) b c
    → HasMore (names_of_boxes host (take (i + 1) seats)) a c
boxes_on host i seats seat a b c within is p q =
    subst (λ (names : List ObjectName). HasMore names a c)
    (sym (ap (names_of_boxes host) (take_more seats i seat within ∙ ap (λ (s : BoxSeat). take i seats ++ s ∷ []) (sym is)) ∙ map-append (λ (s : BoxSeat). box_name host s.slot) (take i seats) (seat ∷ [])))
    (then_more (names_of_boxes host (take i seats)) (box_name host seat.slot ∷ []) a b c p q)

-- what is made and what is left, one history on
pub names_on : (b c : List History) (name : ObjectName) (left rest whole : List ObjectName) → HasMore (name ∷ []) b c → left ≡ name ∷ rest → map object_in b ++ left ≡ whole → map object_in c ++ rest ≡ whole
names_on b c name left rest whole more is before = moved (map object_in b) (map object_in c) name left rest whole more.objects is before

next_is : (number next : ℕ) → next ≡ number + 1 → suc number ≡ next
next_is number next more = omega (arith, more)

pub lanes_left : (host number next i : ℕ) (lanes : List LaneCert) (lane : LaneCert) → i < length lanes → next ≡ number + 1
    → names_of_lanes host number (drop i lanes) ≡ lane_name host number ∷ names_of_lanes host next (drop (i + 1) lanes)
lanes_left host number next i lanes lane within more =
    ap (names_of_lanes host number) (drop_more lanes i lane within) ∙ ap (λ n. lane_name host number ∷ names_of_lanes host n (drop (i + 1) lanes)) (next_is number next more)

pub inlets_left : (host place next i : ℕ) (seats : List InletSeat) (seat : InletSeat) → i < length seats → next ≡ place + 1
    → names_of_inlets host place (drop i seats) ≡ inlet_name host place ∷ names_of_inlets host next (drop (i + 1) seats)
inlets_left host place next i seats seat within more =
    ap (names_of_inlets host place) (drop_more seats i seat within) ∙ ap (λ n. inlet_name host place ∷ names_of_inlets host n (drop (i + 1) seats)) (next_is place next more)

-- all of them
pub all_histories : (a b c d : List History) (desk : ObjectName) (boxes lanes inlets : List ObjectName) → HasMore (desk ∷ []) [] a → HasMore boxes a b → HasMore lanes b c → HasMore inlets c d → HasMore (desk ∷ (boxes ++ (lanes ++ inlets))) [] d
all_histories a b c d desk boxes lanes inlets p q r s =
    then_more (desk ∷ []) (boxes ++ (lanes ++ inlets)) [] a d p (then_more boxes (lanes ++ inlets) a b d q (then_more lanes inlets b c d r s))
