-- The histories of what a host's threads share, as a merge takes them.
use Rattle.std.specs.Prelude.{◌≡◌, ◌≢◌, ◌==◌, ℕ, suc, true, List, [], ◌∷◌, ◌++◌, map, All}
use Rattle.std.specs.Bool.{MatchBool}
use Rattle.std.specs.List.{AllPairs}
use Rattle.ds_script.specs.Replay.{rises}
use Rattle.ds_cert.specs.declared.lane.LaneCert.{LaneCert}
use Rattle.ds_share.specs.declared.entry.SpelledEntry.{SpelledEntry}
use Rattle.ds_share.specs.Entries.{SpellsBox, SpellsDesk, SpellsInlet, SpellsLane}
use Rattle.ds_merge.specs.declared.kept.ObjectName.{ObjectName}
use Rattle.ds_merge.specs.declared.kept.Kept.{Kept}
use Rattle.ds_merge.specs.declared.records.History.{History}
use Rattle.ds_turn.specs.declared.node.BoxSeat.{BoxSeat}
use Rattle.ds_turn.specs.declared.node.InletSeat.{InletSeat}
use Rattle.ds_turn.specs.declared.node.Node.{Node}
use Rattle.ds_turn.specs.Records.{box_name, desk_name, inlet_name, lane_name}

-- ---- the objects, by name

abbrev pub names_of_boxes : (host : ℕ) → List BoxSeat → List ObjectName
names_of_boxes host boxes = map (λ (b : BoxSeat). box_name host b.slot) boxes

-- lanes by their numbers, of which the first has this one
abbrev pub names_of_lanes : (host number : ℕ) → List LaneCert → List ObjectName
names_of_lanes host number [] = []
names_of_lanes host number (lane ∷ lanes) = lane_name host number ∷ names_of_lanes host (suc number) lanes

-- inlets by their places, of which the first has this one
abbrev pub names_of_inlets : (host place : ℕ) → List InletSeat → List ObjectName
names_of_inlets host place [] = []
names_of_inlets host place (seat ∷ seats) = inlet_name host place ∷ names_of_inlets host (suc place) seats

-- the desk, the mailboxes, the lanes and the inlets
abbrev pub objects_of : Node → List ObjectName
objects_of n =
    desk_name n.host
    ∷ (names_of_boxes n.host n.boxes.items ++ (names_of_lanes n.host 1 n.lanes.items ++ names_of_inlets n.host 0 n.inlets.items))

-- no two of them have one name
abbrev pub HaveOwnNames : Node → Type 0
HaveOwnNames n = AllPairs (λ a b. a ≢ b) (objects_of n)

-- ---- one history

abbrev pub object_in : History → ObjectName
object_in h = h.object

abbrev pub stamp_of : Kept → ℕ
stamp_of k = k.stamp

-- an entry of that object
abbrev pub kept_as : ObjectName → SpelledEntry → Kept
kept_as object e = record { object = object; stamp = e.stamp; who = e.who; act = e.act; body = e.body }

-- they spell the history of a desk (kind 1), a mailbox (2), a lane (3) or an inlet, which is the replay of it
abbrev pub SpellsKind : (kind : ℕ) → List SpelledEntry → Type 0
SpellsKind kind entries =
    MatchBool (kind == 1) (SpellsDesk entries)
    (MatchBool (kind == 2) (SpellsBox entries)
    (MatchBool (kind == 3) (SpellsLane entries) (SpellsInlet entries)))

-- Its entries are of its object, at stamps from 1 on that rise, and spell the history of an object of that kind.
pub record IsHistory (h : History) : Type 0 where
  pub object : All (λ k. k.object ≡ h.object) h.entries.items
  pub rising : rises stamp_of 0 h.entries.items ≡ true
  pub entries : List SpelledEntry
  pub kept : h.entries.items ≡ map (kept_as h.object) entries
  pub spells : SpellsKind h.object.kind entries

-- ---- a list of histories that grew by those of these objects

pub record HasMore (names : List ObjectName) (old new : List History) : Type 0 where
  pub objects : map object_in new ≡ map object_in old ++ names
  pub each : All IsHistory old → All IsHistory new
