-- A lane's section, by its part of the plan; and its entries by their stamps.
use Rattle.std.specs.Prelude.{ℕ, List, [], ◌∷◌, ◌++◌, length, map, nat_lt, flat_map, codes, decimal, if◌then◌else◌}
use Rattle.ds_label.specs.declared.category.PubKey.{PubKey}
use Rattle.ds_label.specs.declared.rule.Rule.{Rule}
use Rattle.ds_lane.specs.declared.batch.Waiting.{Waiting}
use Rattle.ds_model.specs.Plan.{Plan, LanePlan}
use Rattle.ds_model.specs.World.{Queue, Worker, LaneLine}
use Rattle.ds_model.specs.Print.{Printing, line, entry, host_name, lane_name, key_name, label_text, lane_words, shown}
use Rattle.ds_exporter.specs.HostStates.{HostLane}
use Rattle.ds_exporter.specs.Merging.{Stamped, merged, entry_lines, worker_stamped}
use Rattle.ds_exporter.specs.PlainHosts.{plan_of_lane, plain_queue, plain_worker}
use Rattle.ds_report.specs.Words.{rule_words}

-- a lane, with its entries
abbrev pub lane_text : Printing → Plan → (h l : ℕ) → LanePlan → Queue → Worker → List LaneLine → List ℕ
lane_text p plan h l lane q e log =
    line (codes "lane" ∷ lane_name p plan h l ∷ codes "to" ∷ key_name p plan lane.cert.receiver ∷ codes "label" ∷ label_text p plan lane.cert.label ∷ codes "room" ∷ decimal lane.room ∷ codes "waits" ∷ decimal (length q) ∷ codes "hand" ∷ decimal (length e.hand) ∷ codes "leaf" ∷ decimal e.leaf ∷ codes "bytes" ∷ decimal (length e.stream) ∷ codes "stream" ∷ p.digest e.stream ∷ [])
    ++ flat_map (λ x. entry (lane_words p plan x)) log

-- the front of its line
abbrev pub lane_head : Printing → Plan → (h number : ℕ) → (to : PubKey) → List ℕ
lane_head p plan h number to =
    codes "lane " ++ (host_name p plan h ++ 46 ∷ (decimal number ++ (codes " to " ++ (key_name p plan to ++ codes " label "))))

-- how much it has
abbrev pub lane_counts : LanePlan → Queue → Worker → List ℕ
lane_counts lane q e =
    codes " room " ++ (decimal lane.room ++ (codes " waits " ++ (decimal (length q) ++ (codes " hand " ++ (decimal (length e.hand)
    ++ (codes " leaf " ++ (decimal e.leaf ++ (codes " bytes " ++ decimal (length e.stream)))))))))

-- a message on it, behind a word
abbrev pub waiting_line : (word : List ℕ) → Waiting → List ℕ
waiting_line word w = word ++ (decimal w.from ++ 46 ∷ (decimal w.message.slot ++ 32 ∷ (shown w.message.payload ++ 10 ∷ [])))

-- a message that was dropped
abbrev pub dropped_line : Printing → Plan → Rule → (from slot : ℕ) → List ℕ
dropped_line p plan rule from slot =
    codes "  dropped " ++ (rule_words p plan rule ++ 32 ∷ (decimal from ++ 46 ∷ (decimal slot ++ 10 ∷ [])))

-- an entry's line, and those of entries
abbrev pub stamped_text : Printing → Plan → Stamped → List ℕ
stamped_text p plan x = entry (lane_words p plan x.line)

abbrev pub lines_text : Printing → Plan → List Stamped → List ℕ
lines_text p plan xs = flat_map (stamped_text p plan) xs

-- the entries that came before a stamp, and those behind them
abbrev pub before : (stamp : ℕ) → List Stamped → List Stamped
before stamp [] = []
before stamp (y ∷ ys) = if nat_lt y.stamp stamp then y ∷ before stamp ys else []

abbrev pub behind : (stamp : ℕ) → List Stamped → List Stamped
behind stamp [] = []
behind stamp (y ∷ ys) = if nat_lt y.stamp stamp then behind stamp ys else y ∷ ys

-- a lane's line up to its stream, and the whole section, piece by piece
abbrev pub lane_front : Printing → Plan → (h number : ℕ) → HostLane → List ℕ
lane_front p plan h number l =
    lane_head p plan h number l.lane.cert.receiver ++ (label_text p plan l.lane.cert.label ++ (lane_counts (plan_of_lane l) (plain_queue l) (plain_worker l) ++ codes " stream "))

abbrev pub lane_pieces : Printing → Plan → (h number : ℕ) → HostLane → List ℕ
lane_pieces p plan h number l =
    lane_front p plan h number l ++ (p.digest l.worker.stream ++ (10 ∷ lines_text p plan (merged (flat_map entry_lines l.lane.history) (map worker_stamped l.worker.entries))))
