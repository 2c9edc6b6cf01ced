-- Words of a line, piece by piece.
use Rattle.std.proofs.Common.{◌≡◌, ℕ, suc, ◌+◌, arith, List, [], ◌∷◌, ◌++◌, refl, sym, ap, ap₂, ◌∙◌, map, flat_map, length, append_assoc}
use Rattle.std.specs.Prelude.{codes, decimal}
use Rattle.std.proofs.lemmas.List.{append-nil, length-map}
use Rattle.ds_label.specs.declared.category.Category.{Category}
use Rattle.ds_label.specs.declared.rule.Rule.{Rule}
use Rattle.ds_label.specs.Rules.{rule_name}
use Rattle.ds_model.specs.Plan.{Plan, LanePlan}
use Rattle.ds_model.specs.World.{QueuedLine, FullLine, DroppedLine, Queue, Worker}
use Rattle.ds_model.specs.Print.{Printing, spaced, entry, rule_category, rule_text, lane_words, note_words, label_text, host_name, key_name, shown}
use Rattle.ds_script.specs.declared.note.Note.TheVariants as notes
use Rattle.ds_lane.specs.declared.batch.Waiting.{Waiting as SentMessage}
use Rattle.ds_exporter.specs.HostStates.{HostLane}
use Rattle.ds_exporter.specs.Merging.{Stamped, merged, entry_lines, worker_stamped, line_of, plain_waiting}
use Rattle.ds_exporter.specs.PlainHosts.{log_of, plain_queue, plain_worker, plan_of_lane}
use Rattle.ds_report.specs.Words.{behind_space, rule_words, refused_line}
use Rattle.ds_report.specs.Lanes.{lane_text, lane_head, lane_front, lane_pieces, lane_counts, dropped_line, waiting_line, lines_text, stamped_text}

-- a first word, and each other one behind a space
spaced_words : (word : List ℕ) (words : List (List ℕ)) → spaced (word ∷ words) ≡ word ++ flat_map behind_space words
spaced_words word [] = sym (append-nil word)
spaced_words word (next ∷ words) = ap (λ more. word ++ 32 ∷ more) (spaced_words next words)

-- and a last word
pub spaced_last : (word : List ℕ) (words : List (List ℕ)) (last : List ℕ) → spaced (word ∷ (words ++ last ∷ [])) ≡ (word ++ flat_map behind_space words) ++ 32 ∷ last
spaced_last word [] last = ap (λ front. front ++ 32 ∷ last) (sym (append-nil word))
spaced_last word (next ∷ words) last =
    ap (λ more. word ++ 32 ∷ more) (spaced_last next words last) ∙ sym (append_assoc word (32 ∷ (next ++ flat_map behind_space words)) (32 ∷ last))

-- what is refused by a rule
pub refused_words : (p : Printing) (plan : Plan) (rule : Rule) → entry (note_words p plan (notes.Refused rule)) ≡ refused_line p plan rule
refused_words p plan rule = ap (λ more. codes "  refused " ++ (more ++ 10 ∷ [])) (spaced_words (rule_name rule) (rule_category p plan rule))

dropped_pieces : (A rule sp from dot slot nl : List ℕ) → (A ++ (rule ++ (sp ++ (from ++ (dot ++ slot))))) ++ nl ≡ A ++ (rule ++ (sp ++ (from ++ (dot ++ (slot ++ nl)))))
dropped_pieces A rule sp from dot slot nl = simp append_assoc

-- what is dropped by a rule
pub dropped_words : (p : Printing) (plan : Plan) (rule : Rule) (from slot : ℕ) → entry (lane_words p plan (DroppedLine rule from slot)) ≡ dropped_line p plan rule from slot
dropped_words p plan rule from slot =
    ap (λ more. codes "  dropped " ++ (more ++ 10 ∷ [])) (spaced_last (rule_name rule) (rule_category p plan rule) (decimal from ++ 46 ∷ decimal slot))
    ∙ dropped_pieces (codes "  dropped ") (rule_words p plan rule) (32 ∷ []) (decimal from) (46 ∷ []) (decimal slot) (10 ∷ [])

waiting_pieces : (A from dot slot sp text nl : List ℕ) → (A ++ ((from ++ (dot ++ slot)) ++ (sp ++ text))) ++ nl ≡ A ++ (from ++ (dot ++ (slot ++ (sp ++ (text ++ nl)))))
waiting_pieces A from dot slot sp text nl = simp append_assoc

-- a message that is queued, and one that finds the lane full
pub queued_words : (p : Printing) (plan : Plan) (w : SentMessage) → entry (lane_words p plan (QueuedLine (plain_waiting w))) ≡ waiting_line (codes "  queued ") w
queued_words p plan w = waiting_pieces (codes "  queued ") (decimal w.from) (46 ∷ []) (decimal w.message.slot) (32 ∷ []) (shown w.message.payload) (10 ∷ [])

pub full_words : (p : Printing) (plan : Plan) (w : SentMessage) → entry (lane_words p plan (FullLine (plain_waiting w))) ≡ waiting_line (codes "  full ") w
full_words p plan w = waiting_pieces (codes "  full ") (decimal w.from) (46 ∷ []) (decimal w.message.slot) (32 ∷ []) (shown w.message.payload) (10 ∷ [])

-- a lane's counts
pub counts_of_lane : (l : HostLane) → lane_counts (plan_of_lane l) (plain_queue l) (plain_worker l)
    ≡ codes " room " ++ (decimal l.lane.room ++ (codes " waits " ++ (decimal (length l.lane.waiting) ++ (codes " hand " ++ (decimal (length l.worker.hand)
    ++ (codes " leaf " ++ (decimal l.worker.signing.next ++ (codes " bytes " ++ decimal (length l.worker.stream)))))))))
counts_of_lane l = rw (length-map l.lane.waiting plain_waiting, length-map l.worker.hand plain_waiting) refl

-- lines of entries with their stamps
lines_are : (p : Printing) (plan : Plan) (xs : List Stamped) → flat_map (λ x. entry (lane_words p plan x)) (map line_of xs) ≡ lines_text p plan xs
lines_are p plan [] = refl
lines_are p plan (x ∷ xs) = ap (λ more. stamped_text p plan x ++ more) (lines_are p plan xs)

all_pieces : (A h dot n B key C lb D ro E wa F ha G le H by I dg nl more : List ℕ) →
    ((A ++ ((h ++ (dot ++ n)) ++ (B ++ (key ++ (C ++ (lb ++ (D ++ (ro ++ (E ++ (wa ++ (F ++ (ha ++ (G ++ (le ++ (H ++ (by ++ (I ++ dg))))))))))))))))) ++ nl) ++ more
    ≡ ((A ++ (h ++ (dot ++ (n ++ (B ++ (key ++ C)))))) ++ (lb ++ ((D ++ (ro ++ (E ++ (wa ++ (F ++ (ha ++ (G ++ (le ++ (H ++ by))))))))) ++ I))) ++ (dg ++ (nl ++ more))
all_pieces A h dot n B key C lb D ro E wa F ha G le H by I dg nl more = simp append_assoc

-- a lane's section, in its pieces
pub section_of_lane : (p : Printing) (plan : Plan) (h place : ℕ) (l : HostLane) →
    lane_text p plan h place (plan_of_lane l) (plain_queue l) (plain_worker l) (log_of l) ≡ lane_pieces p plan h (place + 1) l
section_of_lane p plan h place l =
    let next : suc place ≡ place + 1 = omega arith in
    let q : Queue = plain_queue l in let e : Worker = plain_worker l in
    all_pieces (codes "lane ") (host_name p plan h) (46 ∷ []) (decimal (suc place)) (codes " to ") (key_name p plan l.lane.cert.receiver) (codes " label ") (label_text p plan l.lane.cert.label)
    (codes " room ") (decimal l.lane.room) (codes " waits ") (decimal (length q)) (codes " hand ") (decimal (length e.hand)) (codes " leaf ") (decimal e.leaf) (codes " bytes ") (decimal (length e.stream))
    (codes " stream ") (p.digest e.stream) (10 ∷ []) (flat_map (λ x. entry (lane_words p plan x)) (log_of l))
    ∙ (λ i. lane_front p plan h (next i) l ++ (p.digest l.worker.stream ++ (10 ∷ lines_are p plan (merged (flat_map entry_lines l.lane.history) (map worker_stamped l.worker.entries)) i)))
