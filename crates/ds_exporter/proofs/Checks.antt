-- What the desk's judgement of a worker's hand does to a lane.
use Rattle.std.proofs.Common.{◌≡◌, ℕ, suc, ◌+◌, List, [], ◌∷◌, ◌++◌, Option, Some, None, length, map, refl, sym, ap, ◌∙◌, arith}
use Rattle.std.specs.Prelude.{All}
use Rattle.std.proofs.lemmas.List.{append-nil, length-map}
use Rattle.ds_label.specs.declared.rule.Rule.{Rule}
use Rattle.ds_cert.specs.declared.lane.LaneCert.{LaneCert}
use Rattle.ds_label.specs.declared.category.PubKey.{PubKey}
use Rattle.ds_label.specs.declared.category.Category.{Category}
use Rattle.ds_msg.specs.declared.message.Message.{Message}
use Rattle.ds_model.specs.Desk.{Desk}
use Rattle.ds_model.specs.ExporterRules.{sender_rule}
use Rattle.ds_model.specs.World.{LaneLine, FramedLine, DroppedLine, Waiting as PlainWaiting}
use Rattle.ds_model.specs.WorkerStep.{frame_rule, still_good, rechecked, with_frame, checked_after_reply, dropped_lines, framed_line, checked_lines}
use Rattle.ds_desk.specs.Signing.{signing_of}
use Rattle.ds_lane.specs.declared.batch.Waiting.{Waiting}
use Rattle.ds_lane.specs.Lanes.{WaitsOn}
use Rattle.ds_lane.specs.Workers.{dropped_entry, framed_entry, frame_of}
use Rattle.ds_scheme.specs.TheScheme.{scheme}
use Rattle.ds_scheme.proofs.Parts.{same_frame}
use Rattle.ds_exporter.specs.HostStates.{HostLane}
use Rattle.ds_exporter.specs.Merging.{plain_waiting, worker_stamped, line_of}
use Rattle.ds_exporter.specs.PlainHosts.{plain_worker, log_of, plan_of_lane}
use Rattle.ds_exporter.specs.Checking.{lane_rule, checked_as}
use Rattle.ds_exporter.specs.Stamping.{IsLaneBefore}
use Rattle.ds_exporter.proofs.Merged.{At, lines_more}

abbrev pub plain_hand : List Waiting → List PlainWaiting
plain_hand hand = map plain_waiting hand

-- each message of the hand is judged alike
module _ (d : Desk) (cert : LaneCert) where
  one_rule : (w : Waiting) → WaitsOn cert w → frame_rule scheme d (plain_waiting w) ≡ lane_rule d cert
  one_rule w on =
      ap (λ (to : PubKey). sender_rule scheme d.addresses d.store d.moment to w.message.label) on.to
      ∙ ap (λ (label : List Category). sender_rule scheme d.addresses d.store d.moment cert.receiver label) on.label

  -- as a hand of which each message has this rule
  abbrev rules_of : Option Rule → List Waiting → List (Option Rule)
  rules_of rule [] = []
  rules_of rule (w ∷ hand) = rule ∷ rules_of rule hand

  all_one : (hand : List Waiting) (rule : Option Rule) → All (WaitsOn cert) hand → lane_rule d cert ≡ rule → rechecked scheme d (plain_hand hand) ≡ rules_of rule hand
  all_one [] rule on is = refl
  all_one (w ∷ hand) rule on is =
      let first = one_rule w (on 0 w (omega arith)) ∙ is in
      let later = all_one hand rule (λ k c v. on (suc k) c (omega (arith, v))) is in
      λ i. first i ∷ later i

  good_none : (hand : List Waiting) → still_good (rules_of None hand) (plain_hand hand) ≡ plain_hand hand
  good_none [] = refl
  good_none (w ∷ hand) = ap (λ (ws : List PlainWaiting). plain_waiting w ∷ ws) (good_none hand)

  good_some : (hand : List Waiting) (rule : Rule) → still_good (rules_of (Some rule) hand) (plain_hand hand) ≡ []
  good_some [] rule = refl
  good_some (w ∷ hand) rule = good_some hand rule

  lines_none : (hand : List Waiting) → dropped_lines (rules_of None hand) (plain_hand hand) ≡ []
  lines_none [] = refl
  lines_none (w ∷ hand) = lines_none hand

  lines_some : (stamp : ℕ) (hand : List Waiting) (rule : Rule) → dropped_lines (rules_of (Some rule) hand) (plain_hand hand) ≡ map line_of (map worker_stamped (map (dropped_entry stamp rule) hand))
  lines_some stamp [] rule = refl
  lines_some stamp (w ∷ hand) rule = ap (λ (ls : List LaneLine). DroppedLine rule w.from w.message.slot ∷ ls) (lines_some stamp hand rule)

  pub all_pass : (hand : List Waiting) → All (WaitsOn cert) hand → lane_rule d cert ≡ None → still_good (rechecked scheme d (plain_hand hand)) (plain_hand hand) ≡ plain_hand hand
  all_pass hand on none = ap (λ (rules : List (Option Rule)). still_good rules (plain_hand hand)) (all_one hand None on none) ∙ good_none hand

  pub none_passes : (hand : List Waiting) (rule : Rule) → All (WaitsOn cert) hand → lane_rule d cert ≡ Some rule → still_good (rechecked scheme d (plain_hand hand)) (plain_hand hand) ≡ []
  none_passes hand rule on some = ap (λ (rules : List (Option Rule)). still_good rules (plain_hand hand)) (all_one hand (Some rule) on some) ∙ good_some hand rule

  pub no_lines : (hand : List Waiting) → All (WaitsOn cert) hand → lane_rule d cert ≡ None → dropped_lines (rechecked scheme d (plain_hand hand)) (plain_hand hand) ≡ []
  no_lines hand on none = ap (λ (rules : List (Option Rule)). dropped_lines rules (plain_hand hand)) (all_one hand None on none) ∙ lines_none hand

  pub all_lines : (stamp : ℕ) (hand : List Waiting) (rule : Rule) → All (WaitsOn cert) hand → lane_rule d cert ≡ Some rule
      → dropped_lines (rechecked scheme d (plain_hand hand)) (plain_hand hand) ≡ map line_of (map worker_stamped (map (dropped_entry stamp rule) hand))
  all_lines stamp hand rule on some = ap (λ (rules : List (Option Rule)). dropped_lines rules (plain_hand hand)) (all_one hand (Some rule) on some) ∙ lines_some stamp hand rule

-- THE WORKER

messages : (hand : List Waiting) → map (λ (w : PlainWaiting). w.message) (plain_hand hand) ≡ map (λ (w : Waiting). w.message) hand
messages [] = refl
messages (w ∷ hand) = ap (λ (ms : List Message). w.message ∷ ms) (messages hand)

module _ (d : Desk) (l : HostLane) (w : Waiting) (rest : List Waiting) (some : l.worker.hand ≡ w ∷ rest) (on : All (WaitsOn l.worker.cert) l.worker.hand) where
  -- what the desk answers of the hand
  abbrev rules : List (Option Rule)
  rules = rechecked scheme d (plain_hand l.worker.hand)

  good_passes : lane_rule d l.worker.cert ≡ None → still_good rules (plain_hand l.worker.hand) ≡ plain_hand (w ∷ rest)
  good_passes none = all_pass d l.worker.cert l.worker.hand on none ∙ ap plain_hand some

  stream_passes : scheme.frame (signing_of l.worker.signing.key) l.worker.signing.next (map (λ (v : PlainWaiting). v.message) (plain_hand (w ∷ rest))) ≡ frame_of l.worker.signing l.worker.hand
  stream_passes =
      ap (scheme.frame (signing_of l.worker.signing.key) l.worker.signing.next) (messages (w ∷ rest))
      ∙ (same_frame l.worker.signing (w ∷ rest) ∙ ap (frame_of l.worker.signing) (sym some))

  pub worker_passes : (stamp : ℕ) → lane_rule d l.worker.cert ≡ None → plain_worker (checked_as stamp None l) ≡ checked_after_reply scheme (plan_of_lane l) rules (plain_worker l)
  worker_passes stamp none =
      let one : l.worker.signing.next + 1 ≡ suc l.worker.signing.next = omega arith in
      (λ i. record { hand = []; leaf = one i; stream = l.worker.stream ++ sym stream_passes i })
      ∙ ap (with_frame scheme (plan_of_lane l) (plain_worker l)) (sym (good_passes none))

  pub worker_drops : (stamp : ℕ) (rule : Rule) → lane_rule d l.worker.cert ≡ Some rule → plain_worker (checked_as stamp (Some rule) l) ≡ checked_after_reply scheme (plan_of_lane l) rules (plain_worker l)
  worker_drops stamp rule fails = ap (with_frame scheme (plan_of_lane l) (plain_worker l)) (sym (none_passes d l.worker.cert l.worker.hand rule on fails))

  -- THE LOG

  at_dropped : (stamp : ℕ) (rule : Rule) (hand : List Waiting) → At stamp (map worker_stamped (map (dropped_entry stamp rule) hand))
  at_dropped stamp rule [] = tt
  at_dropped stamp rule (v ∷ hand) = (refl, at_dropped stamp rule hand)

  pub log_passes : (stamp : ℕ) → IsLaneBefore stamp l → lane_rule d l.worker.cert ≡ None → log_of (checked_as stamp None l) ≡ log_of l ++ checked_lines rules (plain_worker l)
  log_passes stamp below none =
      let lines = lines_more stamp l.lane.history l.worker.entries (framed_entry stamp l.worker.signing.next (length l.worker.hand) ∷ []) below.senders (refl, tt) in
      let count : length l.worker.hand ≡ length (plain_hand (w ∷ rest)) = ap length some ∙ sym (length-map (w ∷ rest) plain_waiting) in
      let framed = sym (λ i. no_lines d l.worker.cert l.worker.hand on none i ++ framed_line l.worker.signing.next (good_passes none i)) in
      lines ∙ (ap (λ (n : ℕ). log_of l ++ FramedLine l.worker.signing.next n ∷ []) count ∙ ap (λ (ls : List LaneLine). log_of l ++ ls) framed)

  pub log_drops : (stamp : ℕ) (rule : Rule) → IsLaneBefore stamp l → lane_rule d l.worker.cert ≡ Some rule → log_of (checked_as stamp (Some rule) l) ≡ log_of l ++ checked_lines rules (plain_worker l)
  log_drops stamp rule below fails =
      let lines = lines_more stamp l.lane.history l.worker.entries (map (dropped_entry stamp rule) l.worker.hand) below.senders (at_dropped stamp rule l.worker.hand) in
      let dropped = all_lines d l.worker.cert stamp l.worker.hand rule on fails in
      let all : map line_of (map worker_stamped (map (dropped_entry stamp rule) l.worker.hand)) ≡ checked_lines rules (plain_worker l) =
      sym dropped ∙ (sym (append-nil (dropped_lines rules (plain_hand l.worker.hand)))
      ∙ ap (λ (good : List PlainWaiting). dropped_lines rules (plain_hand l.worker.hand) ++ framed_line l.worker.signing.next good) (sym (none_passes d l.worker.cert l.worker.hand rule on fails))) in
      lines ∙ ap (λ (ls : List LaneLine). log_of l ++ ls) all
