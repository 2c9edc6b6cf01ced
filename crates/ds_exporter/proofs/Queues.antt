-- A message that is queued.
use Rattle.std.proofs.Common.{◌≡◌, ℕ, suc, ◌+◌, ◌<◌, Bool, true, false, cond, List, [], ◌∷◌, ◌++◌, Some, None, length, map, refl, sym, ap, ◌∙◌, arith}
use Rattle.std.specs.Prelude.{not, nat_lt, position, All, if◌then◌else◌}
use Rattle.std.specs.List.{flat_map, prefix_len}
use Rattle.std.proofs.lemmas.List.{append-nil, map-append, length-map}
use Rattle.std.proofs.lemmas.Grind.{flat_map-append}
use Rattle.std.proofs.lemmas.Bool.Decides.{nat_tests}
use Rattle.ds_script.specs.declared.actor.Actor.{Actor}
use Rattle.ds_msg.specs.declared.message.Message.{Message}
use Rattle.ds_model.specs.Lane.{admit_entry, admit, lane_after, Queued as QueuedOne, QueueFull}
use Rattle.ds_model.specs.World.{LaneLine, QueuedLine, FullLine}
use Rattle.ds_model.specs.WorkerStep.{admitted_line}
use Rattle.ds_lane.specs.declared.batch.Waiting.{Waiting}
use Rattle.ds_lane.specs.declared.worker_entry.WorkerEntry.{WorkerEntry}
use Rattle.ds_lane.specs.Lanes.{entry_of, sent_by}
use Rattle.ds_exporter.specs.HostStates.{HostLane}
use Rattle.ds_exporter.specs.Merging.{Stamped, entry_lines, worker_stamped, woven, merged, line_of, plain_waiting}
use Rattle.ds_exporter.specs.PlainHosts.{plain_queue, log_of}
use Rattle.ds_exporter.specs.Queueing.{admitted_lane}
use Rattle.ds_exporter.specs.Stamping.{IsLaneBefore}
use Rattle.ds_exporter.proofs.Merged.{Below}

-- the first place, by what is seen
prefix_seen : {X Y : Type 0} (g : X → Y) (p : Y → Bool) (xs : List X) → prefix_len (λ x. p (g x)) xs ≡ prefix_len p (map g xs)
prefix_seen g p [] = refl
prefix_seen g p (x ∷ xs) = ap (λ n. cond (p (g x)) (1 + n) 0) (prefix_seen g p xs)

pub position_seen : {X Y : Type 0} (g : X → Y) (p : Y → Bool) (xs : List X) → position (λ x. p (g x)) xs ≡ position p (map g xs)
position_seen g p xs = λ i. cond (nat_lt (prefix_seen g (λ y. not (p y)) xs i) (sym (length-map xs g) i)) (Some (prefix_seen g (λ y. not (p y)) xs i)) None

-- A LINE MORE OF A SENDER

weaves_last : (n : ℕ) (x z : Stamped) (one two : List Stamped → List Stamped) (ys : List Stamped) → Below n ys → ((us : List Stamped) → Below n us → one us ≡ two us ++ z ∷ []) → woven x one ys ≡ woven x two ys ++ z ∷ []
weaves_last n x z one two [] below more = ap (λ (us : List Stamped). x ∷ us) (more [] tt)
weaves_last n x z one two (y ∷ ys) below more = go (nat_lt y.stamp x.stamp) (weaves_last n x z one two ys below.1 more)
  where
    go : (b : Bool) → woven x one ys ≡ woven x two ys ++ z ∷ [] → (if b then y ∷ woven x one ys else x ∷ one (y ∷ ys)) ≡ (if b then y ∷ woven x two ys else x ∷ two (y ∷ ys)) ++ z ∷ []
    go true e = ap (λ (us : List Stamped). y ∷ us) e
    go false e = ap (λ (us : List Stamped). x ∷ us) (more (y ∷ ys) below)

lasts : (n : ℕ) (z : Stamped) (ys : List Stamped) → z.stamp ≡ n → Below n ys → woven z (merged []) ys ≡ ys ++ z ∷ []
lasts n z [] is below = refl
lasts n z (y ∷ ys) is below = go (nat_lt y.stamp z.stamp) (earlier y.stamp z.stamp n is below.0) (lasts n z ys is below.1)
  where
    earlier : (a b m : ℕ) → b ≡ m → a < m → nat_lt a b ≡ true
    earlier a b m p q = grind (arith, nat_tests)

    go : (b : Bool) → b ≡ true → woven z (merged []) ys ≡ ys ++ z ∷ [] → (if b then y ∷ woven z (merged []) ys else z ∷ y ∷ ys) ≡ y ∷ (ys ++ z ∷ [])
    go true t e = ap (λ (us : List Stamped). y ∷ us) e
    go false t e = absurd cc

merges_last : (n : ℕ) (xs : List Stamped) (z : Stamped) (ys : List Stamped) → z.stamp ≡ n → Below n ys → merged (xs ++ z ∷ []) ys ≡ merged xs ys ++ z ∷ []
merges_last n [] z ys is below = lasts n z ys is below
merges_last n (x ∷ xs) z ys is below = weaves_last n x z (merged (xs ++ z ∷ [])) (merged xs) ys below (λ us b. merges_last n xs z us is b)

below_worker : (n : ℕ) (entries : List WorkerEntry) → All (λ entry. entry.stamp < n) entries → Below n (map worker_stamped entries)
below_worker n [] a = tt
below_worker n (entry ∷ entries) a = (a 0 entry (omega arith), below_worker n entries (λ k d w. a (suc k) d (omega (arith, w))))

abbrev stamped : ℕ → LaneLine → Stamped
stamped stamp line = record { stamp = stamp; line = line }

-- the line of a message that comes to a lane
line_for : (stamp room : ℕ) (who : Actor) (w : Waiting) (waiting : List Waiting) → (line : LaneLine) × (entry_lines (entry_of stamp who (admit_entry room w waiting)) ≡ stamped stamp line ∷ []) × (admitted_line (admit_entry room (plain_waiting w) (map plain_waiting waiting)) ≡ line ∷ [])
line_for stamp room who w waiting = go (nat_lt (length waiting) room) refl
  where
    go : (b : Bool) → nat_lt (length waiting) room ≡ b → (line : LaneLine) × (entry_lines (entry_of stamp who (admit_entry room w waiting)) ≡ stamped stamp line ∷ []) × (admitted_line (admit_entry room (plain_waiting w) (map plain_waiting waiting)) ≡ line ∷ [])
    go true e = (
      QueuedLine (plain_waiting w),
      ap (λ (b : Bool). entry_lines (entry_of stamp who (if b then QueuedOne w else QueueFull w))) e,
      ap (λ (k : ℕ). admitted_line (if nat_lt k room then QueuedOne (plain_waiting w) else QueueFull (plain_waiting w))) (length-map waiting plain_waiting)
          ∙ ap (λ (b : Bool). admitted_line (if b then QueuedOne (plain_waiting w) else QueueFull (plain_waiting w))) e,
    )
    go false e = (
      FullLine (plain_waiting w),
      ap (λ (b : Bool). entry_lines (entry_of stamp who (if b then QueuedOne w else QueueFull w))) e,
      ap (λ (k : ℕ). admitted_line (if nat_lt k room then QueuedOne (plain_waiting w) else QueueFull (plain_waiting w))) (length-map waiting plain_waiting)
          ∙ ap (λ (b : Bool). admitted_line (if b then QueuedOne (plain_waiting w) else QueueFull (plain_waiting w))) e,
    )

pub log_admitted : (stamp : ℕ) (who : Actor) (m : Message) (l : HostLane) → IsLaneBefore stamp l
    → log_of (admitted_lane stamp who m l) ≡ log_of l ++ admitted_line (admit_entry l.lane.room (record { sender = who.index; message = m }) (plain_queue l))
log_admitted stamp who m l below =
    let w = sent_by who.index m in
    let line = line_for stamp l.lane.room who w l.lane.waiting in
    let senders = flat_map-append entry_lines l.lane.history (entry_of stamp who (admit_entry l.lane.room w l.lane.waiting) ∷ [])
    ∙ ap (λ (ls : List Stamped). flat_map entry_lines l.lane.history ++ ls) (append-nil (entry_lines (entry_of stamp who (admit_entry l.lane.room w l.lane.waiting))) ∙ line.1) in
    ap (λ (xs : List Stamped). map line_of (merged xs (map worker_stamped l.worker.entries))) senders
    ∙ (ap (map line_of) (merges_last stamp (flat_map entry_lines l.lane.history) (stamped stamp line.0) (map worker_stamped l.worker.entries) refl (below_worker stamp l.worker.entries below.worker))
    ∙ (map-append line_of (merged (flat_map entry_lines l.lane.history) (map worker_stamped l.worker.entries)) (stamped stamp line.0 ∷ [])
    ∙ ap (λ (ls : List LaneLine). log_of l ++ ls) (sym line.2)))

pub queue_admitted : (stamp : ℕ) (who : Actor) (m : Message) (l : HostLane) → plain_queue (admitted_lane stamp who m l) ≡ admit l.lane.room (record { sender = who.index; message = m }) (plain_queue l)
queue_admitted stamp who m l = go (nat_lt (length l.lane.waiting) l.lane.room) refl
  where
    w : Waiting
    w = sent_by who.index m

    go : (b : Bool) → nat_lt (length l.lane.waiting) l.lane.room ≡ b → map plain_waiting (lane_after (admit_entry l.lane.room (sent_by who.index m) l.lane.waiting) l.lane.waiting) ≡ admit l.lane.room (record { sender = who.index; message = m }) (map plain_waiting l.lane.waiting)
    go true e =
        ap (λ (b : Bool). map plain_waiting (lane_after (if b then QueuedOne (sent_by who.index m) else QueueFull (sent_by who.index m)) l.lane.waiting)) e
        ∙ (map-append plain_waiting l.lane.waiting (sent_by who.index m ∷ [])
        ∙ sym (ap (λ (k : ℕ). lane_after (if nat_lt k l.lane.room then QueuedOne (record { sender = who.index; message = m }) else QueueFull (record { sender = who.index; message = m })) (map plain_waiting l.lane.waiting)) (length-map l.lane.waiting plain_waiting)
        ∙ ap (λ (b : Bool). lane_after (if b then QueuedOne (record { sender = who.index; message = m }) else QueueFull (record { sender = who.index; message = m })) (map plain_waiting l.lane.waiting)) e))
    go false e =
        ap (λ (b : Bool). map plain_waiting (lane_after (if b then QueuedOne (sent_by who.index m) else QueueFull (sent_by who.index m)) l.lane.waiting)) e
        ∙ sym (ap (λ (k : ℕ). lane_after (if nat_lt k l.lane.room then QueuedOne (record { sender = who.index; message = m }) else QueueFull (record { sender = who.index; message = m })) (map plain_waiting l.lane.waiting)) (length-map l.lane.waiting plain_waiting)
        ∙ ap (λ (b : Bool). lane_after (if b then QueuedOne (record { sender = who.index; message = m }) else QueueFull (record { sender = who.index; message = m })) (map plain_waiting l.lane.waiting)) e)
