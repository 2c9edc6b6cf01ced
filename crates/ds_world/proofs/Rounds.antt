-- The canonical schedule, part by part: where a part keeps nothing it changes nothing, and the parts above it end.
use Rattle.std.proofs.Common.{◌≡◌, ℕ, zero, suc, ◌+◌, ◌<◌, ◌≤◌, Bool, true, false, List, [], ◌∷◌, ◌++◌, length, refl, sym, ap, ◌∙◌, subst, ◌⊎◌, inl, inr, arith}
use Rattle.std.specs.Prelude.{◌≢◌, ◌==◌, ◌||◌, if◌then◌else◌}
use Rattle.std.proofs.lemmas.Bool.{cond-true, cond-false}
use Rattle.std.proofs.lemmas.Bool.Decides.{nat_tests}
use Rattle.std.proofs.lemmas.List.{length-append}
use Rattle.ds_model.specs.Lists.{gathered}
use Rattle.ds_model.specs.Scheme.{Scheme}
use Rattle.ds_model.specs.Plan.{Plan}
use Rattle.ds_model.specs.World.{World}
use Rattle.ds_model.specs.Step.{Event, Arrive, Accept, Deliver, run, step}
use Rattle.ds_model.specs.Schedule.{Schedule, Test, all_connected, all_tried, bytes_left, connected, delivered, host_events, kept, round, rounds, tried, turned}

-- a choice of two that both have a property
pub choice : {A : Type 0} (P : A → Type 0) (b : Bool) (x y : A) → P x → P y → P (if b then x else y)
choice P true x y p q = p
choice P false x y p q = q

module _ (changes : Test) (s : Scheme) (plan : Plan) where
  -- AN EVENT

  abbrev pub attempt : Event → Schedule → Schedule
  attempt e sch = tried changes s plan e sch

  -- it is still, or no more may come
  abbrev pub IsOver : Event → Schedule → Type 0
  IsOver e sch = (changes sch.world e ≡ false) ⊎ (sch.left ≡ 0)

  -- with the event, and so many left
  abbrev pub with_event : Event → Schedule → (left : ℕ) → Schedule
  with_event e sch left = record { world = step s plan sch.world e; events = sch.events ++ e ∷ []; left = left }

  pub skipped : (e : Event) (sch : Schedule) → changes sch.world e ≡ false → attempt e sch ≡ sch
  skipped e sch q = cond-false (changes sch.world e) (kept s plan e sch sch.left) sch q

  pub full : (e : Event) (sch : Schedule) → sch.left ≡ 0 → attempt e sch ≡ sch
  full e sch none = choice (λ (x : Schedule). x ≡ sch) (changes sch.world e) (kept s plan e sch sch.left) sch (ap (kept s plan e sch) none) refl

  pub came : (e : Event) (sch : Schedule) (left : ℕ) → changes sch.world e ≡ true → sch.left ≡ suc left
      → attempt e sch ≡ with_event e sch left
  came e sch left q some = cond-true (changes sch.world e) (kept s plan e sch sch.left) sch q ∙ ap (kept s plan e sch) some

  -- it isn't kept, or it is
  abbrev pub IsSkipped : Event → Schedule → Type 0
  IsSkipped e sch = (attempt e sch ≡ sch) × IsOver e sch

  pub record IsKept (e : Event) (sch : Schedule) : Type 0 where
    pub moves : changes sch.world e ≡ true
    pub left : ℕ
    pub is : attempt e sch ≡ with_event e sch left

  pub trial : (e : Event) (sch : Schedule) → IsSkipped e sch ⊎ IsKept e sch
  trial e sch = go (changes sch.world e) refl sch.left refl
    where
      go : (b : Bool) → changes sch.world e ≡ b → (n : ℕ) → sch.left ≡ n → IsSkipped e sch ⊎ IsKept e sch
      go false q n some = inl (skipped e sch q, inl q)
      go true q zero none = inl (full e sch none, inr none)
      go true q (suc n) some = inr (record { moves = q; left = n; is = came e sch n q some })

  pub longer : (e : Event) (sch : Schedule) → IsKept e sch → length (attempt e sch).events ≡ length sch.events + 1
  longer e sch k = ap (λ (x : Schedule). length x.events) k.is ∙ length-append sch.events (e ∷ [])

  -- WHAT EVERY EVENT KEEPS, EACH PART KEEPS

  module _ (P : Schedule → Type 0) (keeps : (e : Event) (sch : Schedule) → P sch → P (attempt e sch)) where
    pub all_tried_keeps : (events : List Event) (sch : Schedule) → P sch → P (all_tried changes s plan events sch)
    all_tried_keeps [] sch p = p
    all_tried_keeps (e ∷ events) sch p = all_tried_keeps events (attempt e sch) (keeps e sch p)

    pub delivered_keeps : (k most : ℕ) (sch : Schedule) → P sch → P (delivered changes s plan k most sch)
    delivered_keeps k zero sch p = p
    delivered_keeps k (suc most) sch p = choice P (changes sch.world (Deliver k)) (delivered changes s plan k most (attempt (Deliver k) sch)) sch
        (delivered_keeps k most (attempt (Deliver k) sch) (keeps (Deliver k) sch p)) p

    pub turned_keeps : (k budget most : ℕ) (sch : Schedule) → P sch → P (turned changes s plan k budget most sch)
    turned_keeps k budget zero sch p = p
    turned_keeps k budget (suc most) sch p =
        let next : Schedule = delivered changes s plan k budget (attempt (Accept k) sch) in
        choice P (changes sch.world (Accept k) || changes sch.world (Deliver k)) (turned changes s plan k budget most next) sch
        (turned_keeps k budget most next (delivered_keeps k budget (attempt (Accept k) sch) (keeps (Accept k) sch p))) p

    pub connected_keeps : (budget k : ℕ) (sch : Schedule) → P sch → P (connected changes s plan budget k sch)
    connected_keeps budget k sch p =
        let event : Event = Arrive k (bytes_left plan sch.world k) in
        turned_keeps k budget budget (attempt event sch) (keeps event sch p)

    pub all_connected_keeps : (budget k : ℕ) (sch : Schedule) → P sch → P (all_connected changes s plan budget k sch)
    all_connected_keeps budget zero sch p = p
    all_connected_keeps budget (suc k) sch p = connected_keeps budget k (all_connected changes s plan budget k sch) (all_connected_keeps budget k sch p)

    pub round_keeps : (budget : ℕ) (sch : Schedule) → P sch → P (round changes s plan budget sch)
    round_keeps budget sch p =
        let events : List Event = gathered (host_events plan) (length plan.hosts) in
        all_connected_keeps budget (length plan.conn_plans) (all_tried changes s plan events sch) (all_tried_keeps events sch p)

    pub rounds_keeps : (budget most : ℕ) (sch : Schedule) → P sch → P (rounds changes s plan budget most sch)
    rounds_keeps budget zero sch p = p
    rounds_keeps budget (suc most) sch p =
        let next : Schedule = round changes s plan budget sch in
        let kept_next : P next = round_keeps budget sch p in
        choice P (length next.events == length sch.events) next (rounds changes s plan budget most next) kept_next (rounds_keeps budget most next kept_next)

  -- EVENTS, ONE AFTER ANOTHER

  pub all_tried-append : (one two : List Event) (sch : Schedule)
      → all_tried changes s plan (one ++ two) sch ≡ all_tried changes s plan two (all_tried changes s plan one sch)
  all_tried-append [] two sch = refl
  all_tried-append (e ∷ one) two sch = all_tried-append one two (attempt e sch)

  -- DELIVERIES

  abbrev pub deliveries : (k most : ℕ) → Schedule → Schedule
  deliveries k most sch = delivered changes s plan k most sch

  no_delivery : (k most : ℕ) (sch : Schedule) → IsOver (Deliver k) sch → deliveries k most sch ≡ sch
  no_delivery k zero sch over = refl
  no_delivery k (suc most) sch (inl q) = cond-false (changes sch.world (Deliver k)) (deliveries k most (attempt (Deliver k) sch)) sch q
  no_delivery k (suc most) sch (inr none) = choice (λ (x : Schedule). x ≡ sch) (changes sch.world (Deliver k)) (deliveries k most (attempt (Deliver k) sch)) sch
      (ap (deliveries k most) (full (Deliver k) sch none) ∙ no_delivery k most sch (inr none)) refl

  pub one_delivery : (k most : ℕ) (sch : Schedule) → changes sch.world (Deliver k) ≡ true
      → deliveries k (suc most) sch ≡ deliveries k most (attempt (Deliver k) sch)
  one_delivery k most sch q = cond-true (changes sch.world (Deliver k)) (deliveries k most (attempt (Deliver k) sch)) sch q

  pub delivery_ends : (k most : ℕ) (sch : Schedule) → length (attempt (Deliver k) sch).events ≡ length sch.events
      → deliveries k (suc most) sch ≡ attempt (Deliver k) sch
  delivery_ends k most sch same = go (trial (Deliver k) sch)
    where
      go : IsSkipped (Deliver k) sch ⊎ IsKept (Deliver k) sch → deliveries k (suc most) sch ≡ attempt (Deliver k) sch
      go (inl over) = no_delivery k (suc most) sch over.1 ∙ sym over.0
      go (inr more) = absurd (omega (arith, same, longer (Deliver k) sch more))

  pub delivery_goes : (k most : ℕ) (sch : Schedule) → length (attempt (Deliver k) sch).events ≢ length sch.events
      → deliveries k (suc most) sch ≡ deliveries k most (attempt (Deliver k) sch)
  delivery_goes k most sch differ = go (trial (Deliver k) sch)
    where
      go : IsSkipped (Deliver k) sch ⊎ IsKept (Deliver k) sch
          → deliveries k (suc most) sch ≡ deliveries k most (attempt (Deliver k) sch)
      go (inl over) = absurd (differ (ap (λ (x : Schedule). length x.events) over.0))
      go (inr more) = one_delivery k most sch more.moves

  -- TURNS

  abbrev pub turn : (k budget : ℕ) → Schedule → Schedule
  turn k budget sch = delivered changes s plan k budget (attempt (Accept k) sch)

  abbrev pub turns : (k budget most : ℕ) → Schedule → Schedule
  turns k budget most sch = turned changes s plan k budget most sch

  abbrev pub IsAtLeast : ℕ → Schedule → Type 0
  IsAtLeast n sch = n ≤ length sch.events

  pub grows : (n : ℕ) (e : Event) (sch : Schedule) → IsAtLeast n sch → IsAtLeast n (attempt e sch)
  grows n e sch at_least = go (trial e sch)
    where
      go : IsSkipped e sch ⊎ IsKept e sch → IsAtLeast n (attempt e sch)
      go (inl over) = subst (IsAtLeast n) (sym over.0) at_least
      go (inr more) = omega (arith, at_least, longer e sch more)

  full_turn : (k budget : ℕ) (sch : Schedule) → sch.left ≡ 0 → turn k budget sch ≡ sch
  full_turn k budget sch none = ap (deliveries k budget) (full (Accept k) sch none) ∙ no_delivery k budget sch (inr none)

  full_turns : (k budget most : ℕ) (sch : Schedule) → sch.left ≡ 0 → turns k budget most sch ≡ sch
  full_turns k budget zero sch none = refl
  full_turns k budget (suc most) sch none = choice (λ (x : Schedule). x ≡ sch) (changes sch.world (Accept k) || changes sch.world (Deliver k)) (turns k budget most (turn k budget sch)) sch
      (ap (turns k budget most) (full_turn k budget sch none) ∙ full_turns k budget most sch none) refl

  -- a turn keeps nothing, and the turns end; or it keeps something, and they go on
  record EndsTurns (k budget most : ℕ) (sch : Schedule) : Type 0 where
    same : turn k budget sch ≡ sch
    turns : turned changes s plan k budget (suc most) sch ≡ sch

  record GoesOn (k budget most : ℕ) (sch : Schedule) : Type 0 where
    more : length sch.events < length (turn k budget sch).events
    turns : turned changes s plan k budget (suc most) sch ≡ turned changes s plan k budget most (turn k budget sch)

  pub either : (a b : Bool) → (a ≡ true) ⊎ (b ≡ true) → (a || b) ≡ true
  either true b e = refl
  either false true e = refl
  either false false (inl e) = e
  either false false (inr e) = e

  pub neither : (a b : Bool) → a ≡ false → b ≡ false → (a || b) ≡ false
  neither false false p q = refl
  neither false true p q = q
  neither true b p q = p

  ends_full : (k budget most : ℕ) (sch : Schedule) → sch.left ≡ 0 → EndsTurns k budget most sch
  ends_full k budget most sch none = record { same = full_turn k budget sch none; turns = full_turns k budget (suc most) sch none }

  goes_if : (k budget most : ℕ) (sch : Schedule)
      → (changes sch.world (Accept k) ≡ true) ⊎ (changes sch.world (Deliver k) ≡ true)
      → length sch.events < length (turn k budget sch).events → GoesOn k budget most sch
  goes_if k budget most sch e more = record {
    more = more;
    turns = cond-true (changes sch.world (Accept k) || changes sch.world (Deliver k)) (turns k budget most (turn k budget sch)) sch (either (changes sch.world (Accept k)) (changes sch.world (Deliver k)) e);
  }

  pub accept_more : (k budget : ℕ) (sch : Schedule) → IsKept (Accept k) sch
      → length sch.events < length (turn k budget sch).events
  accept_more k budget sch more =
      let n : ℕ = length (attempt (Accept k) sch).events in
      let at_least : n ≤ length (turn k budget sch).events = delivered_keeps (IsAtLeast n) (grows n) k budget (attempt (Accept k) sch) (omega arith) in
      omega (arith, at_least, longer (Accept k) sch more)

  pub deliver_more : (k budget : ℕ) (sch : Schedule) → attempt (Accept k) sch ≡ sch → IsKept (Deliver k) sch
      → length sch.events < length (turn k (suc budget) sch).events
  deliver_more k budget sch same more =
      let n : ℕ = length (attempt (Deliver k) sch).events in
      let is : turn k (suc budget) sch ≡ deliveries k budget (attempt (Deliver k) sch) = ap (deliveries k (suc budget)) same ∙ one_delivery k budget sch more.moves in
      let at_least : n ≤ length (deliveries k budget (attempt (Deliver k) sch)).events = delivered_keeps (IsAtLeast n) (grows n) k budget (attempt (Deliver k) sch) (omega arith) in
      omega (arith, at_least, longer (Deliver k) sch more, ap (λ (x : Schedule). length x.events) is)

  one_turn : (k budget most : ℕ) (sch : Schedule) → EndsTurns k (suc budget) most sch ⊎ GoesOn k (suc budget) most sch
  one_turn k budget most sch = accepting (trial (Accept k) sch)
    where
      delivering : attempt (Accept k) sch ≡ sch → changes sch.world (Accept k) ≡ false
          → IsSkipped (Deliver k) sch ⊎ IsKept (Deliver k) sch
          → EndsTurns k (suc budget) most sch ⊎ GoesOn k (suc budget) most sch
      delivering same q (inr more) = inr (goes_if k (suc budget) most sch (inr more.moves) (deliver_more k budget sch same more))
      delivering same q (inl (stays, inr none)) = inl (ends_full k (suc budget) most sch none)
      delivering same q (inl (stays, inl p)) = inl (record {
        same = ap (deliveries k (suc budget)) same ∙ no_delivery k (suc budget) sch (inl p);
        turns = cond-false (changes sch.world (Accept k) || changes sch.world (Deliver k)) (turns k (suc budget) most (turn k (suc budget) sch)) sch (neither (changes sch.world (Accept k)) (changes sch.world (Deliver k)) q p);
      })

      accepting : IsSkipped (Accept k) sch ⊎ IsKept (Accept k) sch
          → EndsTurns k (suc budget) most sch ⊎ GoesOn k (suc budget) most sch
      accepting (inr more) = inr (goes_if k (suc budget) most sch (inl more.moves) (accept_more k (suc budget) sch more))
      accepting (inl (same, inr none)) = inl (ends_full k (suc budget) most sch none)
      accepting (inl (same, inl q)) = delivering same q (trial (Deliver k) sch)

  abbrev pub Ends : (k budget most : ℕ) → Schedule → Type 0
  Ends k budget most sch = length (turn k budget sch).events ≡ length sch.events → turns k budget (suc most) sch ≡ turn k budget sch

  abbrev pub Goes : (k budget most : ℕ) → Schedule → Type 0
  Goes k budget most sch = length (turn k budget sch).events ≢ length sch.events → turns k budget (suc most) sch ≡ turns k budget most (turn k budget sch)

  pub turn_ends : (k budget most : ℕ) (sch : Schedule) → 0 < budget → Ends k budget most sch
  turn_ends k zero most sch some same = absurd (omega (arith, some))
  turn_ends k (suc budget) most sch some same = go (one_turn k budget most sch)
    where
      go : EndsTurns k (suc budget) most sch ⊎ GoesOn k (suc budget) most sch
          → turns k (suc budget) (suc most) sch ≡ turn k (suc budget) sch
      go (inl e) = e.turns ∙ sym e.same
      go (inr g) = absurd (omega (arith, same, g.more))

  pub turn_goes : (k budget most : ℕ) (sch : Schedule) → 0 < budget → Goes k budget most sch
  turn_goes k zero most sch some differ = absurd (omega (arith, some))
  turn_goes k (suc budget) most sch some differ = go (one_turn k budget most sch)
    where
      go : EndsTurns k (suc budget) most sch ⊎ GoesOn k (suc budget) most sch
          → turns k (suc budget) (suc most) sch ≡ turns k (suc budget) most (turn k (suc budget) sch)
      go (inl e) = absurd (differ (ap (λ (x : Schedule). length x.events) e.same))
      go (inr g) = g.turns

  -- ROUNDS

  abbrev pub one_round : (budget : ℕ) → Schedule → Schedule
  one_round budget sch = round changes s plan budget sch

  pub round_ends : (budget most : ℕ) (sch : Schedule) → length (one_round budget sch).events ≡ length sch.events
      → rounds changes s plan budget (suc most) sch ≡ one_round budget sch
  round_ends budget most sch same =
      cond-true (length (one_round budget sch).events == length sch.events) (one_round budget sch) (rounds changes s plan budget most (one_round budget sch)) (grind (arith, nat_tests))

  pub round_goes : (budget most : ℕ) (sch : Schedule) → length (one_round budget sch).events ≢ length sch.events
      → rounds changes s plan budget (suc most) sch ≡ rounds changes s plan budget most (one_round budget sch)
  round_goes budget most sch differ =
      cond-false (length (one_round budget sch).events == length sch.events) (one_round budget sch) (rounds changes s plan budget most (one_round budget sch)) (grind (arith, nat_tests))

  -- THE WORLD IS WHAT THE EVENTS MAKE OF THE FIRST ONE

  abbrev pub IsRunOf : World → Schedule → Type 0
  IsRunOf w sch = sch.world ≡ run s plan w sch.events

  run-append : (w : World) (one two : List Event) → run s plan w (one ++ two) ≡ run s plan (run s plan w one) two
  run-append w [] two = refl
  run-append w (e ∷ one) two = run-append (step s plan w e) one two

  runs_on : (w : World) (e : Event) (sch : Schedule) → IsRunOf w sch → IsRunOf w (attempt e sch)
  runs_on w e sch is = go (trial e sch)
    where
      go : IsSkipped e sch ⊎ IsKept e sch → IsRunOf w (attempt e sch)
      go (inl over) = subst (IsRunOf w) (sym over.0) is
      go (inr more) = subst (IsRunOf w) (sym more.is) (ap (λ (v : World). step s plan v e) is ∙ sym (run-append w sch.events (e ∷ [])))

  pub rounds_run : (w : World) (budget most left : ℕ)
      → IsRunOf w (rounds changes s plan budget most (record { world = w; events = []; left = left }))
  rounds_run w budget most left = rounds_keeps (IsRunOf w) (runs_on w) budget most (record { world = w; events = []; left = left }) refl
