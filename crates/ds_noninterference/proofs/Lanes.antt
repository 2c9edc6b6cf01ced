-- One event of a lane worker, on its host.
use Rattle.std.proofs.Common.{◌≡◌, ℕ, true, false, List, [], ◌∷◌, Option, Some, None, slice_get, option_map, refl, sym, ◌∙◌, ap, ap₂, subst, ◌⊎◌, inl, inr, arith}
use Rattle.ds_label.specs.declared.category.Category.{Category}
use Rattle.ds_model.specs.Scheme.{Scheme}
use Rattle.ds_model.specs.Plan.{Plan, host_plan, lane_plan}
use Rattle.ds_model.specs.Lane.{front, lifted}
use Rattle.ds_model.specs.World.{Waiting, Queue, Worker, Host}
use Rattle.ds_model.specs.WorkerStep.{LaneAsk, WorkerWaits, Lifts, AsksRecheck, lane_ask, rechecked, lane_ask_hand, lifted_after_reply, checked_after_reply}
use Rattle.ds_model.specs.Step.{lined, front_of, checked_in, perform_lane, step_lane}
use Rattle.ds_noninterference.specs.High.{high_lane, trusted_key}
use Rattle.ds_noninterference.specs.Alike.{Hidden, AlikeHosts}
use Rattle.ds_model.proofs.Places.{cond_case}
use Rattle.ds_noninterference.proofs.Places.{both_at, one_at}
use Rattle.ds_noninterference.proofs.Flow.{not_both}
use Rattle.ds_noninterference.proofs.Procs.{alike_self}
use Rattle.ds_noninterference.proofs.ProcSteps.{bool_case}

-- on a High lane to a host that isn't trusted nothing waits or is in hand
pub record Idle (x : Host) (l : ℕ) : Type 0 where
  pub waiting : (q : Queue) → slice_get x.queues l ≡ Some q → q ≡ []
  pub hand : (e : Worker) → slice_get x.workers l ≡ Some e → e.hand ≡ []

abbrev pub IdleAbroad : Category → List ℕ → Plan → ℕ → Host → Type 0
IdleAbroad c trusted plan h x = (l : ℕ) → high_lane c trusted plan h l ≡ true → trusted_key trusted plan (lane_plan (host_plan plan h) l).cert.receiver ≡ false → Idle x l

pub lifted_idle : (q : Queue) → q ≡ [] → lifted q ≡ q
lifted_idle [] e = refl
lifted_idle (m ∷ q) e = absurd (grind arith)

pub front_empty : (q : Queue) → q ≡ [] → front q ≡ []
front_empty q e = ap front e

front_idle : (o : Option Queue) → ((q : Queue) → o ≡ Some q → q ≡ []) → front_of o ≡ []
front_idle None f = refl
front_idle (Some q) f = front_empty q (f q refl)

told_idle : (e : Worker) (ms : List Waiting) → e.hand ≡ [] → ms ≡ [] → lifted_after_reply ms e ≡ e
told_idle e ms h m = ap (λ ms. record e { hand = ms }) (m ∙ sym h)

map_idle : {X : Type 0} (f : X → X) (o : Option X) → ((x : X) → o ≡ Some x → f x ≡ x) → o ≡ option_map f o
map_idle f None h = refl
map_idle f (Some x) h = ap Some (sym (h x refl))

module _ (s : Scheme) (c : Category) (trusted : List ℕ) (plan : Plan) (h : ℕ) where
  quiet_hidden : (x : Host) (l : ℕ) (a : LaneAsk) → Hidden c trusted plan h l → AlikeHosts c trusted plan h x (perform_lane s (host_plan plan h) x l a)
  quiet_hidden x l WorkerWaits hidden = alike_self c trusted plan h x
  quiet_hidden x l Lifts hidden = record {
    desk = refl;
    procs = λ p. inl refl;
    boxes = λ b. inl refl;
    queues = one_at (λ j a b. (a ≡ b) ⊎ Hidden c trusted plan h j) l lifted x.queues (λ j n. inl refl) (inr hidden);
    workers = one_at (λ j a b. (a ≡ b) ⊎ Hidden c trusted plan h j) l (lifted_after_reply (front_of (slice_get x.queues l))) x.workers (λ j n. inl refl) (inr hidden);
    logs = λ l. inl refl;
    inlets = λ i. inl refl;
  }
  quiet_hidden x l (AsksRecheck hand) hidden = record {
    desk = refl;
    procs = λ p. inl refl;
    boxes = λ b. inl refl;
    queues = λ j. inl refl;
    workers = one_at (λ j a b. (a ≡ b) ⊎ Hidden c trusted plan h j) l (checked_after_reply s (lane_plan (host_plan plan h) l) (rechecked s x.desk hand)) x.workers (λ j n. inl refl) (inr hidden);
    logs = one_at (λ j a b. (a ≡ b) ⊎ Hidden c trusted plan h j) l (lined (checked_in (rechecked s x.desk hand) (slice_get x.workers l))) x.logs (λ j n. inl refl) (inr hidden);
    inlets = λ i. inl refl;
  }

  lift_idle : (x : Host) (l : ℕ) → Idle x l → AlikeHosts c trusted plan h x (perform_lane s (host_plan plan h) x l Lifts)
  lift_idle x l idle = record {
    desk = refl;
    procs = λ p. inl refl;
    boxes = λ b. inl refl;
    queues = one_at (λ j a b. (a ≡ b) ⊎ Hidden c trusted plan h j) l lifted x.queues (λ j n. inl refl) (inl (map_idle lifted (slice_get x.queues l) (λ q e. lifted_idle q (idle.waiting q e))));
    workers = one_at (λ j a b. (a ≡ b) ⊎ Hidden c trusted plan h j) l (lifted_after_reply (front_of (slice_get x.queues l))) x.workers (λ j n. inl refl)
        (inl (map_idle (lifted_after_reply (front_of (slice_get x.queues l))) (slice_get x.workers l) (λ e q. told_idle e _ (idle.hand e q) (front_idle (slice_get x.queues l) idle.waiting))));
    logs = λ l. inl refl;
    inlets = λ i. inl refl;
  }

  quiet_idle : (x : Host) (l : ℕ) (e : Worker) (ms : List Waiting) → ms ≡ [] → Idle x l → AlikeHosts c trusted plan h x (perform_lane s (host_plan plan h) x l (lane_ask_hand s (lane_plan (host_plan plan h) l) e ms))
  quiet_idle x l e [] is idle = cond_case (λ a. AlikeHosts c trusted plan h x (perform_lane s (host_plan plan h) x l a)) (s.has_lane_leaf (lane_plan (host_plan plan h) l).signing e.leaf) Lifts WorkerWaits (λ _. lift_idle x l idle) (λ _. alike_self c trusted plan h x)
  quiet_idle x l e (m ∷ ms) is idle = absurd (grind arith)

  pub quiet_lane : (x : Host) (l : ℕ) (o : Option Worker) → slice_get x.workers l ≡ o → IdleAbroad c trusted plan h x → high_lane c trusted plan h l ≡ true → AlikeHosts c trusted plan h x (step_lane s (host_plan plan h) x l o)
  quiet_lane x l None q idle high = alike_self c trusted plan h x
  quiet_lane x l (Some e) q idle high = bool_case (AlikeHosts c trusted plan h x (perform_lane s (host_plan plan h) x l (lane_ask s (lane_plan (host_plan plan h) l) e))) (trusted_key trusted plan (lane_plan (host_plan plan h) l).cert.receiver)
      (λ t. quiet_hidden x l _ (record { high = high; to = t }))
      (λ f. quiet_idle x l e e.hand ((idle l high f).hand e q) (idle l high f))

  -- both sides, on a lane that isn't High

  module _ (x y : Host) (alike : AlikeHosts c trusted plan h x y) (l : ℕ) (low : high_lane c trusted plan h l ≡ false) where
    seen : {X : Type 0} {a b : X} → (a ≡ b) ⊎ Hidden c trusted plan h l → a ≡ b
    seen (inl e) = e
    seen (inr r) = absurd (not_both (high_lane c trusted plan h l) r.high low)

    both_lane : (a : LaneAsk) → AlikeHosts c trusted plan h (perform_lane s (host_plan plan h) x l a) (perform_lane s (host_plan plan h) y l a)
    both_lane WorkerWaits = alike
    both_lane Lifts = record {
      desk = alike.desk;
      procs = alike.procs;
      boxes = alike.boxes;
      queues = both_at (λ j a b. (a ≡ b) ⊎ Hidden c trusted plan h j) (λ j a b. (a ≡ b) ⊎ Hidden c trusted plan h j) l lifted lifted x.queues y.queues alike.queues (λ j n r. r) (λ r. inl (ap (option_map lifted) (seen r)));
      workers = both_at (λ j a b. (a ≡ b) ⊎ Hidden c trusted plan h j) (λ j a b. (a ≡ b) ⊎ Hidden c trusted plan h j) l (lifted_after_reply (front_of (slice_get x.queues l))) (lifted_after_reply (front_of (slice_get y.queues l))) x.workers y.workers alike.workers (λ j n r. r)
          (λ r. inl (ap₂ (λ o e. option_map (lifted_after_reply (front_of o)) e) (seen (alike.queues l)) (seen r)));
      logs = alike.logs;
      inlets = alike.inlets;
    }
    both_lane (AsksRecheck hand) = record {
      desk = alike.desk;
      procs = alike.procs;
      boxes = alike.boxes;
      queues = alike.queues;
      workers = both_at (λ j a b. (a ≡ b) ⊎ Hidden c trusted plan h j) (λ j a b. (a ≡ b) ⊎ Hidden c trusted plan h j) l (checked_after_reply s (lane_plan (host_plan plan h) l) (rechecked s x.desk hand)) (checked_after_reply s (lane_plan (host_plan plan h) l) (rechecked s y.desk hand)) x.workers y.workers alike.workers (λ j n r. r)
          (λ r. inl (ap₂ (λ d e. option_map (checked_after_reply s (lane_plan (host_plan plan h) l) (rechecked s d hand)) e) alike.desk (seen r)));
      logs = both_at (λ j a b. (a ≡ b) ⊎ Hidden c trusted plan h j) (λ j a b. (a ≡ b) ⊎ Hidden c trusted plan h j) l (lined (checked_in (rechecked s x.desk hand) (slice_get x.workers l))) (lined (checked_in (rechecked s y.desk hand) (slice_get y.workers l))) x.logs y.logs alike.logs (λ j n r. r)
          (λ r. inl (ap₂ (λ lines e. option_map (lined lines) e) (ap₂ (λ d e. checked_in (rechecked s d hand) e) alike.desk (seen (alike.workers l))) (seen r)));
      inlets = alike.inlets;
    }

    pub same_lane : (o q : Option Worker) → o ≡ q → AlikeHosts c trusted plan h (step_lane s (host_plan plan h) x l o) (step_lane s (host_plan plan h) y l q)
    same_lane o q e = subst (λ r. AlikeHosts c trusted plan h (step_lane s (host_plan plan h) x l o) (step_lane s (host_plan plan h) y l r)) e (one o)
      where
        one : (r : Option Worker) → AlikeHosts c trusted plan h (step_lane s (host_plan plan h) x l r) (step_lane s (host_plan plan h) y l r)
        one None = alike
        one (Some e) = both_lane (lane_ask s (lane_plan (host_plan plan h) l) e)
