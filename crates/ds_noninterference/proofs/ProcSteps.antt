-- A step of a process: quiet where its mark is High, and the same on both sides where the marks are equal.
use Rattle.std.proofs.Common.{◌≡◌, ◌≢◌, ℕ, Bool, true, false, cond, List, [], Option, Some, None, slice_get, option_map, refl, sym, ◌∙◌, ap, ap₂, subst, ◌⊎◌, inl, inr, arith}
use Rattle.ds_label.specs.declared.category.Category.{Category}
use Rattle.ds_label.specs.Flow.{has}
use Rattle.ds_label.specs.Names.{is_secrecy, by_name}
use Rattle.ds_msg.specs.declared.message.Message.{Message}
use Rattle.ds_model.specs.Lists.{at}
use Rattle.ds_model.specs.Scheme.{Scheme}
use Rattle.ds_model.specs.Plan.{Plan, host_plan, box_plan, lane_plan}
use Rattle.ds_model.specs.Mailbox.{put, took}
use Rattle.ds_model.specs.Lane.{admit}
use Rattle.ds_model.specs.Desk.{desk_after, Act, Reply, act_entry, reply_of}
use Rattle.ds_model.specs.World.{Process, Mail, Host}
use Rattle.ds_model.specs.ProcessStep.{Ask, Waits, Internal, Put, Admit, TakeFrom, PublicAct, AsksJudgement, ask, taken_after_reply, act_after_reply, judged_after_reply}
use Rattle.ds_model.specs.Step.{Step, oldest_in, admitted_lines, judged, attached, perform, step_proc}
use Rattle.ds_noninterference.specs.High.{is_in, high_proc, high_at, IsTrusted}
use Rattle.ds_noninterference.specs.Observations.{Released, ToBox, ToLane, ByAct, High, Low, unless_has, released, mark_released, mark_proc}
use Rattle.ds_noninterference.specs.Alike.{Alike, AlikeHosts}
use Rattle.ds_noninterference.proofs.Flow.{and_left, and_both, or_cases, or_left, or_right, not_both, flows_carries, same_label_carries_back}
use Rattle.ds_noninterference.proofs.Asks.{Follows, AskFacts, ask_facts}
use Rattle.ds_noninterference.proofs.Procs.{Mono, mono_at, high_stays, taken_stays, act_stays, judged_stays, high_map, high_next, low_mono, low_box, alike_self, quiet_proc, quiet_box, quiet_queue, both_alone, both_desk, both_box, both_queue}

-- a judged message with the category, in a trusted process's hand, is for a trusted host
abbrev pub SafeHand : Category → List ℕ → Plan → Option Message → Type 0
SafeHand c trusted plan o = (m : Message) → o ≡ Some m → has by_name c m.label ≡ true → IsTrusted trusted plan m.to

abbrev pub SafeHands : Category → List ℕ → Plan → ℕ → Host → Type 0
SafeHands c trusted plan h x = (p : ℕ) (y : Process) → is_in trusted h ≡ true → slice_get x.procs p ≡ Some y → SafeHand c trusted plan y.hand

pub bool_case : (P : Type 0) (b : Bool) → (b ≡ true → P) → (b ≡ false → P) → P
bool_case P true f g = f refl
bool_case P false f g = g refl

kept_in : (k : Bool) (r : Released) → unless_has k r ≡ None → k ≡ true
kept_in true r e = refl
kept_in false r e = absurd (grind arith)

let_out : (k : Bool) (r q : Released) → unless_has k r ≡ Some q → r ≡ q
let_out true r q e = absurd (grind arith)
let_out false r q e = cc

marked_high : (h p : ℕ) (o : Option Released) → mark_released h p o ≡ High → o ≡ None
marked_high h p None e = refl
marked_high h p (Some r) e = absurd (grind arith)

marked_same : (h p : ℕ) (o q : Option Released) → mark_released h p o ≡ mark_released h p q → o ≡ q
marked_same h p None None e = refl
marked_same h p (Some r) (Some r') e = cc
marked_same h p None (Some r) e = absurd (grind arith)
marked_same h p (Some r) None e = absurd (grind arith)

-- what one release says of an ask

put_released : (c : Category) (b : ℕ) (m : Mail Category) (a : Ask) → released c a ≡ Some (ToBox b m) → (next : Process) × (a ≡ Put b m next)
put_released c b m (Put b' m' next) e =
    let q : ToBox b' m' ≡ ToBox b m = let_out _ _ _ e in
    let u : b' ≡ b = cc in
    let v : m' ≡ m = cc in
    (next, ap₂ (λ i j. Put i j next) u v)
put_released c b m (Admit l m' next) e = let q : ToLane l m' ≡ ToBox b m = let_out _ _ _ e in absurd (grind arith)
put_released c b m (PublicAct a r g) e = absurd (grind arith)
put_released c b m Waits e = absurd (grind arith)
put_released c b m (Internal next) e = absurd (grind arith)
put_released c b m (TakeFrom b' r slot) e = absurd (grind arith)
put_released c b m (AsksJudgement m') e = absurd (grind arith)

admit_released : (c : Category) (l : ℕ) (m : Message) (a : Ask) → released c a ≡ Some (ToLane l m) → (next : Process) × (a ≡ Admit l m next)
admit_released c l m (Admit l' m' next) e =
    let q : ToLane l' m' ≡ ToLane l m = let_out _ _ _ e in
    let u : l' ≡ l = cc in
    let v : m' ≡ m = cc in
    (next, ap₂ (λ i j. Admit i j next) u v)
admit_released c l m (Put b m' next) e = let q : ToBox b m' ≡ ToLane l m = let_out _ _ _ e in absurd (grind arith)
admit_released c l m (PublicAct a r g) e = absurd (grind arith)
admit_released c l m Waits e = absurd (grind arith)
admit_released c l m (Internal next) e = absurd (grind arith)
admit_released c l m (TakeFrom b' r slot) e = absurd (grind arith)
admit_released c l m (AsksJudgement m') e = absurd (grind arith)

do_released : (c : Category) (a : Act) (k : Ask) → released c k ≡ Some (ByAct a) → (r : ℕ) × (g : ℕ) × (k ≡ PublicAct a r g)
do_released c a (PublicAct a' r g) e = let u : a' ≡ a = cc in (r, g, ap (λ i. PublicAct i r g) u)
do_released c a (Put b m' next) e = let q : ToBox b m' ≡ ByAct a = let_out _ _ _ e in absurd (grind arith)
do_released c a (Admit l m' next) e = let q : ToLane l m' ≡ ByAct a = let_out _ _ _ e in absurd (grind arith)
do_released c a Waits e = absurd (grind arith)
do_released c a (Internal next) e = absurd (grind arith)
do_released c a (TakeFrom b' r slot) e = absurd (grind arith)
do_released c a (AsksJudgement m') e = absurd (grind arith)

module _ (s : Scheme) (c : Category) (secret : is_secrecy c.kind ≡ true) (trusted : List ℕ) (plan : Plan) (h : ℕ) where
  -- the process at p, and that it is High before and after

  pub here_high : (x : Host) (p : ℕ) (y : Process) → slice_get x.procs p ≡ Some y → high_proc c (is_in trusted h) y ≡ true → high_at c (is_in trusted h) (slice_get x.procs p) ≡ true
  here_high x p y e high = ap (high_at c (is_in trusted h)) e ∙ high

  next_high : (x : Host) (p : ℕ) (y next : Process) → slice_get x.procs p ≡ Some y → high_proc c (is_in trusted h) y ≡ true → Follows y next → high_at c (is_in trusted h) (option_map (λ _. next) (slice_get x.procs p)) ≡ true
  next_high x p y next e high f = high_next c (is_in trusted h) y next (slice_get x.procs p) e (f.stays c secret) (here_high x p y e high)

  quiet_ask : (x : Host) (p : ℕ) (y : Process) (a : Ask) → slice_get x.procs p ≡ Some y → high_proc c (is_in trusted h) y ≡ true → AskFacts (host_plan plan h) p y a → SafeHand c trusted plan y.hand → released c a ≡ None → AlikeHosts c trusted plan h x (perform s (host_plan plan h) x p a)
  quiet_ask x p y Waits e high f safe m = alike_self c trusted plan h x
  quiet_ask x p y (Internal next) e high f safe m = quiet_proc c trusted plan h x p (λ _. next) (here_high x p y e high) (next_high x p y next e high f)
  quiet_ask x p y (Put b mail next) e high f safe m =
      quiet_box c trusted plan h x p b (λ _. next) (put (box_plan (host_plan plan h) b).room mail) (here_high x p y e high) (next_high x p y next e high f.0)
      (and_both _ _ (and_left _ _ high) (or_left _ _ (labelled (or_cases _ _ (flows_carries c mail.label (box_plan (host_plan plan h) b).label [] secret f.1 (kept_in (has by_name c mail.label) (ToBox b mail) m))))))
    where
      labelled : (has by_name c (box_plan (host_plan plan h) b).label ≡ true) ⊎ (has by_name c [] ≡ true) → has by_name c (box_plan (host_plan plan h) b).label ≡ true
      labelled (inl r) = r
      labelled (inr r) = absurd (grind arith)
  quiet_ask x p y (Admit l m next) e high f safe k =
      quiet_queue c trusted plan h x p l (λ _. next) (admit (lane_plan (host_plan plan h) l).room (record { sender = p; message = m })) (admitted_lines (lane_plan (host_plan plan h) l).room (record { sender = p; message = m }) (slice_get x.queues l)) (here_high x p y e high) (next_high x p y next e high f.0)
      (record {
        high = and_both _ _ (and_left _ _ high) (same_label_carries_back c _ m.label f.3 (kept_in (has by_name c m.label) (ToLane l m) k));
        to = subst (IsTrusted trusted plan) (sym f.2) (safe m f.1 (kept_in (has by_name c m.label) (ToLane l m) k));
      })
  quiet_ask x p y (TakeFrom b r slot) e high f safe m =
      quiet_box c trusted plan h x p b (taken_after_reply r slot (oldest_in (slice_get x.boxes b))) took (here_high x p y e high)
      (high_map c (is_in trusted h) _ (λ z. high_stays c (is_in trusted h) z (taken_after_reply r slot (oldest_in (slice_get x.boxes b)) z) (taken_stays c r slot (oldest_in (slice_get x.boxes b)) z)) _ (here_high x p y e high))
      (and_both _ _ (and_left _ _ high) (or_right _ _ (subst (λ q. high_at c (is_in trusted h) (slice_get x.procs q) ≡ true) f.0 (here_high x p y e high))))
  quiet_ask x p y (PublicAct a r g) e high f safe m = absurd (grind arith)
  quiet_ask x p y (AsksJudgement m) e high f safe k =
      quiet_proc c trusted plan h x p (judged_after_reply m (attached s (host_plan plan h) x.desk m) (judged s (host_plan plan h) x.desk m)) (here_high x p y e high)
      (high_map c (is_in trusted h) _ (λ z. high_stays c (is_in trusted h) z (judged_after_reply m (attached s (host_plan plan h) x.desk m) (judged s (host_plan plan h) x.desk m) z) (judged_stays c m _ _ z)) _ (here_high x p y e high))

  pub quiet_step : (x : Host) (p : ℕ) (o : Option Process) → slice_get x.procs p ≡ o → SafeHands c trusted plan h x → mark_proc c (is_in trusted h) (host_plan plan h) h p o ≡ High → AlikeHosts c trusted plan h x (step_proc s (host_plan plan h) x p o)
  quiet_step x p None e safe m = alike_self c trusted plan h x
  quiet_step x p (Some y) e safe m = go (high_proc c (is_in trusted h) y) refl m
    where
      go : (b : Bool) → high_proc c (is_in trusted h) y ≡ b → cond b (mark_released h p (released c (ask (host_plan plan h) p y))) (Low (Step h p)) ≡ High → AlikeHosts c trusted plan h x (perform s (host_plan plan h) x p (ask (host_plan plan h) p y))
      go true high k = quiet_ask x p y (ask (host_plan plan h) p y) e high (ask_facts (host_plan plan h) p y) (safe p y (and_left _ _ high) e) (marked_high h p _ k)
      go false high k = absurd (grind arith)

  -- both sides

  module _ (x y : Host) (alike : AlikeHosts c trusted plan h x y) (p : ℕ) where
    -- one process that isn't High, the same on both sides
    low_ask : (z : Process) (a : Ask) → slice_get x.procs p ≡ Some z → slice_get y.procs p ≡ Some z → high_proc c (is_in trusted h) z ≡ false → AskFacts (host_plan plan h) p z a → AlikeHosts c trusted plan h (perform s (host_plan plan h) x p a) (perform s (host_plan plan h) y p a)
    low_ask z Waits e e' low f = alike
    low_ask z (Internal next) e e' low f = both_alone c trusted plan h x y alike p (λ _. next) (λ _. next) (inl (ap (option_map (λ _. next)) (e ∙ sym e'))) (low_mono c (is_in trusted h) x.procs p _ z e low) (low_mono c (is_in trusted h) y.procs p _ z e' low)
    low_ask z (Put b m next) e e' low f = both_box c trusted plan h x y alike p (λ _. next) (λ _. next) (inl (ap (option_map (λ _. next)) (e ∙ sym e'))) (low_mono c (is_in trusted h) x.procs p _ z e low) (low_mono c (is_in trusted h) y.procs p _ z e' low) b (put (box_plan (host_plan plan h) b).room m)
    low_ask z (Admit l m next) e e' low f = both_queue c trusted plan h x y alike p (λ _. next) (λ _. next) (inl (ap (option_map (λ _. next)) (e ∙ sym e'))) (low_mono c (is_in trusted h) x.procs p _ z e low) (low_mono c (is_in trusted h) y.procs p _ z e' low) l (admit (lane_plan (host_plan plan h) l).room (record { sender = p; message = m })) (admitted_lines (lane_plan (host_plan plan h) l).room (record { sender = p; message = m }))
    low_ask z (TakeFrom b r slot) e e' low f =
        both_box c trusted plan h x y alike p (taken_after_reply r slot (oldest_in (slice_get x.boxes b))) (taken_after_reply r slot (oldest_in (slice_get y.boxes b)))
        (inl (ap₂ (λ o q. option_map (taken_after_reply r slot (oldest_in o)) q) (low_box c secret (is_in trusted h) (host_plan plan h) x.procs p z b f.0 f.1 e low (alike.boxes b)) (e ∙ sym e')))
        (low_mono c (is_in trusted h) x.procs p _ z e low) (low_mono c (is_in trusted h) y.procs p _ z e' low) b took
    low_ask z (PublicAct a r g) e e' low f =
        both_desk c trusted plan h x y alike p (act_after_reply r g a (reply_of s (host_plan plan h) x.desk (act_entry s (host_plan plan h) x.desk a))) (act_after_reply r g a (reply_of s (host_plan plan h) y.desk (act_entry s (host_plan plan h) y.desk a)))
        (inl (ap₂ (λ d o. option_map (act_after_reply r g a (reply_of s (host_plan plan h) d (act_entry s (host_plan plan h) d a))) o) alike.desk (e ∙ sym e')))
        (low_mono c (is_in trusted h) x.procs p _ z e low) (low_mono c (is_in trusted h) y.procs p _ z e' low)
        (desk_after (host_plan plan h).key (act_entry s (host_plan plan h) x.desk a) x.desk) (desk_after (host_plan plan h).key (act_entry s (host_plan plan h) y.desk a) y.desk) (ap (λ d. (desk_after (host_plan plan h).key (act_entry s (host_plan plan h) d a) d)) alike.desk)
    low_ask z (AsksJudgement m) e e' low f =
        both_alone c trusted plan h x y alike p (judged_after_reply m (attached s (host_plan plan h) x.desk m) (judged s (host_plan plan h) x.desk m)) (judged_after_reply m (attached s (host_plan plan h) y.desk m) (judged s (host_plan plan h) y.desk m))
        (inl (ap₂ (λ d o. option_map (judged_after_reply m (attached s (host_plan plan h) d m) (judged s (host_plan plan h) d m)) o) alike.desk (e ∙ sym e')))
        (low_mono c (is_in trusted h) x.procs p _ z e low) (low_mono c (is_in trusted h) y.procs p _ z e' low)

    -- two High processes that release the same
    module _ (u v : Process) (e : slice_get x.procs p ≡ Some u) (e' : slice_get y.procs p ≡ Some v) (hu : high_proc c (is_in trusted h) u ≡ true) (hv : high_proc c (is_in trusted h) v ≡ true) where
      mono_by : (w : Host) (z : Process) → slice_get w.procs p ≡ Some z → high_proc c (is_in trusted h) z ≡ true → (next : Process) → Follows z next → Mono c (is_in trusted h) w.procs (at p (λ _. next) w.procs)
      mono_by w z q hz next f = mono_at c (is_in trusted h) p (λ _. next) w.procs (λ _. next_high w p z next q hz f)

      act_high : (w : Host) (z : Process) → slice_get w.procs p ≡ Some z → high_proc c (is_in trusted h) z ≡ true → (r g : ℕ) (a : Act) (reply : Reply) → high_at c (is_in trusted h) (option_map (act_after_reply r g a reply) (slice_get w.procs p)) ≡ true
      act_high w z q hz r g a reply = high_map c (is_in trusted h) (act_after_reply r g a reply) (λ i. high_stays c (is_in trusted h) i (act_after_reply r g a reply i) (act_stays c r g a reply i)) (slice_get w.procs p) (here_high w p z q hz)

      both_put : (b : ℕ) (m : Mail Category) (n n' : Process) → Follows u n → Follows v n' → AlikeHosts c trusted plan h (perform s (host_plan plan h) x p (Put b m n)) (perform s (host_plan plan h) y p (Put b m n'))
      both_put b m n n' f f' = both_box c trusted plan h x y alike p (λ _. n) (λ _. n') (inr (next_high x p u n e hu f, next_high y p v n' e' hv f')) (mono_by x u e hu n f) (mono_by y v e' hv n' f') b (put (box_plan (host_plan plan h) b).room m)

      both_admit : (l : ℕ) (m : Message) (n n' : Process) → Follows u n → Follows v n' → AlikeHosts c trusted plan h (perform s (host_plan plan h) x p (Admit l m n)) (perform s (host_plan plan h) y p (Admit l m n'))
      both_admit l m n n' f f' = both_queue c trusted plan h x y alike p (λ _. n) (λ _. n') (inr (next_high x p u n e hu f, next_high y p v n' e' hv f')) (mono_by x u e hu n f) (mono_by y v e' hv n' f') l (admit (lane_plan (host_plan plan h) l).room (record { sender = p; message = m })) (admitted_lines (lane_plan (host_plan plan h) l).room (record { sender = p; message = m }))

      both_do : (a : Act) (r g r' g' : ℕ) → AlikeHosts c trusted plan h (perform s (host_plan plan h) x p (PublicAct a r g)) (perform s (host_plan plan h) y p (PublicAct a r' g'))
      both_do a r g r' g' = both_desk c trusted plan h x y alike p (act_after_reply r g a (reply_of s (host_plan plan h) x.desk (act_entry s (host_plan plan h) x.desk a))) (act_after_reply r' g' a (reply_of s (host_plan plan h) y.desk (act_entry s (host_plan plan h) y.desk a)))
          (inr (act_high x u e hu r g a (reply_of s (host_plan plan h) x.desk (act_entry s (host_plan plan h) x.desk a)), act_high y v e' hv r' g' a (reply_of s (host_plan plan h) y.desk (act_entry s (host_plan plan h) y.desk a))))
          (mono_at c (is_in trusted h) p (act_after_reply r g a (reply_of s (host_plan plan h) x.desk (act_entry s (host_plan plan h) x.desk a))) x.procs (λ _. act_high x u e hu r g a (reply_of s (host_plan plan h) x.desk (act_entry s (host_plan plan h) x.desk a))))
          (mono_at c (is_in trusted h) p (act_after_reply r' g' a (reply_of s (host_plan plan h) y.desk (act_entry s (host_plan plan h) y.desk a))) y.procs (λ _. act_high y v e' hv r' g' a (reply_of s (host_plan plan h) y.desk (act_entry s (host_plan plan h) y.desk a))))
          (desk_after (host_plan plan h).key (act_entry s (host_plan plan h) x.desk a) x.desk) (desk_after (host_plan plan h).key (act_entry s (host_plan plan h) y.desk a) y.desk) (ap (λ d. (desk_after (host_plan plan h).key (act_entry s (host_plan plan h) d a) d)) alike.desk)

      release_put : (b : ℕ) (m : Mail Category) (n : Process) (a : Ask) → Follows u n → AskFacts (host_plan plan h) p v a → (next : Process) × (a ≡ Put b m next) → AlikeHosts c trusted plan h (perform s (host_plan plan h) x p (Put b m n)) (perform s (host_plan plan h) y p a)
      release_put b m n a f g (next, is) = subst (λ a'. AlikeHosts c trusted plan h (perform s (host_plan plan h) x p (Put b m n)) (perform s (host_plan plan h) y p a')) (sym is) (both_put b m n next f (subst (AskFacts (host_plan plan h) p v) is g).0)

      release_admit : (l : ℕ) (m : Message) (n : Process) (a : Ask) → Follows u n → AskFacts (host_plan plan h) p v a → (next : Process) × (a ≡ Admit l m next) → AlikeHosts c trusted plan h (perform s (host_plan plan h) x p (Admit l m n)) (perform s (host_plan plan h) y p a)
      release_admit l m n a f g (next, is) = subst (λ a'. AlikeHosts c trusted plan h (perform s (host_plan plan h) x p (Admit l m n)) (perform s (host_plan plan h) y p a')) (sym is) (both_admit l m n next f (subst (AskFacts (host_plan plan h) p v) is g).0)

      release_do : (a : Act) (r g : ℕ) (k : Ask) → (r' : ℕ) × (g' : ℕ) × (k ≡ PublicAct a r' g') → AlikeHosts c trusted plan h (perform s (host_plan plan h) x p (PublicAct a r g)) (perform s (host_plan plan h) y p k)
      release_do a r g k (r', g', is) = subst (λ a'. AlikeHosts c trusted plan h (perform s (host_plan plan h) x p (PublicAct a r g)) (perform s (host_plan plan h) y p a')) (sym is) (both_do a r g r' g')

      release_mail : (b : ℕ) (m : Mail Category) (n : Process) (a : Ask) (k : Bool) → Follows u n → AskFacts (host_plan plan h) p v a → unless_has k (ToBox b m) ≡ released c a → unless_has k (ToBox b m) ≢ None → AlikeHosts c trusted plan h (perform s (host_plan plan h) x p (Put b m n)) (perform s (host_plan plan h) y p a)
      release_mail b m n a true f g eq low = absurd (low refl)
      release_mail b m n a false f g eq low = release_put b m n a f g (put_released c b m a (sym eq))

      release_message : (l : ℕ) (m : Message) (n : Process) (a : Ask) (k : Bool) → Follows u n → AskFacts (host_plan plan h) p v a → unless_has k (ToLane l m) ≡ released c a → unless_has k (ToLane l m) ≢ None → AlikeHosts c trusted plan h (perform s (host_plan plan h) x p (Admit l m n)) (perform s (host_plan plan h) y p a)
      release_message l m n a true f g eq low = absurd (low refl)
      release_message l m n a false f g eq low = release_admit l m n a f g (admit_released c l m a (sym eq))

      release : (a a' : Ask) → AskFacts (host_plan plan h) p u a → AskFacts (host_plan plan h) p v a' → released c a ≡ released c a' → released c a ≢ None → AlikeHosts c trusted plan h (perform s (host_plan plan h) x p a) (perform s (host_plan plan h) y p a')
      release (Put b m n) a' f g eq low = release_mail b m n a' (has by_name c m.label) f.0 g eq low
      release (Admit l m n) a' f g eq low = release_message l m n a' (has by_name c m.label) f.0 g eq low
      release (PublicAct a r i) a' f g eq low = release_do a r i a' (do_released c a a' (sym eq))
      release Waits a' f g eq low = absurd (low refl)
      release (Internal next) a' f g eq low = absurd (low refl)
      release (TakeFrom b r slot) a' f g eq low = absurd (low refl)
      release (AsksJudgement m) a' f g eq low = absurd (low refl)

    -- the step of one process with equal marks
    same_procs : (u v : Process) → slice_get x.procs p ≡ Some u → slice_get y.procs p ≡ Some v → Alike (high_at c (is_in trusted h) (Some u)) (high_at c (is_in trusted h) (Some v)) (Some u) (Some v) →
        mark_proc c (is_in trusted h) (host_plan plan h) h p (Some u) ≡ mark_proc c (is_in trusted h) (host_plan plan h) h p (Some v) → mark_proc c (is_in trusted h) (host_plan plan h) h p (Some u) ≢ High →
        AlikeHosts c trusted plan h (perform s (host_plan plan h) x p (ask (host_plan plan h) p u)) (perform s (host_plan plan h) y p (ask (host_plan plan h) p v))
    same_procs u v e e' r eq low = go (high_proc c (is_in trusted h) u) (high_proc c (is_in trusted h) v) refl refl r eq low
      where
        go : (a b : Bool) → high_proc c (is_in trusted h) u ≡ a → high_proc c (is_in trusted h) v ≡ b → Alike a b (Some u) (Some v) →
            cond a (mark_released h p (released c (ask (host_plan plan h) p u))) (Low (Step h p)) ≡ cond b (mark_released h p (released c (ask (host_plan plan h) p v))) (Low (Step h p)) →
            cond a (mark_released h p (released c (ask (host_plan plan h) p u))) (Low (Step h p)) ≢ High →
            AlikeHosts c trusted plan h (perform s (host_plan plan h) x p (ask (host_plan plan h) p u)) (perform s (host_plan plan h) y p (ask (host_plan plan h) p v))
        go true true hu hv r' eq' low' = release u v e e' hu hv (ask (host_plan plan h) p u) (ask (host_plan plan h) p v) (ask_facts (host_plan plan h) p u) (ask_facts (host_plan plan h) p v) (marked_same h p _ _ eq') (λ bad. low' (ap (mark_released h p) bad))
        go false b hu hv (inl i) eq' low' = let i' : u ≡ v = cc in subst (λ z. AlikeHosts c trusted plan h (perform s (host_plan plan h) x p (ask (host_plan plan h) p u)) (perform s (host_plan plan h) y p (ask (host_plan plan h) p z))) i'
            (low_ask u (ask (host_plan plan h) p u) e (e' ∙ sym i) hu (ask_facts (host_plan plan h) p u))
        go true false hu hv (inl i) eq' low' = absurd (not_both (high_proc c (is_in trusted h) u) hu (ap (high_at c (is_in trusted h)) i ∙ hv))
        go false b hu hv (inr i) eq' low' = absurd (grind arith)
        go true false hu hv (inr i) eq' low' = absurd (grind arith)

    pub same_step : (o q : Option Process) → slice_get x.procs p ≡ o → slice_get y.procs p ≡ q → Alike (high_at c (is_in trusted h) o) (high_at c (is_in trusted h) q) o q →
        mark_proc c (is_in trusted h) (host_plan plan h) h p o ≡ mark_proc c (is_in trusted h) (host_plan plan h) h p q → mark_proc c (is_in trusted h) (host_plan plan h) h p o ≢ High →
        AlikeHosts c trusted plan h (step_proc s (host_plan plan h) x p o) (step_proc s (host_plan plan h) y p q)
    same_step None None e e' r eq low = alike
    same_step (Some u) (Some v) e e' r eq low = same_procs u v e e' r eq low
    same_step None (Some v) e e' (inl i) eq low = absurd (grind arith)
    same_step None (Some v) e e' (inr i) eq low = absurd (grind arith)
    same_step (Some u) None e e' (inl i) eq low = absurd (grind arith)
    same_step (Some u) None e e' (inr i) eq low = absurd (grind arith)
