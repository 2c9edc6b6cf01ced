-- One event of a process, on its host: quiet where the process is High and releases nothing, the same on both sides otherwise.
use Rattle.std.proofs.Common.{◌≡◌, ℕ, Bool, true, false, List, ◌||◌, Option, Some, None, slice_get, option_map, refl, sym, ◌∙◌, ap, ap₂, subst, ◌⊎◌, inl, inr}
use Rattle.ds_label.specs.declared.category.Category.{Category}
use Rattle.ds_label.specs.declared.rule.Rule.{Rule}
use Rattle.ds_label.specs.Flow.{has, flows, union}
use Rattle.ds_label.specs.Names.{is_secrecy, by_name}
use Rattle.ds_msg.specs.declared.message.Message.{Message}
use Rattle.ds_model.specs.Lists.{at}
use Rattle.ds_model.specs.ProcessRules.{can_grant}
use Rattle.ds_model.specs.Plan.{HostPlan, Plan, host_plan, box_plan}
use Rattle.ds_model.specs.Desk.{Desk, Act, Reply}
use Rattle.ds_model.specs.World.{Process, Mail, Mailbox, Queue, LaneLine, Host}
use Rattle.ds_model.specs.ProcessStep.{taken_after_reply, act_after_reply, judged_after_reply}
use Rattle.ds_model.specs.Step.{lined}
use Rattle.ds_noninterference.specs.High.{is_in, high_proc, high_at, high_box}
use Rattle.ds_noninterference.specs.Alike.{Alike, Hidden, AlikeProcs, AlikeHosts}
use Rattle.ds_model.proofs.Places.{at_here, at_other, cond_case, at_each}
use Rattle.ds_noninterference.proofs.Places.{both_at, one_at}
use Rattle.ds_noninterference.proofs.Flow.{and_left, and_right, and_both, or_cases, or_left, or_right, not_both, flows_carries, union_keeps}

-- each process that was High is High
abbrev pub Mono : Category → Bool → List Process → List Process → Type 0
Mono c t ps qs = (j : ℕ) → high_at c t (slice_get ps j) ≡ true → high_at c t (slice_get qs j) ≡ true

pub mono_at : (c : Category) (t : Bool) (p : ℕ) (f : Process → Process) (ps : List Process) →
    (high_at c t (slice_get ps p) ≡ true → high_at c t (option_map f (slice_get ps p)) ≡ true) → Mono c t ps (at p f ps)
mono_at c t p f ps here = at_each (λ j. high_at c t (slice_get ps j) ≡ true → high_at c t (slice_get (at p f ps) j) ≡ true) p
    (λ h. ap (high_at c t) (at_here p f ps) ∙ here h)
    (λ j n h. ap (high_at c t) (at_other p j f ps n) ∙ h)

-- a mailbox that was High is High
pub box_mono : (c : Category) (t : Bool) (plan : HostPlan) (ps qs : List Process) → Mono c t ps qs → (b : ℕ) → high_box c t plan ps b ≡ true → high_box c t plan qs b ≡ true
box_mono c t plan ps qs mono b h = and_both _ _ (and_left _ _ h) (go (or_cases _ _ (and_right _ _ h)))
  where
    go : (has by_name c (box_plan plan b).label ≡ true) ⊎ (high_at c t (slice_get ps (box_plan plan b).owner) ≡ true) → (has by_name c (box_plan plan b).label || high_at c t (slice_get qs (box_plan plan b).owner)) ≡ true
    go (inl l) = or_left _ _ l
    go (inr o) = or_right _ _ (mono _ o)

pub weaken : {X : Type 0} {a b a' b' : Bool} {x y : X} → (a ≡ true → a' ≡ true) → (b ≡ true → b' ≡ true) → Alike a b x y → Alike a' b' x y
weaken f g (inl e) = inl e
weaken f g (inr h) = inr (f h.0, g h.1)

-- High stays High in a step of one process
abbrev pub Stays : Category → Process → Process → Type 0
Stays c x y = (has by_name c x.label || has by_name c x.own) ≡ true → (has by_name c y.label || has by_name c y.own) ≡ true

pub high_stays : (c : Category) (t : Bool) (x y : Process) → Stays c x y → high_proc c t x ≡ true → high_proc c t y ≡ true
high_stays c t x y s h = and_both _ _ (and_left _ _ h) (s (and_right _ _ h))

pub taken_stays : (c : Category) (reg slot : ℕ) (o : Option (Mail Category)) (x : Process) → Stays c x (taken_after_reply reg slot o x)
taken_stays c reg slot None x h = h
taken_stays c reg slot (Some m) x h = cond_case (λ z. (has by_name c z.label || has by_name c z.own) ≡ true) (can_grant by_name x.own x.clear m.own m.clear) (record x { own = union by_name x.own m.own; clear = union by_name x.clear m.clear }) x (λ _. go (or_cases _ _ h)) (λ _. h)
  where
    go : (has by_name c x.label ≡ true) ⊎ (has by_name c x.own ≡ true) → (has by_name c x.label || has by_name c (union by_name x.own m.own)) ≡ true
    go (inl l) = or_left _ _ l
    go (inr o) = or_right _ _ (union_keeps c x.own m.own o)

pub act_stays : (c : Category) (reg host : ℕ) (a : Act) (o : Reply) (x : Process) → Stays c x (act_after_reply reg host a o x)
act_stays c reg host a o x h = h

pub judged_stays : (c : Category) (m : Message) (certs : List (List ℕ)) (o : Option Rule) (x : Process) → Stays c x (judged_after_reply m certs o x)
judged_stays c m certs (Some rule) x h = h
judged_stays c m certs None x h = h

pub high_map : (c : Category) (t : Bool) (f : Process → Process) → ((x : Process) → high_proc c t x ≡ true → high_proc c t (f x) ≡ true) → (o : Option Process) → high_at c t o ≡ true → high_at c t (option_map f o) ≡ true
high_map c t f s None h = h
high_map c t f s (Some x) h = s x h

-- a constant next state
pub high_next : (c : Category) (t : Bool) (x next : Process) (o : Option Process) → o ≡ Some x → Stays c x next → high_at c t o ≡ true → high_at c t (option_map (λ _. next) o) ≡ true
high_next c t x next o e s h = subst (λ o'. high_at c t (option_map (λ _. next) o') ≡ true) (sym e) (high_stays c t x next s (subst (λ o'. high_at c t o' ≡ true) e h))

-- where the process isn't High, nothing High changes
pub low_mono : (c : Category) (t : Bool) (ps : List Process) (p : ℕ) (f : Process → Process) (x : Process) → slice_get ps p ≡ Some x → high_proc c t x ≡ false → Mono c t ps (at p f ps)
low_mono c t ps p f x e low = mono_at c t p f ps (λ h. absurd (not_both (high_proc c t x) (sym (ap (high_at c t) e) ∙ h) low))

-- a process that isn't High takes from equal mailboxes
pub low_box : (c : Category) → is_secrecy c.kind ≡ true → (t : Bool) (plan : HostPlan) (ps : List Process) (p : ℕ) (x : Process) (b : ℕ) → p ≡ (box_plan plan b).owner → flows by_name (box_plan plan b).label x.label x.own ≡ true → slice_get ps p ≡ Some x → high_proc c t x ≡ false → {X : Type 0} {k : Bool} {o q : X} → Alike (high_box c t plan ps b) k o q → o ≡ q
low_box c secret t plan ps p x b own flow e low (inl r) = r
low_box c secret t plan ps p x b own flow e low (inr (high, _)) = absurd (not_both (high_proc c t x) (and_both _ _ (and_left _ _ high) (go (or_cases _ _ (and_right _ _ high)))) low)
  where
    go : (has by_name c (box_plan plan b).label ≡ true) ⊎ (high_at c t (slice_get ps (box_plan plan b).owner) ≡ true) → (has by_name c x.label || has by_name c x.own) ≡ true
    go (inl l) = flows_carries c (box_plan plan b).label x.label x.own secret flow l
    go (inr o) = and_right _ _ (sym (ap (high_at c t) (ap (slice_get ps) (sym own) ∙ e)) ∙ o)

module _ (c : Category) (trusted : List ℕ) (plan : Plan) (h : ℕ) where
  -- one host

  pub alike_self : (x : Host) → AlikeHosts c trusted plan h x x
  alike_self x = record { desk = refl; procs = λ p. inl refl; boxes = λ b. inl refl; queues = λ l. inl refl; workers = λ l. inl refl; logs = λ l. inl refl; inlets = λ i. inl refl }

  -- a High process changes
  pub quiet_proc : (x : Host) (p : ℕ) (f : Process → Process) → high_at c (is_in trusted h) (slice_get x.procs p) ≡ true → high_at c (is_in trusted h) (option_map f (slice_get x.procs p)) ≡ true → AlikeHosts c trusted plan h x (record x { procs = at p f x.procs })
  quiet_proc x p f old new = record {
    desk = refl;
    procs = one_at (λ j a b. Alike (high_at c (is_in trusted h) a) (high_at c (is_in trusted h) b) a b) p f x.procs (λ j n. inl refl) (inr (old, new));
    boxes = λ b. inl refl;
    queues = λ l. inl refl;
    workers = λ l. inl refl;
    logs = λ l. inl refl;
    inlets = λ i. inl refl;
  }

  -- and a High mailbox
  pub quiet_box : (x : Host) (p b : ℕ) (f : Process → Process) (g : Mailbox → Mailbox) → high_at c (is_in trusted h) (slice_get x.procs p) ≡ true → high_at c (is_in trusted h) (option_map f (slice_get x.procs p)) ≡ true → high_box c (is_in trusted h) (host_plan plan h) x.procs b ≡ true → AlikeHosts c trusted plan h x (record x { procs = at p f x.procs; boxes = at b g x.boxes })
  quiet_box x p b f g old new high = record {
    desk = refl;
    procs = one_at (λ j a b. Alike (high_at c (is_in trusted h) a) (high_at c (is_in trusted h) b) a b) p f x.procs (λ j n. inl refl) (inr (old, new));
    boxes = one_at (λ j a d. Alike (high_box c (is_in trusted h) (host_plan plan h) x.procs j) (high_box c (is_in trusted h) (host_plan plan h) (at p f x.procs) j) a d) b g x.boxes (λ j n. inl refl)
        (inr (high, box_mono c (is_in trusted h) (host_plan plan h) x.procs (at p f x.procs) (mono_at c (is_in trusted h) p f x.procs (λ _. new)) b high));
    queues = λ l. inl refl;
    workers = λ l. inl refl;
    logs = λ l. inl refl;
    inlets = λ i. inl refl;
  }

  -- and a hidden lane
  pub quiet_queue : (x : Host) (p l : ℕ) (f : Process → Process) (g : Queue → Queue) (lines : List LaneLine) → high_at c (is_in trusted h) (slice_get x.procs p) ≡ true → high_at c (is_in trusted h) (option_map f (slice_get x.procs p)) ≡ true → Hidden c trusted plan h l → AlikeHosts c trusted plan h x (record x { procs = at p f x.procs; queues = at l g x.queues; logs = at l (lined lines) x.logs })
  quiet_queue x p l f g lines old new hidden = record {
    desk = refl;
    procs = one_at (λ j a b. Alike (high_at c (is_in trusted h) a) (high_at c (is_in trusted h) b) a b) p f x.procs (λ j n. inl refl) (inr (old, new));
    boxes = λ b. inl refl;
    queues = one_at (λ j a b. (a ≡ b) ⊎ Hidden c trusted plan h j) l g x.queues (λ j n. inl refl) (inr hidden);
    logs = one_at (λ j a b. (a ≡ b) ⊎ Hidden c trusted plan h j) l (lined lines) x.logs (λ j n. inl refl) (inr hidden);
    workers = λ l. inl refl;
    inlets = λ i. inl refl;
  }

  -- a process changes on both sides
  module _ (x y : Host) (alike : AlikeHosts c trusted plan h x y) (p : ℕ) (f g : Process → Process)
      (here : Alike (high_at c (is_in trusted h) (option_map f (slice_get x.procs p))) (high_at c (is_in trusted h) (option_map g (slice_get y.procs p))) (option_map f (slice_get x.procs p)) (option_map g (slice_get y.procs p)))
      (mono_x : Mono c (is_in trusted h) x.procs (at p f x.procs)) (mono_y : Mono c (is_in trusted h) y.procs (at p g y.procs)) where
    pub both_procs : AlikeProcs c (is_in trusted h) (at p f x.procs) (at p g y.procs)
    both_procs = both_at (λ j a b. Alike (high_at c (is_in trusted h) a) (high_at c (is_in trusted h) b) a b) (λ j a b. Alike (high_at c (is_in trusted h) a) (high_at c (is_in trusted h) b) a b) p f g x.procs y.procs alike.procs (λ j n r. r) (λ r. here)

    pub both_boxes_weak : (b : ℕ) {o q : Option Mailbox} → Alike (high_box c (is_in trusted h) (host_plan plan h) x.procs b) (high_box c (is_in trusted h) (host_plan plan h) y.procs b) o q → Alike (high_box c (is_in trusted h) (host_plan plan h) (at p f x.procs) b) (high_box c (is_in trusted h) (host_plan plan h) (at p g y.procs) b) o q
    both_boxes_weak b = weaken (box_mono c (is_in trusted h) (host_plan plan h) x.procs (at p f x.procs) mono_x b) (box_mono c (is_in trusted h) (host_plan plan h) y.procs (at p g y.procs) mono_y b)

    pub both_alone : AlikeHosts c trusted plan h (record x { procs = at p f x.procs }) (record y { procs = at p g y.procs })
    both_alone = record { desk = alike.desk; procs = both_procs; boxes = λ b. both_boxes_weak b (alike.boxes b); queues = alike.queues; workers = alike.workers; logs = alike.logs; inlets = alike.inlets }

    -- the desks are equal again
    pub both_desk : (d e : Desk) → d ≡ e → AlikeHosts c trusted plan h (record x { desk = d; procs = at p f x.procs }) (record y { desk = e; procs = at p g y.procs })
    both_desk d e q = record { desk = q; procs = both_procs; boxes = λ b. both_boxes_weak b (alike.boxes b); queues = alike.queues; workers = alike.workers; logs = alike.logs; inlets = alike.inlets }

    -- the same is done to the same mailbox
    pub both_box : (b : ℕ) (k : Mailbox → Mailbox) → AlikeHosts c trusted plan h (record x { procs = at p f x.procs; boxes = at b k x.boxes }) (record y { procs = at p g y.procs; boxes = at b k y.boxes })
    both_box b k = record {
      desk = alike.desk;
      procs = both_procs;
      boxes = both_at (λ j o q. Alike (high_box c (is_in trusted h) (host_plan plan h) x.procs j) (high_box c (is_in trusted h) (host_plan plan h) y.procs j) o q) (λ j o q. Alike (high_box c (is_in trusted h) (host_plan plan h) (at p f x.procs) j) (high_box c (is_in trusted h) (host_plan plan h) (at p g y.procs) j) o q) b k k x.boxes y.boxes alike.boxes (λ j n r. both_boxes_weak j r) (λ r. both_boxes_weak b (same r));
      queues = alike.queues;
      workers = alike.workers;
      logs = alike.logs;
      inlets = alike.inlets;
    }
      where
        same : {u v : Bool} {o q : Option Mailbox} → Alike u v o q → Alike u v (option_map k o) (option_map k q)
        same (inl e) = inl (ap (option_map k) e)
        same (inr r) = inr r

    pub both_queue : (l : ℕ) (k : Queue → Queue) (lines : Option Queue → List LaneLine) → AlikeHosts c trusted plan h (record x { procs = at p f x.procs; queues = at l k x.queues; logs = at l (lined (lines (slice_get x.queues l))) x.logs }) (record y { procs = at p g y.procs; queues = at l k y.queues; logs = at l (lined (lines (slice_get y.queues l))) y.logs })
    both_queue l k lines = record {
      desk = alike.desk;
      procs = both_procs;
      boxes = λ b. both_boxes_weak b (alike.boxes b);
      queues = both_at (λ j o q. (o ≡ q) ⊎ Hidden c trusted plan h j) (λ j o q. (o ≡ q) ⊎ Hidden c trusted plan h j) l k k x.queues y.queues alike.queues (λ j n r. r) same;
      logs = both_at (λ j o q. (o ≡ q) ⊎ Hidden c trusted plan h j) (λ j o q. (o ≡ q) ⊎ Hidden c trusted plan h j) l (lined (lines (slice_get x.queues l))) (lined (lines (slice_get y.queues l))) x.logs y.logs alike.logs (λ j n r. r) (both_lines (alike.queues l));
      workers = alike.workers;
      inlets = alike.inlets;
    }
      where
        both_lines : {o q : Option Queue} {u v : Option (List LaneLine)} → (o ≡ q) ⊎ Hidden c trusted plan h l → (u ≡ v) ⊎ Hidden c trusted plan h l → (option_map (lined (lines o)) u ≡ option_map (lined (lines q)) v) ⊎ Hidden c trusted plan h l
        both_lines (inl e) (inl i) = inl (ap₂ (λ o u. option_map (lined (lines o)) u) e i)
        both_lines (inl e) (inr r) = inr r
        both_lines (inr r) i = inr r

        same : {o q : Option Queue} → (o ≡ q) ⊎ Hidden c trusted plan h l → (option_map k o ≡ option_map k q) ⊎ Hidden c trusted plan h l
        same (inl e) = inl (ap (option_map k) e)
        same (inr r) = inr r
