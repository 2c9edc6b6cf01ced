-- Equal but for what is High: there and back, and on.
use Rattle.std.proofs.Common.{◌≡◌, ℕ, Bool, List, ◌&&◌, ◌||◌, Option, Some, None, sym, ◌∙◌, ap, ◌⊎◌, inl, inr}
use Rattle.ds_label.specs.declared.category.Category.{Category}
use Rattle.ds_label.specs.Flow.{has}
use Rattle.ds_label.specs.Names.{by_name}
use Rattle.ds_model.specs.Plan.{HostPlan, Plan, host_plan, box_plan}
use Rattle.ds_model.specs.World.{Process, Host, World}
use Rattle.ds_noninterference.specs.High.{is_in, high_at, high_box}
use Rattle.ds_noninterference.specs.Alike.{Alike, AlikeProcs, AlikeHosts, AlikeAt, AlikeWorlds}

flip : {X : Type 0} {a b : Bool} {x y : X} → Alike a b x y → Alike b a y x
flip (inl e) = inl (sym e)
flip (inr h) = inr (h.1, h.0)

join : {X : Type 0} {a b d : Bool} {x y z : X} → a ≡ b → b ≡ d → Alike a b x y → Alike b d y z → Alike a d x z
join p q (inl e) (inl f) = inl (e ∙ f)
join p q (inl e) (inr h) = inr (p ∙ h.0, h.1)
join p q (inr h) (inl f) = inr (h.0, sym q ∙ h.1)
join p q (inr h) (inr k) = inr (h.0, k.1)

flip_or : {X H : Type 0} {x y : X} → (x ≡ y) ⊎ H → (y ≡ x) ⊎ H
flip_or (inl e) = inl (sym e)
flip_or (inr h) = inr h

join_or : {X H : Type 0} {x y z : X} → (x ≡ y) ⊎ H → (y ≡ z) ⊎ H → (x ≡ z) ⊎ H
join_or (inl e) (inl f) = inl (e ∙ f)
join_or (inr h) r = inr h
join_or (inl e) (inr h) = inr h

pub high_same : (c : Category) (t : Bool) (o q : Option Process) → Alike (high_at c t o) (high_at c t q) o q → high_at c t o ≡ high_at c t q
high_same c t o q (inl e) = ap (high_at c t) e
high_same c t o q (inr h) = h.0 ∙ sym h.1

pub box_same : (c : Category) (t : Bool) (plan : HostPlan) (ps qs : List Process) → AlikeProcs c t ps qs → (b : ℕ) → high_box c t plan ps b ≡ high_box c t plan qs b
box_same c t plan ps qs alike b = ap (λ z. t && (has by_name c (box_plan plan b).label || z)) (high_same c t _ _ (alike (box_plan plan b).owner))

module _ (c : Category) (trusted : List ℕ) (plan : Plan) where
  flip_hosts : (h : ℕ) (x y : Host) → AlikeHosts c trusted plan h x y → AlikeHosts c trusted plan h y x
  flip_hosts h x y r = record { desk = sym r.desk; procs = λ p. flip (r.procs p); boxes = λ b. flip (r.boxes b); queues = λ l. flip_or (r.queues l); workers = λ l. flip_or (r.workers l); logs = λ l. flip_or (r.logs l); inlets = λ i. flip_or (r.inlets i) }

  join_hosts : (h : ℕ) (x y z : Host) → AlikeHosts c trusted plan h x y → AlikeHosts c trusted plan h y z → AlikeHosts c trusted plan h x z
  join_hosts h x y z r k = record {
    desk = r.desk ∙ k.desk;
    procs = λ p. join (high_same c (is_in trusted h) _ _ (r.procs p)) (high_same c (is_in trusted h) _ _ (k.procs p)) (r.procs p) (k.procs p);
    boxes = λ b. join (box_same c (is_in trusted h) (host_plan plan h) x.procs y.procs r.procs b) (box_same c (is_in trusted h) (host_plan plan h) y.procs z.procs k.procs b) (r.boxes b) (k.boxes b);
    queues = λ l. join_or (r.queues l) (k.queues l);
    workers = λ l. join_or (r.workers l) (k.workers l);
    logs = λ l. join_or (r.logs l) (k.logs l);
    inlets = λ i. join_or (r.inlets i) (k.inlets i);
  }

  flip_at : (h : ℕ) (o q : Option Host) → AlikeAt c trusted plan h o q → AlikeAt c trusted plan h q o
  flip_at h None None r = tt
  flip_at h (Some x) (Some y) r = flip_hosts h x y r
  flip_at h None (Some y) r = r
  flip_at h (Some x) None r = r

  join_at : (h : ℕ) (o q u : Option Host) → AlikeAt c trusted plan h o q → AlikeAt c trusted plan h q u → AlikeAt c trusted plan h o u
  join_at h None None None r k = tt
  join_at h (Some x) (Some y) (Some z) r k = join_hosts h x y z r k
  join_at h None None (Some z) r k = k
  join_at h None (Some y) u r k = absurd r
  join_at h (Some x) None u r k = absurd r
  join_at h (Some x) (Some y) None r k = k

  pub flip_worlds : (v w : World) → AlikeWorlds c trusted plan v w → AlikeWorlds c trusted plan w v
  flip_worlds v w r = record { hosts = λ h. flip_at h _ _ (r.hosts h); conns = λ k. flip_or (r.conns k) }

  pub join_worlds : (u v w : World) → AlikeWorlds c trusted plan u v → AlikeWorlds c trusted plan v w → AlikeWorlds c trusted plan u w
  join_worlds u v w r k = record { hosts = λ h. join_at h _ _ _ (r.hosts h) (k.hosts h); conns = λ j. join_or (r.conns j) (k.conns j) }
