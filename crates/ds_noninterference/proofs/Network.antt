-- The network's two runs meet the premises of the law.
use Rattle.std.proofs.Common.{◌≡◌, ◌<◌, ℕ, zero, suc, Bool, true, false, cond, eqb, List, [], ◌∷◌, ◌++◌, ◌||◌, Option, Some, None, slice_get, take, map, Contains, refl, sym, ◌∙◌, ap, subst, ◌⊎◌, inl, inr, arith}
use Rattle.std.specs.List.{list_any}
use Rattle.ds_label.specs.declared.category.PubKey.{PubKey}
use Rattle.ds_label.specs.declared.category.Category.{Category}
use Rattle.ds_cert.specs.declared.delegation.Delegation.{Delegation}
use Rattle.ds_cert.specs.declared.lane.LaneCert.{LaneCert}
use Rattle.ds_script.specs.declared.op.Op.{Op}
use Rattle.ds_model.specs.Keys.{same_key}
use Rattle.ds_model.specs.Plan.{HostPlan, Link, OfLane, IsHost, IsLane, host_plan, conn_plan, lane_plan}
use Rattle.ds_model.specs.ConnectionStep.{peer, hello_of}
use Rattle.ds_model.specs.World.{Process, Queue, Worker, Conn, Host, World}
use Rattle.ds_model.specs.Setup.{IsSetup}
use Rattle.ds_model.specs.Step.{Event, step, arrived}
use Rattle.ds_noninterference.specs.High.{is_in, high_at, high_lane, IsTrusted}
use Rattle.ds_noninterference.specs.Observations.{Along, marks}
use Rattle.ds_noninterference.specs.Alike.{Alike, AlikeAt, AlikeWorlds}
use Rattle.ds_noninterference.specs.Premises.{IsScheme, Fits, Obeys, Unforged, NothingForged, IssuesInside}
use Rattle.ds_noninterference.specs.Network.{a_key, b_key, x_key, secret, to_b, high_cert, low_cert, own_cert, cert_of, items_if, items_by, names_key, net_scheme, net, both, a_world, b_world, x_world, net_world, yes_script, no_script, yes_events, no_events, IsNetMet}
use Rattle.ds_noninterference.proofs.Flow.{and_left, and_right, or_cases, same_key_is, same_category_is}

none_some : {X : Type 0} (x : X) → None ≡ Some x → ⊥
none_some x e = grind arith

some_is : {X : Type 0} (x y : X) → Some x ≡ Some y → x ≡ y
some_is x y e = cc

-- of lists

in_head : {X : Type 0} (x : X) (xs : List X) → Contains (x ∷ xs) x
in_head x xs = (zero, omega arith, refl)

in_tail : {X : Type 0} (x : X) (xs : List X) (y : X) → Contains xs y → Contains (x ∷ xs) y
in_tail x xs y c = (suc c.0, omega (arith, c.1), c.2)

in_none : {X : Type 0} (y : X) → Contains [] y → ⊥
in_none y c = let lt : c.0 < 0 = c.1 in omega arith

in_one : {X : Type 0} (x y : X) → Contains (x ∷ []) y → x ≡ y
in_one x y (zero, lt, is) = is
in_one x y (suc k, lt, is) = absurd (let l : suc k < 1 = lt in omega arith)

found : {X : Type 0} (test : X → Bool) (xs : List X) → list_any test xs ≡ true → (x : X) × Contains xs x × (test x ≡ true)
found test [] e = absurd (grind arith)
found {X} test (x ∷ xs) e = go (found test xs) (or_cases _ _ e)
  where
    go : (list_any test xs ≡ true → (y : X) × Contains xs y × (test y ≡ true)) → (test x ≡ true) ⊎ (list_any test xs ≡ true) → (y : X) × Contains (x ∷ xs) y × (test y ≡ true)
    go more (inl t) = (x, in_head x xs, t)
    go more (inr t) = let m : (y : X) × Contains xs y × (test y ≡ true) = more t in (m.0, in_tail x xs m.0 m.1, m.2)

-- the scheme

closed : (certs : List Delegation) (moment : ℕ) (c : Category) (inside : PubKey → Bool) → inside c.creator ≡ true →
    ((d : Delegation) → Contains certs d → d.category ≡ c → true ≡ true → inside d.by ≡ true → inside d.to ≡ true) →
    (key : PubKey) → (same_key key c.creator || list_any (names_key c key) certs) ≡ true → inside key ≡ true
closed certs moment c inside start more key held = go (or_cases _ _ held)
  where
    go : (same_key key c.creator ≡ true) ⊎ (list_any (names_key c key) certs ≡ true) → inside key ≡ true
    go (inl same) = subst (λ k. inside k ≡ true) (sym (same_key_is key c.creator same)) start
    go (inr any) =
        let f : (d : Delegation) × Contains certs d × (names_key c key d ≡ true) = found (names_key c key) certs any in
        let about : f.0.category ≡ c = same_category_is f.0.category c (and_left _ _ f.2) in
        let by : f.0.by ≡ c.creator = same_key_is f.0.by c.creator (and_left _ _ (and_right _ _ f.2)) in
        let to : f.0.to ≡ key = same_key_is f.0.to key (and_right _ _ (and_right _ _ f.2)) in
        subst (λ k. inside k ≡ true) to (more f.0 f.1 about refl (subst (λ k. inside k ≡ true) (sym by) start))

if_hello : (b : Bool) (lane : LaneCert) (rest : List ℕ) → (hello_of (slice_get (items_if b lane rest) 0) ≡ None) ⊎ (hello_of (slice_get (items_if b lane rest) 0) ≡ Some lane)
if_hello true lane rest = inr refl
if_hello false lane rest = inl refl

cut_hello : (byte : ℕ) (lane : LaneCert) → cert_of byte ≡ Some lane → (here : HostPlan) (rest : List ℕ) (n : ℕ) → (peer net_scheme here (take n (byte ∷ rest)) ≡ None) ⊎ (peer net_scheme here (take n (byte ∷ rest)) ≡ Some lane)
cut_hello byte lane is here rest zero = inl refl
cut_hello byte lane is here rest (suc n) = subst (λ o. (hello_of (slice_get (items_by here.key o (take n rest)) 0) ≡ None) ⊎ (hello_of (slice_get (items_by here.key o (take n rest)) 0) ≡ Some lane)) (sym is) (if_hello (same_key lane.receiver here.key) lane (take n rest))

hello_first : (h l : ℕ) → IsLane net h l → (here : HostPlan) (rest : List ℕ) (n : ℕ) →
    (peer net_scheme here (take n (net_scheme.hello (lane_plan (host_plan net h) l).cert ++ rest)) ≡ None) ⊎ (peer net_scheme here (take n (net_scheme.hello (lane_plan (host_plan net h) l).cert ++ rest)) ≡ Some (lane_plan (host_plan net h) l).cert)
hello_first zero zero is here rest n = cut_hello 2 high_cert refl here rest n
hello_first zero (suc zero) is here rest n = cut_hello 1 low_cert refl here rest n
hello_first zero (suc (suc l)) is here rest n = absurd (omega arith)
hello_first (suc zero) l is here rest n = absurd (omega arith)
hello_first (suc (suc zero)) l is here rest n = absurd (omega arith)
hello_first (suc (suc (suc h))) l is here rest n = absurd (omega arith)

scheme : IsScheme net_scheme net
scheme = record { closed = closed; hello_first = hello_first }

-- setup

fits : Fits net
fits = record { ends = ends; by = by; lanes = lanes }
  where
    ends : (k h l : ℕ) → (conn_plan net k).source ≡ OfLane h l → IsLane net h l × IsHost net (conn_plan net k).host × ((host_plan net (conn_plan net k).host).key ≡ (lane_plan (host_plan net h) l).cert.receiver)
    ends zero h l e = let i : 0 ≡ h = cc in let j : 0 ≡ l = cc in subst (λ g. IsLane net g l × IsHost net 1 × (b_key ≡ (lane_plan (host_plan net g) l).cert.receiver)) i (subst (λ m. IsLane net 0 m × IsHost net 1 × (b_key ≡ (lane_plan (host_plan net 0) m).cert.receiver)) j (omega arith, omega arith, refl))
    ends (suc zero) h l e = let i : 0 ≡ h = cc in let j : 1 ≡ l = cc in subst (λ g. IsLane net g l × IsHost net 2 × (x_key ≡ (lane_plan (host_plan net g) l).cert.receiver)) i (subst (λ m. IsLane net 0 m × IsHost net 2 × (x_key ≡ (lane_plan (host_plan net 0) m).cert.receiver)) j (omega arith, omega arith, refl))
    ends (suc (suc zero)) h l e = absurd (grind arith)
    ends (suc (suc (suc k))) h l e = absurd (grind arith)

    by : (h l : ℕ) → IsLane net h l → (lane_plan (host_plan net h) l).cert.exporter ≡ (host_plan net h).key
    by zero zero is = refl
    by zero (suc zero) is = refl
    by zero (suc (suc l)) is = absurd (omega arith)
    by (suc zero) l is = absurd (omega arith)
    by (suc (suc zero)) l is = absurd (omega arith)
    by (suc (suc (suc h))) l is = absurd (omega arith)

    lanes : (h l g j : ℕ) → IsLane net h l → IsLane net g j → (lane_plan (host_plan net h) l).cert.exporter ≡ (lane_plan (host_plan net g) j).cert.exporter → (lane_plan (host_plan net h) l).cert.lane ≡ (lane_plan (host_plan net g) j).cert.lane → (h ≡ g) × (l ≡ j)
    lanes zero zero zero zero is is' e n = (refl, refl)
    lanes zero zero zero (suc zero) is is' e n = absurd (omega (arith, n))
    lanes zero (suc zero) zero zero is is' e n = absurd (omega (arith, n))
    lanes zero (suc zero) zero (suc zero) is is' e n = (refl, refl)
    lanes zero (suc (suc l)) g j is is' e n = absurd (omega arith)
    lanes zero zero zero (suc (suc j)) is is' e n = absurd (omega arith)
    lanes zero (suc zero) zero (suc (suc j)) is is' e n = absurd (omega arith)
    lanes (suc zero) l g j is is' e n = absurd (omega arith)
    lanes (suc (suc zero)) l g j is is' e n = absurd (omega arith)
    lanes (suc (suc (suc h))) l g j is is' e n = absurd (omega arith)
    lanes zero l (suc zero) j is is' e n = absurd (omega arith)
    lanes zero l (suc (suc zero)) j is is' e n = absurd (omega arith)
    lanes zero l (suc (suc (suc g))) j is is' e n = absurd (omega arith)

start : (script : List Op) → IsSetup net_scheme net (net_world script)
start script = record { conn_plans = λ k h l e. (fits.ends k h l e).0; procs = procs; queues = queues; workers = workers; conns = conns }
  where
    procs : (h : ℕ) (x : Host) (p : ℕ) (y : Process) → slice_get (net_world script).hosts h ≡ Some x → slice_get x.procs p ≡ Some y → y.hand ≡ None
    procs zero x p y e f = one p (ap (λ (u : Host). slice_get u.procs p) (some_is _ x e) ∙ f)
      where
        one : (p : ℕ) → slice_get (a_world script).procs p ≡ Some y → y.hand ≡ None
        one zero f = ap (λ (u : Process). u.hand) (sym (some_is _ y f))
        one (suc p) f = absurd (none_some y f)
    procs (suc zero) x p y e f = one p (ap (λ (u : Host). slice_get u.procs p) (some_is _ x e) ∙ f)
      where
        one : (p : ℕ) → slice_get b_world.procs p ≡ Some y → y.hand ≡ None
        one zero f = ap (λ (u : Process). u.hand) (sym (some_is _ y f))
        one (suc zero) f = ap (λ (u : Process). u.hand) (sym (some_is _ y f))
        one (suc (suc p)) f = absurd (none_some y f)
    procs (suc (suc zero)) x p y e f = one p (ap (λ (u : Host). slice_get u.procs p) (some_is _ x e) ∙ f)
      where
        one : (p : ℕ) → slice_get x_world.procs p ≡ Some y → y.hand ≡ None
        one zero f = ap (λ (u : Process). u.hand) (sym (some_is _ y f))
        one (suc p) f = absurd (none_some y f)
    procs (suc (suc (suc h))) x p y e f = absurd (none_some x e)

    queues : (h : ℕ) (x : Host) (l : ℕ) (q : Queue) → slice_get (net_world script).hosts h ≡ Some x → slice_get x.queues l ≡ Some q → q ≡ []
    queues zero x l q e f = one l (ap (λ (u : Host). slice_get u.queues l) (some_is _ x e) ∙ f)
      where
        one : (l : ℕ) → slice_get (a_world script).queues l ≡ Some q → q ≡ []
        one zero f = sym (some_is _ q f)
        one (suc zero) f = sym (some_is _ q f)
        one (suc (suc l)) f = absurd (none_some q f)
    queues (suc zero) x l q e f = absurd (none_some q (ap (λ (u : Host). slice_get u.queues l) (some_is _ x e) ∙ f))
    queues (suc (suc zero)) x l q e f = absurd (none_some q (ap (λ (u : Host). slice_get u.queues l) (some_is _ x e) ∙ f))
    queues (suc (suc (suc h))) x l q e f = absurd (none_some x e)

    workers : (h : ℕ) (x : Host) (l : ℕ) (e : Worker) → slice_get (net_world script).hosts h ≡ Some x → slice_get x.workers l ≡ Some e → (e.hand ≡ []) × (e.stream ≡ net_scheme.hello (lane_plan (host_plan net h) l).cert)
    workers zero x l w e f = one l (ap (λ (u : Host). slice_get u.workers l) (some_is _ x e) ∙ f)
      where
        one : (l : ℕ) → slice_get (a_world script).workers l ≡ Some w → (w.hand ≡ []) × (w.stream ≡ net_scheme.hello (lane_plan (host_plan net 0) l).cert)
        one zero f = (ap (λ (u : Worker). u.hand) (sym (some_is _ w f)), ap (λ (u : Worker). u.stream) (sym (some_is _ w f)))
        one (suc zero) f = (ap (λ (u : Worker). u.hand) (sym (some_is _ w f)), ap (λ (u : Worker). u.stream) (sym (some_is _ w f)))
        one (suc (suc l)) f = absurd (none_some w f)
    workers (suc zero) x l w e f = absurd (none_some w (ap (λ (u : Host). slice_get u.workers l) (some_is _ x e) ∙ f))
    workers (suc (suc zero)) x l w e f = absurd (none_some w (ap (λ (u : Host). slice_get u.workers l) (some_is _ x e) ∙ f))
    workers (suc (suc (suc h))) x l w e f = absurd (none_some x e)

    conns : (k : ℕ) (y : Conn) → slice_get (net_world script).conns k ≡ Some y → (y.hand ≡ []) × (y.passed ≡ None)
    conns zero y e = (ap (λ (u : Conn). u.hand) (sym (some_is _ y e)), ap (λ (u : Conn). u.passed) (sym (some_is _ y e)))
    conns (suc zero) y e = (ap (λ (u : Conn). u.hand) (sym (some_is _ y e)), ap (λ (u : Conn). u.passed) (sym (some_is _ y e)))
    conns (suc (suc zero)) y e = (ap (λ (u : Conn). u.hand) (sym (some_is _ y e)), ap (λ (u : Conn). u.passed) (sym (some_is _ y e)))
    conns (suc (suc (suc k))) y e = absurd (none_some y e)

-- what stays along the runs: the stores, what was issued, and the link's bytes

abbrev stores_of : World → List (List Delegation)
stores_of w = map (λ x. x.desk.store) w.hosts

abbrev issued_of : World → List (List Delegation)
issued_of w = map (λ x. x.desk.issued) w.hosts

abbrev link_bytes : Option Conn → List ℕ
link_bytes None = []
link_bytes (Some y) = take y.count y.link

abbrev link_of : World → List ℕ
link_of w = link_bytes (slice_get w.conns 2)

record Stays (w : World) (bytes : List ℕ) : Type 0 where
  pub stores : stores_of w ≡ (to_b ∷ []) ∷ (to_b ∷ []) ∷ [] ∷ []
  pub issued : issued_of w ≡ (to_b ∷ []) ∷ [] ∷ [] ∷ []
  pub link : link_of w ≡ bytes

at_map : {X Y : Type 0} (f : X → Y) (xs : List X) (i : ℕ) (x : X) → slice_get xs i ≡ Some x → slice_get (map f xs) i ≡ Some (f x)
at_map f [] i x e = absurd (none_some x e)
at_map f (y ∷ xs) zero x e = ap (λ z. Some (f z)) (some_is y x e)
at_map f (y ∷ xs) (suc i) x e = at_map f xs i x e

map_at : {X Y : Type 0} (f : X → Y) (xs : List X) (i : ℕ) (y : Y) → slice_get (map f xs) i ≡ Some y → (x : X) × (slice_get xs i ≡ Some x) × (f x ≡ y)
map_at f [] i y e = absurd (none_some y e)
map_at f (x ∷ xs) zero y e = (x, refl, some_is (f x) y e)
map_at f (x ∷ xs) (suc i) y e = map_at f xs i y e

-- the only delegation that a host keeps, or issued
kept_is : (g : ℕ) (ds : List Delegation) (d : Delegation) → slice_get ((to_b ∷ []) ∷ (to_b ∷ []) ∷ [] ∷ []) g ≡ Some ds → Contains ds d → to_b ≡ d
kept_is zero ds d e c = in_one to_b d (subst (λ z. Contains z d) (sym (some_is _ ds e)) c)
kept_is (suc zero) ds d e c = in_one to_b d (subst (λ z. Contains z d) (sym (some_is _ ds e)) c)
kept_is (suc (suc zero)) ds d e c = absurd (in_none d (subst (λ z. Contains z d) (sym (some_is _ ds e)) c))
kept_is (suc (suc (suc g))) ds d e c = absurd (none_some ds e)

issued_is : (g : ℕ) (ds : List Delegation) (d : Delegation) → slice_get ((to_b ∷ []) ∷ [] ∷ [] ∷ []) g ≡ Some ds → Contains ds d → to_b ≡ d
issued_is zero ds d e c = in_one to_b d (subst (λ z. Contains z d) (sym (some_is _ ds e)) c)
issued_is (suc zero) ds d e c = absurd (in_none d (subst (λ z. Contains z d) (sym (some_is _ ds e)) c))
issued_is (suc (suc zero)) ds d e c = absurd (in_none d (subst (λ z. Contains z d) (sym (some_is _ ds e)) c))
issued_is (suc (suc (suc g))) ds d e c = absurd (none_some ds e)

issues_inside : (w : World) (bytes : List ℕ) → Stays w bytes → IssuesInside secret both net w
issues_inside w bytes stays h x d t there m about =
    subst (λ z. IsTrusted both net z.to) (issued_is h x.desk.issued d (sym (ap (λ o. slice_get o h) stays.issued) ∙ at_map (λ u. u.desk.issued) w.hosts h x there) m) refl

-- the outsider's bytes are none, or its own hello and what follows

data IsOutsiders : List ℕ → Type 0 where
  nothing : IsOutsiders []
  own : (rest : List ℕ) → IsOutsiders (3 ∷ rest)

outsiders_peer : (bytes : List ℕ) (lane : LaneCert) → IsOutsiders bytes → peer net_scheme (host_plan net 1) bytes ≡ Some lane → own_cert ≡ lane
outsiders_peer bytes lane nothing e = absurd (none_some lane e)
outsiders_peer bytes lane (own rest) e = some_is own_cert lane e

-- the first host has no inlet, so what it reads of a link is nothing
by_a : (byte : ℕ) (rest : List ℕ) (lane : LaneCert) → hello_of (slice_get (items_by a_key (cert_of byte) rest) 0) ≡ Some lane → ⊥
by_a byte rest lane = go (eqb byte 1) (eqb byte 2) (eqb byte 3)
  where
    go : (p q r : Bool) → hello_of (slice_get (items_by a_key (cond p (Some low_cert) (cond q (Some high_cert) (cond r (Some own_cert) None))) rest) 0) ≡ Some lane → ⊥
    go true q r e = none_some lane e
    go false true r e = none_some lane e
    go false false true e = none_some lane e
    go false false false e = none_some lane e

a_peer : (bytes : List ℕ) (lane : LaneCert) → peer net_scheme (host_plan net 0) bytes ≡ Some lane → ⊥
a_peer [] lane e = none_some lane e
a_peer (byte ∷ rest) lane e = by_a byte rest lane e

link_peer : (w : World) (bytes : List ℕ) → Stays w bytes → IsOutsiders bytes → (k : ℕ) (y : Conn) (lane : LaneCert) → slice_get w.conns k ≡ Some y → (conn_plan net k).source ≡ Link → peer net_scheme (host_plan net (conn_plan net k).host) (arrived w Link y) ≡ Some lane → own_cert ≡ lane
link_peer w bytes stays outs zero y lane there source read = absurd (grind arith)
link_peer w bytes stays outs (suc zero) y lane there source read = absurd (grind arith)
link_peer w bytes stays outs (suc (suc zero)) y lane there source read = outsiders_peer (take y.count y.link) lane (subst IsOutsiders (sym (sym (ap link_bytes there) ∙ stays.link)) outs) read
link_peer w bytes stays outs (suc (suc (suc k))) y lane there source read = absurd (a_peer (take y.count y.link) lane read)

high_key : (h l : ℕ) → high_lane secret both net h l ≡ true → own_cert.key ≡ (lane_plan (host_plan net h) l).cert.key → ⊥
high_key zero zero high e = absurd (grind arith)
high_key zero (suc zero) high e = absurd (grind arith)
high_key zero (suc (suc l)) high e = absurd (grind arith)
high_key (suc zero) l high e = absurd (grind arith)
high_key (suc (suc zero)) l high e = absurd (grind arith)
high_key (suc (suc (suc h))) l high e = absurd (grind arith)

nothing_forged : (w : World) (bytes : List ℕ) → Stays w bytes → IsOutsiders bytes → NothingForged net_scheme secret both net w
nothing_forged w bytes stays outs = record {
  stores = λ g y d there m about good by.
      let a : (x : Host) × (slice_get w.hosts 0 ≡ Some x) × (x.desk.issued ≡ to_b ∷ []) = map_at (λ x. x.desk.issued) w.hosts 0 (to_b ∷ []) (ap (λ o. slice_get o 0) stays.issued) in
      (0, a.0, refl, a.1, subst (λ z. Contains z d) (sym a.2) (subst (λ z. Contains (to_b ∷ []) z) (kept_is g y.desk.store d (sym (ap (λ o. slice_get o g) stays.stores) ∙ at_map (λ u. u.desk.store) w.hosts g y there) m) (in_head to_b [])));
  certs = λ k y lane there source read taken by. absurd (not_x (subst (λ z. IsTrusted both net z.exporter) (sym (link_peer w bytes stays outs k y lane there source read)) by));
  frames = λ k y lane j number messages there source read frame taken h l high same. high_key h l high (ap (λ z. z.key) (link_peer w bytes stays outs k y lane there source read) ∙ same);
}
  where
    not_x : IsTrusted both net x_key → ⊥
    not_x e = grind arith

-- each world of both runs is so

abbrev Ok : World → Type 0
Ok w = (bytes : List ℕ) × Stays w bytes × IsOutsiders bytes

quiet : {w : World} → stores_of w ≡ (to_b ∷ []) ∷ (to_b ∷ []) ∷ [] ∷ [] → issued_of w ≡ (to_b ∷ []) ∷ [] ∷ [] ∷ [] → link_of w ≡ [] → Ok w
quiet s i l = ([], record { stores = s; issued = i; link = l }, nothing)

noisy : {w : World} → stores_of w ≡ (to_b ∷ []) ∷ (to_b ∷ []) ∷ [] ∷ [] → issued_of w ≡ (to_b ∷ []) ∷ [] ∷ [] ∷ [] → link_of w ≡ 3 ∷ 0 ∷ 88 ∷ [] → Ok w
noisy s i l = (3 ∷ 0 ∷ 88 ∷ [], record { stores = s; issued = i; link = l }, own (0 ∷ 88 ∷ []))

yes_along : Along net_scheme net Ok (net_world yes_script) yes_events
unfolding Rattle.ds_label.specs.Flow.flows Rattle.ds_label.specs.Flow.same_label Rattle.ds_label.specs.Flow.union
yes_along = (quiet refl refl refl, (quiet refl refl refl, (quiet refl refl refl, (quiet refl refl refl, (quiet refl refl refl, (quiet refl refl refl, (quiet refl refl refl, (quiet refl refl refl, (quiet refl refl refl, (quiet refl refl refl, (quiet refl refl refl, (quiet refl refl refl, (quiet refl refl refl, (noisy refl refl refl, (noisy refl refl refl, (noisy refl refl refl, (noisy refl refl refl, (noisy refl refl refl, (noisy refl refl refl, (noisy refl refl refl, (noisy refl refl refl, (noisy refl refl refl, (noisy refl refl refl, (noisy refl refl refl, (noisy refl refl refl, (noisy refl refl refl, (noisy refl refl refl, (noisy refl refl refl, (noisy refl refl refl, (noisy refl refl refl, (noisy refl refl refl, (noisy refl refl refl, (noisy refl refl refl, tt)))))))))))))))))))))))))))))))))

no_along : Along net_scheme net Ok (net_world no_script) no_events
unfolding Rattle.ds_label.specs.Flow.flows Rattle.ds_label.specs.Flow.same_label Rattle.ds_label.specs.Flow.union
no_along = (quiet refl refl refl, (quiet refl refl refl, (quiet refl refl refl, (quiet refl refl refl, (quiet refl refl refl, (quiet refl refl refl, (quiet refl refl refl, (quiet refl refl refl, (noisy refl refl refl, (noisy refl refl refl, (noisy refl refl refl, (noisy refl refl refl, (noisy refl refl refl, (noisy refl refl refl, (noisy refl refl refl, (noisy refl refl refl, (noisy refl refl refl, (noisy refl refl refl, (noisy refl refl refl, (noisy refl refl refl, (noisy refl refl refl, (noisy refl refl refl, (noisy refl refl refl, (noisy refl refl refl, (noisy refl refl refl, (noisy refl refl refl, (noisy refl refl refl, (noisy refl refl refl, (noisy refl refl refl, (noisy refl refl refl, (noisy refl refl refl, tt)))))))))))))))))))))))))))))))

along_map : (P Q : World → Type 0) → ((w : World) → P w → Q w) → (w : World) (events : List Event) → Along net_scheme net P w events → Along net_scheme net Q w events
along_map P Q f w [] a = (f w a.0, tt)
along_map P Q f w (e ∷ events) a = (f w a.0, along_map P Q f (step net_scheme net w e) events a.1)

obeys : (w : World) (events : List Event) → Along net_scheme net Ok w events → Obeys net_scheme secret both net w events
obeys w events a = record { run = run; creator = refl; alone = alone; issues = along_map Ok (IssuesInside secret both net) (λ u o. issues_inside u o.0 o.1) w events a }
  where
    run : (h : ℕ) → is_in both h ≡ true → IsHost net h × ((host_plan net h).silent ≡ false)
    run zero e = (omega arith, refl)
    run (suc zero) e = (omega arith, refl)
    run (suc (suc h)) e = absurd (grind arith)

    alone : (h : ℕ) → IsHost net h → IsTrusted both net (host_plan net h).key → is_in both h ≡ true
    alone zero is e = refl
    alone (suc zero) is e = refl
    alone (suc (suc zero)) is e = absurd (grind arith)
    alone (suc (suc (suc h))) is e = absurd (omega arith)

unforged : (w : World) (events : List Event) → Along net_scheme net Ok w events → Unforged net_scheme secret both net w events
unforged w events a = along_map Ok (NothingForged net_scheme secret both net) (λ u o. nothing_forged u o.0 o.1 o.2) w events a

same_procs : (p : ℕ) → Alike (high_at secret true (slice_get (a_world yes_script).procs p)) (high_at secret true (slice_get (a_world no_script).procs p)) (slice_get (a_world yes_script).procs p) (slice_get (a_world no_script).procs p)
same_procs zero = inr (refl, refl)
same_procs (suc p) = inl refl

alike_at : (h : ℕ) → AlikeAt secret both net h (slice_get (net_world yes_script).hosts h) (slice_get (net_world no_script).hosts h)
alike_at zero = record { desk = refl; procs = same_procs; boxes = λ b. inl refl; queues = λ l. inl refl; workers = λ l. inl refl; logs = λ l. inl refl; inlets = λ i. inl refl }
alike_at (suc zero) = record { desk = refl; procs = λ p. inl refl; boxes = λ b. inl refl; queues = λ l. inl refl; workers = λ l. inl refl; logs = λ l. inl refl; inlets = λ i. inl refl }
alike_at (suc (suc zero)) = record { desk = refl; procs = λ p. inl refl; boxes = λ b. inl refl; queues = λ l. inl refl; workers = λ l. inl refl; logs = λ l. inl refl; inlets = λ i. inl refl }
alike_at (suc (suc (suc h))) = tt

alike : AlikeWorlds secret both net (net_world yes_script) (net_world no_script)
alike = record { hosts = alike_at; conns = λ k. inl refl }

pub same_marks : marks net_scheme secret both net (net_world yes_script) yes_events ≡ marks net_scheme secret both net (net_world no_script) no_events
unfolding Rattle.ds_label.specs.Flow.flows Rattle.ds_label.specs.Flow.same_label Rattle.ds_label.specs.Flow.union
same_marks = refl

pub met : IsNetMet
met = (
  scheme,
  record {
    secret = refl;
    fits = fits;
    start_one = start yes_script;
    start_two = start no_script;
    agree = record { start = alike; same_marks = same_marks };
    obeys_one = obeys (net_world yes_script) yes_events yes_along;
    obeys_two = obeys (net_world no_script) no_events no_along;
    unforged_one = unforged (net_world yes_script) yes_events yes_along;
    unforged_two = unforged (net_world no_script) no_events no_along;
  },
)
