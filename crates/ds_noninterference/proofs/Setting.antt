-- What setup and the trusted hosts give, in the form in which the proof uses it.
use Rattle.std.proofs.Common.{◌≡◌, ◌<◌, ◌≤◌, ℕ, true, List, [], ◌∷◌, ◌||◌, length, sym, ◌∙◌, ap, subst, ◌⊎◌, inl, inr, arith, eqb, eqb-true}
use native.Mathlib.Decide.{dec_lt}
use Rattle.ds_label.specs.declared.category.Category.{Category}
use Rattle.ds_label.specs.Flow.{has}
use Rattle.ds_label.specs.Names.{by_name}
use Rattle.ds_model.specs.Keys.{same_key}
use Rattle.ds_model.specs.Scheme.{Scheme}
use Rattle.ds_model.specs.Plan.{Plan, OfLane, IsHost, IsLane, host_plan, conn_plan, lane_plan, no_host, no_lane, all_keys, with_keys}
use Rattle.ds_model.specs.World.{World}
use Rattle.ds_model.specs.Step.{Event, step}
use Rattle.ds_noninterference.specs.High.{is_in, high_lane, trusted_key, IsTrusted}
use Rattle.ds_noninterference.specs.Observations.{Along}
use Rattle.ds_noninterference.specs.Premises.{Fits, IssuesInside, NothingForged, Obeys}
use Rattle.std.proofs.lemmas.List.{get_or_past}
use Rattle.ds_noninterference.proofs.Flow.{and_left, and_right, or_cases, or_left, or_right, key_same}

-- what setup and the trusted hosts give together
pub record Setting (c : Category) (trusted : List ℕ) (plan : Plan) : Type 0 where
  -- a lane's connection is that of a lane, and stands at the certificate's receiver
  pub real : (k h l : ℕ) → (conn_plan plan k).source ≡ OfLane h l → IsLane plan h l
  pub ends : (k h l : ℕ) → (conn_plan plan k).source ≡ OfLane h l → (host_plan plan (conn_plan plan k).host).key ≡ (lane_plan (host_plan plan h) l).cert.receiver
  -- exporter and number determine a high lane
  pub lanes : (h l g j : ℕ) → high_lane c trusted plan h l ≡ true → IsLane plan g j → (lane_plan (host_plan plan g) j).cert.exporter ≡ (lane_plan (host_plan plan h) l).cert.exporter → (lane_plan (host_plan plan g) j).cert.lane ≡ (lane_plan (host_plan plan h) l).cert.lane → (g ≡ h) × (j ≡ l)
  -- its certificate names a trusted host
  pub by : (h l : ℕ) → high_lane c trusted plan h l ≡ true → IsTrusted trusted plan (lane_plan (host_plan plan h) l).cert.exporter
  -- a lane's connection to a trusted key leads to a trusted host
  pub outsiders : (k h l : ℕ) → (conn_plan plan k).source ≡ OfLane h l → IsTrusted trusted plan (host_plan plan (conn_plan plan k).host).key → is_in trusted (conn_plan plan k).host ≡ true
  pub creator : IsTrusted trusted plan c.creator

-- and what holds at each world of a run
pub record Sound (s : Scheme) (c : Category) (trusted : List ℕ) (plan : Plan) (w : World) : Type 0 where
  pub obeys : IssuesInside c trusted plan w
  pub unforged : NothingForged s c trusted plan w

along_both : (s : Scheme) (plan : Plan) (P Q R : World → Type 0) → ((w : World) → P w → Q w → R w) → (w : World) (events : List Event) → Along s plan P w events → Along s plan Q w events → Along s plan R w events
along_both s plan P Q R f w [] p q = (f w p.0 q.0, tt)
along_both s plan P Q R f w (e ∷ events) p q = (f w p.0 q.0, along_both s plan P Q R f (step s plan w e) events p.1 q.1)

pub sound_along : (s : Scheme) (c : Category) (trusted : List ℕ) (plan : Plan) (w : World) (events : List Event) → Along s plan (IssuesInside c trusted plan) w events → Along s plan (NothingForged s c trusted plan) w events → Along s plan (Sound s c trusted plan) w events
sound_along s c trusted plan w events i n = along_both s plan (IssuesInside c trusted plan) (NothingForged s c trusted plan) (Sound s c trusted plan) (λ w p q. record { obeys = p; unforged = q }) w events i n

-- the key of a trusted host is trusted
trusted_host : (trusted : List ℕ) (plan : Plan) (h : ℕ) → is_in trusted h ≡ true → trusted_key trusted plan (host_plan plan h).key ≡ true
trusted_host [] plan h e = absurd (grind arith)
trusted_host (g ∷ trusted) plan h e = go (trusted_host trusted plan h) (or_cases _ _ e)
  where
    go : (is_in trusted h ≡ true → trusted_key trusted plan (host_plan plan h).key ≡ true) → (eqb g h ≡ true) ⊎ (is_in trusted h ≡ true) → (same_key (host_plan plan g).key (host_plan plan h).key || trusted_key trusted plan (host_plan plan h).key) ≡ true
    go ih (inl i) = or_left _ _ (key_same _ _ (ap (λ n. (host_plan plan n).key) (eqb-true _ _ i)))
    go ih (inr r) = or_right _ _ (ih r)

has_none : (c : Category) → has by_name c [] ≡ true → ⊥
has_none c e = grind arith

pub within : (i n : ℕ) → (n ≤ i → ⊥) → i < n
within i n f = go (dec_lt i n)
  where
    go : Dec (i < n) → i < n
    go (yes l) = l
    go (no l) = absurd (f (omega arith))

-- a high lane is one that the plan has
pub lane_within : (c : Category) (trusted : List ℕ) (plan : Plan) (h l : ℕ) → high_lane c trusted plan h l ≡ true → IsLane plan h l
lane_within c trusted plan h l high = within l (length (host_plan plan h).lanes) (λ past. has_none c (sym (ap (λ p. has by_name c p.cert.label) (get_or_past (host_plan plan h).lanes l no_lane past)) ∙ and_right _ _ high))

pub host_within : (c : Category) (trusted : List ℕ) (plan : Plan) (h l : ℕ) → high_lane c trusted plan h l ≡ true → IsHost plan h
host_within c trusted plan h l high = within h (length plan.hosts) (λ past. has_none c (sym (ap (λ p. has by_name c (lane_plan (with_keys (all_keys plan) p) l).cert.label) (get_or_past plan.hosts h no_host past)) ∙ and_right _ _ high))

pub setting : (s : Scheme) (c : Category) (trusted : List ℕ) (plan : Plan) (w : World) (events : List Event) → Fits plan → Obeys s c trusted plan w events → Setting c trusted plan
setting s c trusted plan w events fits obeys = record {
  real = λ k h l e. (fits.ends k h l e).0;
  ends = λ k h l e. (fits.ends k h l e).2;
  lanes = λ h l g j high is by number. fits.lanes g j h l is (lane_within c trusted plan h l high) by number;
  by = λ h l high. subst (IsTrusted trusted plan) (sym (fits.by h l (lane_within c trusted plan h l high))) (trusted_host trusted plan h (and_left _ _ high));
  outsiders = λ k h l e t. obeys.alone (conn_plan plan k).host (fits.ends k h l e).1 t;
  creator = obeys.creator;
}
