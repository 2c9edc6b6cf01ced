-- The test that an inlet is high, as facts.
use Rattle.std.proofs.Common.{◌≡◌, ◌<◌, ℕ, zero, suc, Bool, true, List, ◌||◌, length, ◌∙◌, ap, ◌⊎◌, inl, inr, arith, sym, eqb-true, eq-eqb}
use native.Mathlib.Decide.{ℕ_discrete}
use Rattle.ds_label.specs.declared.category.Category.{Category}
use Rattle.ds_model.specs.Plan.{Plan, host_plan, lane_plan, inlet_name}
use Rattle.ds_noninterference.specs.High.{is_in, high_lane, some_place, high_inlet}
use Rattle.ds_noninterference.proofs.Flow.{and_left, and_right, and_both, or_left, or_right, or_cases, key_same, same_key_is}
use Rattle.ds_noninterference.proofs.Setting.{lane_within, host_within}

-- an inlet of a trusted host that counts the frames of a high lane to it
pub record HighInlet (c : Category) (trusted : List ℕ) (plan : Plan) (r i : ℕ) : Type 0 where
  pub host : ℕ
  pub lane : ℕ
  pub high : high_lane c trusted plan host lane ≡ true
  pub here : is_in trusted r ≡ true
  pub to : (lane_plan (host_plan plan host) lane).cert.receiver ≡ (host_plan plan r).key
  pub by : (lane_plan (host_plan plan host) lane).cert.exporter ≡ (inlet_name (host_plan plan r) i).exporter
  pub number : (lane_plan (host_plan plan host) lane).cert.lane ≡ (inlet_name (host_plan plan r) i).lane

some_place_true : (test : ℕ → Bool) (n m : ℕ) → n < m → test n ≡ true → some_place test m ≡ true
some_place_true test n zero lt e = absurd (grind arith)
some_place_true test n (suc m) lt e = go (some_place_true test n m) (ℕ_discrete n m)
  where
    go : (n < m → test n ≡ true → some_place test m ≡ true) → Dec (n ≡ m) → (test m || some_place test m) ≡ true
    go ih (yes is) = or_left _ _ (ap test (sym is) ∙ e)
    go ih (no n') = or_right _ _ (ih (omega arith) e)

some_place_is : (test : ℕ → Bool) (m : ℕ) → some_place test m ≡ true → (n : ℕ) × (test n ≡ true)
some_place_is test zero e = absurd (grind arith)
some_place_is test (suc m) e = go (some_place_is test m) (or_cases _ _ e)
  where
    go : (some_place test m ≡ true → (n : ℕ) × (test n ≡ true)) → (test m ≡ true) ⊎ (some_place test m ≡ true) → (n : ℕ) × (test n ≡ true)
    go more (inl t) = (m, t)
    go more (inr t) = more t

pub inlet_high : (c : Category) (trusted : List ℕ) (plan : Plan) (r i : ℕ) → HighInlet c trusted plan r i → high_inlet c trusted plan r i ≡ true
inlet_high c trusted plan r i hi = and_both _ _ hi.here (some_place_true _ hi.host (length plan.hosts) (host_within c trusted plan hi.host hi.lane hi.high)
    (some_place_true _ hi.lane (length (host_plan plan hi.host).lanes) (lane_within c trusted plan hi.host hi.lane hi.high)
    (and_both _ _ hi.high (and_both _ _ (key_same _ _ hi.to) (and_both _ _ (key_same _ _ hi.by) (eq-eqb _ _ hi.number))))))

pub high_is : (c : Category) (trusted : List ℕ) (plan : Plan) (r i : ℕ) → high_inlet c trusted plan r i ≡ true → HighInlet c trusted plan r i
high_is c trusted plan r i e =
    let h = some_place_is _ (length plan.hosts) (and_right _ _ e) in
    let l = some_place_is _ (length (host_plan plan h.0).lanes) h.1 in
    let counts = and_right _ _ l.1 in
    record {
      host = h.0;
      lane = l.0;
      high = and_left _ _ l.1;
      here = and_left _ _ e;
      to = same_key_is _ _ (and_left _ _ counts);
      by = same_key_is _ _ (and_left _ _ (and_right _ _ counts));
      number = eqb-true _ _ (and_right _ _ (and_right _ _ counts));
    }
