-- What a lift does to a lane.
use Rattle.std.proofs.Common.{◌≡◌, ℕ, ◌<◌, Bool, true, false, List, [], ◌∷◌, length, refl, sym, ap, ◌∙◌, arith}
use Rattle.std.specs.Prelude.{◌↔◌, not, nat_lt, if◌then◌else◌}
use Rattle.std.proofs.lemmas.Bool.Decides.{nat_tests}
use Rattle.lms_state.specs.Signers.{leaves_of}
use Rattle.ds_model.specs.Lane.{front}
use Rattle.ds_lane.specs.declared.batch.Waiting.{Waiting}
use Rattle.ds_lane.specs.Lanes.{entered, lift_entry}
use Rattle.ds_lane.specs.Workers.{holding, IsReady}
use Rattle.ds_exporter.specs.HostStates.{HostLane}
use Rattle.ds_exporter.specs.Lifting.{lifted_from, lifted_lane}

pub is_ready : (l : HostLane) (b : Bool) → b ≡ nat_lt l.worker.signing.next (leaves_of l.worker.signing.key) → b ≡ true → IsReady l.worker.signing
is_ready l b e t = grind (arith, nat_tests)

pub not_ready : (stamp : ℕ) (l : HostLane) (b : Bool) → b ≡ nat_lt l.worker.signing.next (leaves_of l.worker.signing.key) → b ≡ false → l ≡ lifted_lane stamp l
not_ready stamp l b e f = go (nat_lt l.worker.signing.next (leaves_of l.worker.signing.key)) (sym e ∙ f)
  where
    go : (d : Bool) → d ≡ false → l ≡ (if d then lifted_from stamp l l.lane.waiting else l)
    go true g = absurd cc
    go false g = refl

ready_lifts : (stamp : ℕ) (l : HostLane) (b : Bool) → b ≡ nat_lt l.worker.signing.next (leaves_of l.worker.signing.key) → b ≡ true → lifted_from stamp l l.lane.waiting ≡ lifted_lane stamp l
ready_lifts stamp l b e t = go (nat_lt l.worker.signing.next (leaves_of l.worker.signing.key)) (sym e ∙ t)
  where
    go : (d : Bool) → d ≡ true → lifted_from stamp l l.lane.waiting ≡ (if d then lifted_from stamp l l.lane.waiting else l)
    go true g = refl
    go false g = absurd cc

pub lifts_none : (stamp : ℕ) (l : HostLane) (b : Bool) → b ≡ nat_lt l.worker.signing.next (leaves_of l.worker.signing.key) → b ≡ true → l.lane.waiting ≡ [] → l ≡ lifted_lane stamp l
lifts_none stamp l b e t none = ap (lifted_from stamp l) (sym none) ∙ ready_lifts stamp l b e t

from_some : (stamp : ℕ) (l : HostLane) (waiting : List Waiting) → 0 < length (front waiting) → record { lane = entered stamp l.worker.who (lift_entry waiting) l.lane; worker = holding (front waiting) l.worker } ≡ lifted_from stamp l waiting
from_some stamp l [] some = absurd (omega (arith, some))
from_some stamp l (w ∷ waiting) some = refl

pub lifts_some : (stamp : ℕ) (l : HostLane) (b : Bool) → b ≡ nat_lt l.worker.signing.next (leaves_of l.worker.signing.key) → b ≡ true → 0 < length (front l.lane.waiting)
    → record { lane = entered stamp l.worker.who (lift_entry l.lane.waiting) l.lane; worker = holding (front l.lane.waiting) l.worker } ≡ lifted_lane stamp l
lifts_some stamp l b e t some = from_some stamp l l.lane.waiting some ∙ ready_lifts stamp l b e t

-- whether something is in hand, as the code asks
pub holds_none : (none held : Bool) (hand : List Waiting) (l : HostLane) → (none ≡ true) ↔ (hand ≡ []) → hand ≡ l.worker.hand → held ≡ not none → (held ≡ false) ↔ (l.worker.hand ≡ [])
holds_none true held hand l is same tells = (λ f. sym same ∙ is.0 refl, λ e. tells)
holds_none false held hand l is same tells = (λ f. absurd cc, λ e. absurd (false_is (is.1 (same ∙ e))))
  where
    false_is : false ≡ true → ⊥
    false_is e = absurd cc
