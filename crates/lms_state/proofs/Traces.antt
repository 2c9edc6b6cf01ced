-- Each call of a signer goes on with a trace.
use Rattle.std.proofs.Common.{◌≡◌, ℕ, ◌+◌, ◌<◌, List, ◌∷◌, Option, Some, None}
use Rattle.lms_sig.specs.Keys.{Key}
use Rattle.ds_base.specs.Marks.{Raised, MayBeRaised}
use Rattle.lms_state.specs.Signers.{leaves_of, IsLeafOf}
use Rattle.lms_state.specs.Once.{resumes, signs, fails, Traced}

pub after_resume : (told : Option (List ℕ → ℕ)) (key : Key) (before : Option ℕ) (released : List ℕ) (leaf : ℕ) → Traced told key before released → IsLeafOf told key leaf → Traced told key (Some leaf) released
after_resume None key before released leaf trace is = tt
after_resume (Some marks) key before released leaf trace is = resumes leaf trace is

pub after_sign : (old new : Option (List ℕ → ℕ)) (key : Key) (leaf next : ℕ) (released : List ℕ) → next ≡ leaf + 1 → Traced old key (Some leaf) released → leaf < leaves_of key → Raised old key.id (leaf + 1) new → Traced new key (Some next) (leaf ∷ released)
after_sign old None key leaf next released on trace stands raised = tt
after_sign None (Some new) key leaf next released on trace stands raised = cc
after_sign (Some old) (Some new) key leaf next released on trace stands raised = rw on (signs new trace stands raised)

pub after_fault : (old new : Option (List ℕ → ℕ)) (key : Key) (leaf : ℕ) (released : List ℕ) → Traced old key (Some leaf) released → MayBeRaised old key.id (leaf + 1) new → Traced new key (Some leaf) released
after_fault old None key leaf released trace raised = tt
after_fault None (Some new) key leaf released trace raised = cc
after_fault (Some old) (Some new) key leaf released trace raised = fails new trace raised
