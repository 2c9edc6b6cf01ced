-- Histories that lead from a state to a state.
use Rattle.std.proofs.Common.{◌≡◌, ℕ, Bool, true, false, List, [], ◌∷◌, ◌++◌, Option, Some, None, slice_get, option_map, refl, sym, ◌∙◌, ap, subst₂, eqb, eqb-true}
use Rattle.std.specs.Prelude.{if◌then◌else◌}
use Rattle.ds_script.specs.Replay.{onward, replay}
use Rattle.ds_model.specs.Lists.{at}
use Rattle.ds_model.specs.Stepping.{stepping}
use Rattle.ds_model.proofs.Places.{seen_at}

pub onward_some : {S : Type 0} (o : Option S) → onward o (λ x. Some x) ≡ o
onward_some None = refl
onward_some (Some x) = refl

pub onward_twice : {S T U : Type 0} (o : Option S) (f : S → Option T) (g : T → Option U) → onward o (λ x. onward (f x) g) ≡ onward (onward o f) g
onward_twice None f g = refl
onward_twice (Some x) f g = refl

pub replay_append : {S E : Type 0} (step : S → E → Option S) (x : S) (es fs : List E) → replay step x (es ++ fs) ≡ onward (replay step x es) (λ y. replay step y fs)
replay_append step x [] fs = refl
replay_append {S} {E} step x (e ∷ es) fs = go (λ t. replay_append step t es fs) (step x e)
  where
    go : ((t : S) → replay step t (es ++ fs) ≡ onward (replay step t es) (λ y. replay step y fs)) → (o : Option S) → onward o (λ t. replay step t (es ++ fs)) ≡ onward (onward o (λ t. replay step t es)) (λ y. replay step y fs)
    go ih None = refl
    go ih (Some t) = ih t

-- one entry that may stand
pub one_step : {S E : Type 0} (needs : E → S → Bool) (after : E → S → S) (x : S) (e : E) → needs e x ≡ true → replay (stepping needs after) x (e ∷ []) ≡ Some (after e x)
one_step needs after x e h = ap (λ b. onward (if b then Some (after e x) else None) (λ t. Some t)) h

-- an entry made in the thing at place j, seen at place i
pub one_entry : {X S E : Type 0} (see : X → S) (enter : E → X → X) (needs : E → S → Bool) (after : E → S → S) → ((e : E) (x : X) → see (enter e x) ≡ after e (see x)) →
    (xs : List X) (i j : ℕ) (e : E) → (eqb j i ≡ true → (x : X) → slice_get xs j ≡ Some x → needs e (see x) ≡ true) →
    onward (option_map see (slice_get xs i)) (λ v. replay (stepping needs after) v (if eqb j i then e ∷ [] else [])) ≡ option_map see (slice_get (at j (enter e) xs) i)
one_entry {X} {S} {E} see enter needs after same xs i j e may = go (eqb j i) refl (slice_get xs i) refl ∙ ap (option_map see) (sym (seen_at i j (enter e) xs))
  where
    go : (b : Bool) → eqb j i ≡ b → (o : Option X) → slice_get xs i ≡ o → onward (option_map see o) (λ v. replay (stepping needs after) v (if b then e ∷ [] else [])) ≡ option_map see (if b then option_map (enter e) o else o)
    go true p None q = refl
    go true p (Some x) q = one_step needs after (see x) e (may p x (ap (slice_get xs) (eqb-true _ _ p) ∙ q)) ∙ ap Some (sym (same e x))
    go false p o q = onward_some (option_map see o)

map_same : {X : Type 0} (o : Option X) → option_map (λ x. x) o ≡ o
map_same None = refl
map_same (Some x) = refl

-- the same of things that are their own states
pub own_entry : {S E : Type 0} (needs : E → S → Bool) (after : E → S → S) (xs : List S) (i j : ℕ) (e : E) → (eqb j i ≡ true → (x : S) → slice_get xs j ≡ Some x → needs e x ≡ true) →
    onward (slice_get xs i) (λ v. replay (stepping needs after) v (if eqb j i then e ∷ [] else [])) ≡ slice_get (at j (after e) xs) i
own_entry needs after xs i j e may = subst₂ (λ o q. onward o (λ v. replay (stepping needs after) v (if eqb j i then e ∷ [] else [])) ≡ q) (map_same (slice_get xs i)) (map_same (slice_get (at j (after e) xs) i))
    (one_entry (λ x. x) after needs after (λ f x. refl) xs i j e may)
