-- Pasts of a run that goes on.
use Rattle.std.proofs.Common.{◌≡◌, List, [], ◌∷◌, ◌++◌, refl, ◌∙◌, ap, append_assoc, append-nil, sym, subst}
use Rattle.ds_model.specs.Scheme.{Scheme}
use Rattle.ds_model.specs.Plan.{Plan}
use Rattle.ds_model.specs.World.{World}
use Rattle.ds_model.specs.Step.{Event, step, run}
use Rattle.ds_model.specs.Lawful.{Past}

pub past_more : (done : List Event) (e : Event) (P : List Event → Event → Type 0) → Past done P → Past (done ++ e ∷ []) P
past_more done e P (before, f, after, is, p) = (before, f, after ++ e ∷ [], ap (λ xs. xs ++ e ∷ []) is ∙ append_assoc before (f ∷ after) (e ∷ []), p)

pub past_now : (done : List Event) (e : Event) (P : List Event → Event → Type 0) → P done e → Past (done ++ e ∷ []) P
past_now done e P p = (done, e, [], refl, p)

pub run_more : (s : Scheme) (plan : Plan) (done : List Event) (w : World) (e : Event) → run s plan w (done ++ e ∷ []) ≡ step s plan (run s plan w done) e
run_more s plan [] w e = refl
run_more s plan (d ∷ done) w e = run_more s plan done (step s plan w d) e

-- a claim that holds at the start and after each event holds after all
pub always : (P : List Event → Type 0) → P [] → ((done : List Event) (e : Event) → P done → P (done ++ e ∷ [])) → (events : List Event) → P events
always P start more events = go [] events start
  where
    go : (done rest : List Event) → P done → P (done ++ rest)
    go done [] p = subst P (sym (append-nil done)) p
    go done (e ∷ rest) p = subst P (append_assoc done (e ∷ []) rest) (go (done ++ e ∷ []) rest (more done e p))
