-- Messages in hand have spellings, all through a run.
use Rattle.std.specs.Prelude.{◌≡◌, ℕ, List, [], ◌∷◌, Some, slice_get}
use Rattle.ds_model.specs.Plan.{Plan}
use Rattle.ds_model.specs.World.{Host, World}
use Rattle.ds_model.specs.Step.{Event, step}
use Rattle.ds_scheme.specs.TheScheme.{scheme}
use Rattle.ds_hosts.specs.Nodes.{SpellsHands}

-- those of all hosts
abbrev pub HandsAreSpelled : World → Type 0
HandsAreSpelled w = (host : ℕ) (x : Host) → slice_get w.hosts host ≡ Some x → SpellsHands x

-- in a world, and in each that the events make of it, one after another
abbrev pub AreSpelledAfter : Plan → World → List Event → Type 0
AreSpelledAfter plan w [] = HandsAreSpelled w
AreSpelledAfter plan w (e ∷ events) = HandsAreSpelled w × AreSpelledAfter plan (step scheme plan w e) events
