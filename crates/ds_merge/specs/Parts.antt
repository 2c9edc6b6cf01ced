-- A list of events whose steps agree with the entries leads each object to the state that its entries replay to.
use Rattle.std.specs.Prelude.{◌≡◌, List, [], ◌∷◌, ◌++◌, cond, Option, Some, None}
use Rattle.ds_script.specs.Replay.{replay}
use Rattle.ds_merge.specs.declared.kept.ObjectName.{ObjectName}
use Rattle.ds_merge.specs.declared.kept.Kept.{Kept}
use Rattle.ds_merge.specs.declared.recorded.Recorded.{Recorded}
use Rattle.ds_merge.specs.Standing.{same_name}

-- the entry where it is one of the object
abbrev pub entry_of : ObjectName → Option Kept → List Kept
entry_of name None = []
entry_of name (Some k) = cond (same_name k.object name) (k ∷ []) []

-- the entries of the object that these events have recorded, in order
abbrev pub entries_of : ObjectName → List Recorded → List Kept
entries_of name [] = []
entries_of name (e ∷ es) = entry_of name e.touched ++ entries_of name es

module _ {M S : Type 0} (after : M → Recorded → M) (of : ObjectName → M → S) (act : S → Kept → Option S) where
  -- the event's step does to each object what the recorded entry does to it, and nothing where there is none
  pub record Agrees (w : M) (e : Recorded) : Type 0 where
    pub parts : (name : ObjectName) → replay act (of name w) (entry_of name e.touched) ≡ Some (of name (after w e))

  -- each step on the way does
  abbrev pub AllAgree : M → List Recorded → Type 0
  AllAgree w [] = Unit {0}
  AllAgree w (e ∷ es) = Agrees w e × AllAgree (after w e) es
