-- The walk over the merged list.
use Rattle.std.specs.Prelude.{◌≡◌, ◌⊎◌, ℕ, ◌<◌, List, [], ◌∷◌, Bool, true}
use Rattle.std.specs.Prelude.{length, take, Option, Some, None, MatchOption, slice_index_or, unwrap_or}
use Rattle.std.specs.Option.{option_or}
use Rattle.ds_script.specs.Replay.{onward}
use Rattle.ds_script.specs.declared.actor.Actor.{Actor}
use Rattle.ds_script.specs.declared.actor.ActorKind.TheVariants.{Clock}
use Rattle.ds_merge.specs.declared.kept.Kept.{Kept}
use Rattle.ds_merge.specs.declared.recorded.Recorded.{Recorded}
use Rattle.ds_merge.specs.declared.records.History.{History}
use Rattle.ds_merge.specs.declared.merging.MergeFault.{MergeFault}
use Rattle.ds_merge.specs.declared.merging.MergeFault.TheVariants.{Strange, NoMemory}
use Rattle.ds_merge.specs.Standing.{Standing, standing, next_in, next_of}

-- a clock's name, for what isn't there
abbrev pub no_actor : Actor
no_actor = record { kind = Clock; host = 0; index = 0 }

-- an event that isn't there
abbrev pub no_event : Recorded
no_event = record { who = no_actor; stamp = 0; act = 0; body = []; touched = None; given = [] }

-- an entry that isn't there
abbrev pub no_entry : Kept
no_entry = record { object = record { host = 0; kind = 0; id = 0 }; stamp = 0; who = no_actor; act = 0; body = [] }

abbrev pub event : List Recorded → ℕ → Recorded
event es k = slice_index_or es k no_event

-- the entry that the event met is the one that comes next of its object, with the event's stamp and actor, above the object's last stamp
pub record Meets (hs : List History) (s : Standing) (e : Recorded) (k : Kept) : Type 0 where
  pub next : next_of hs s k.object ≡ Some k
  pub stamp : k.stamp ≡ e.stamp
  pub who : k.who ≡ e.who
  pub above : s.object_last k.object < e.stamp

-- the event is above its actor's last stamp (and so above 0), and meets its object's next entry where it touched one
pub record Fits (hs : List History) (s : Standing) (e : Recorded) : Type 0 where
  pub above : s.actor_last e.who < e.stamp
  pub meets : MatchOption e.touched (Unit {0}) (Meets hs s e)

-- the entry that comes next of the object that the event touched
abbrev pub waiting : List History → Standing → Recorded → Option Kept
waiting hs s e = onward e.touched (λ k. next_of hs s k.object)

-- the first entry left, in the order of the histories
abbrev pub first_left : List History → Standing → Option Kept
first_left [] s = None
first_left (h ∷ hs) s = option_or (next_in s h) (first_left hs s)

-- the fault has this pair, unless memory ran out
abbrev pub IsPair : Kept → Recorded → MergeFault → Type 0
IsPair x e (Strange y f) = (y ≡ x) × (f ≡ e)
IsPair x e NoMemory = Unit {0}

module _ {M : Type 0} (after : M → Recorded → M) (shifts : M → Recorded → Bool)
    (enters : M → Recorded → Option Kept) (gives : M → Recorded → List ℕ) where
  -- the machine after these events
  abbrev pub run : M → List Recorded → M
  run w [] = w
  run w (e ∷ es) = run (after w e) es

  -- the event's step changes something, and gives the entry and the answer that are recorded
  pub record Steps (w : M) (e : Recorded) : Type 0 where
    pub moves : shifts w e ≡ true
    pub entry : enters w e ≡ e.touched
    pub answer : gives w e ≡ e.given

  -- the walk, having come so far, goes past the event
  pub record Passes (w : M) (hs : List History) (s : Standing) (e : Recorded) : Type 0 where
    pub fits : Fits hs s e
    pub steps : Steps w e

  -- the walk goes past the event at this place, if it comes to it
  abbrev pub PassesAt : M → List History → List Recorded → ℕ → Type 0
  PassesAt w hs es k = Passes (run w (take k es)) hs (standing (take k es)) (event es k)

  -- the walk goes past the first n events
  pub record GoesPast (w : M) (hs : List History) (es : List Recorded) (n : ℕ) : Type 0 where
    pub each : (k : ℕ) → k < n → PassesAt w hs es k

  -- the walk goes past every event, and no entry is left
  pub record Matches (w : M) (hs : List History) (es : List Recorded) : Type 0 where
    pub goes : GoesPast w hs es (length es)
    pub none_left : first_left hs (standing es) ≡ None

  -- the walk goes past the first k events, and not past the next
  pub record StopsAt (w : M) (hs : List History) (es : List Recorded) (k : ℕ) : Type 0 where
    pub inside : k < length es
    pub goes : GoesPast w hs es k
    pub stuck : ¬ PassesAt w hs es k

  -- the pair at which the walk stops at the event at a place: that event, and the entry that comes next of the object that it touched
  pub record IsStrangeAt (w : M) (hs : List History) (es : List Recorded) (x : Kept) (e : Recorded) (k : ℕ) : Type 0 where
    pub stops : StopsAt w hs es k
    pub kept : x ≡ unwrap_or (waiting hs (standing (take k es)) (event es k)) no_entry
    pub recorded : e ≡ event es k

  -- the pair at which it stops past the last event: no event, and the first entry left
  pub record IsStrangePast (w : M) (hs : List History) (es : List Recorded) (x : Kept) (e : Recorded) : Type 0 where
    pub goes : GoesPast w hs es (length es)
    pub kept : first_left hs (standing es) ≡ Some x
    pub recorded : e ≡ no_event

  -- what a fault says
  abbrev pub Faults : M → List History → List Recorded → MergeFault → Type 0
  Faults w hs es (Strange x e) = ((k : ℕ) × IsStrangeAt w hs es x e k) ⊎ IsStrangePast w hs es x e
  Faults w hs es NoMemory = Unit {0}

  -- how far a walk over the events came: past all of them, or to the place of the event at which it stops
  abbrev pub Walked : M → List History → List Recorded → Option ℕ → M → Standing → Type 0
  Walked w hs es None v s = GoesPast w hs es (length es) × (v ≡ run w es) × (s ≡ standing es)
  Walked w hs es (Some k) v s = StopsAt w hs es k × (s ≡ standing (take k es))
