-- Worked runs of small worlds as threads record them, byte by byte: each event moves, makes the entry that is recorded and hands out
-- what is recorded.
use Rattle.std.specs.Prelude.{◌≡◌, ℕ, Bool, true, false, List, [], ◌∷◌, ◌++◌, Option, Some, None, map, codes}
use Rattle.ds_label.specs.declared.category.Kind.TheVariants.{Secrecy}
use Rattle.ds_label.specs.declared.category.Category.{Category}
use Rattle.ds_script.specs.declared.actor.Actor.{Actor}
use Rattle.ds_script.specs.declared.actor.ActorKind.TheVariants as kinds
use Rattle.ds_script.specs.declared.op.Op.TheVariants as ops
use Rattle.ds_model.specs.Scheme.{Scheme}
use Rattle.ds_model.specs.Plan.{Plan}
use Rattle.ds_model.specs.World.{World}
use Rattle.ds_model.specs.Examples.OneHost.{empty_scheme, only_host, only_box, one_process, reading_scheme, two_links, reading}
use Rattle.ds_model.specs.Examples.Script.{near, far, near_and_far}
use Rattle.ds_model.specs.Examples.TwoHosts.{toy_scheme, two_hosts, before_letter}
use Rattle.ds_merge.specs.declared.kept.ObjectName.{ObjectName}
use Rattle.ds_merge.specs.declared.kept.Kept.{Kept}
use Rattle.ds_merge.specs.declared.recorded.Recorded.{Recorded}
use Rattle.ds_machine.specs.Machine.{after, moves, entry, answer}

-- of each event of a run, whether it moves, its entry, and what it hands out
abbrev pub moved : Scheme → Plan → World → List Recorded → List Bool
moved s plan w [] = []
moved s plan w (r ∷ es) = moves s plan w r ∷ moved s plan (after s plan w r) es

abbrev pub entered : Scheme → Plan → World → List Recorded → List (Option Kept)
entered s plan w [] = []
entered s plan w (r ∷ es) = entry s plan w r ∷ entered s plan (after s plan w r) es

abbrev pub answered : Scheme → Plan → World → List Recorded → List (List ℕ)
answered s plan w [] = []
answered s plan w (r ∷ es) = answer s plan w r ∷ answered s plan (after s plan w r) es

-- these are what was recorded
abbrev pub IsRecorded : Scheme → Plan → World → List Recorded → Type 0
IsRecorded s plan w es = (moved s plan w es ≡ map (λ r. true) es) × (entered s plan w es ≡ map (λ r. r.touched) es)
    × (answered s plan w es ≡ map (λ r. r.given) es)

-- actors, and the names of objects

abbrev pub proc : (host place : ℕ) → Actor
proc h p = record { kind = kinds.Proc; host = h; index = p }

abbrev pub worker : (host number : ℕ) → Actor
worker h n = record { kind = kinds.Lane; host = h; index = n }

abbrev pub conn : (host number : ℕ) → Actor
conn h n = record { kind = kinds.Conn; host = h; index = n }

abbrev pub clock : (host : ℕ) → Actor
clock h = record { kind = kinds.Clock; host = h; index = 0 }

abbrev pub object : (host kind id : ℕ) → ObjectName
object h kind id = record { host = h; kind = kind; id = id }

-- an event that touched nothing
abbrev pub alone : Actor → (stamp act : ℕ) → (body : List ℕ) → Recorded
alone who stamp act body = record { who = who; stamp = stamp; act = act; body = body; touched = None; given = [] }

-- an event with its entry, and what was handed out
abbrev pub enters : Actor → (stamp act : ℕ) → (body : List ℕ) → ObjectName → (kind : ℕ) → (says given : List ℕ) → Recorded
enters who stamp act body name kind says given = record {
  who = who;
  stamp = stamp;
  act = act;
  body = body;
  touched = Some (record { object = name; stamp = stamp; who = who; act = kind; body = says });
  given = given;
}

-- A process maps a secret of another host, sends three messages with it to its own mailbox for two, and takes one.

-- the secret, whose number on the host becomes 2 to the power of 63
abbrev pub secret : Category
secret = far Secrecy 0

abbrev pub roomy : Plan
roomy = record { hosts = record only_host { boxes = record only_box { label = secret ∷ []; room = 2 } ∷ [] } ∷ []; conn_plans = [] }

abbrev pub sending : World
sending = one_process
    (ops.Map secret
    ∷ ops.Set 0 (codes "x") ∷ ops.Send 0 1 0 (secret ∷ []) [] []
    ∷ ops.Set 0 (codes "y") ∷ ops.Send 0 1 0 (secret ∷ []) [] [] ∷ ops.Send 0 1 0 (secret ∷ []) [] []
    ∷ ops.Take 1 1
    ∷ []) (secret ∷ []) (secret ∷ [])

-- the secret, and its number
abbrev pub spelled_secret : List ℕ
spelled_secret = 255 ∷ 0 ∷ 0 ∷ 0 ∷ 0 ∷ 0 ∷ 0 ∷ 0 ∷ 0 ∷ 0 ∷ []

abbrev pub its_number : List ℕ
its_number = 128 ∷ 0 ∷ 0 ∷ 0 ∷ 0 ∷ 0 ∷ 0 ∷ 0 ∷ []

-- a message with that payload byte: the host's key, its label with one number, no ownership and no clearance, and a count and the byte
abbrev pub mail : ℕ → List ℕ
mail byte = (97 ∷ 1 ∷ its_number) ++ (0 ∷ 0 ∷ 0 ∷ 0 ∷ 0 ∷ 1 ∷ byte ∷ [])

-- The third message finds the mailbox full, and the take hands out the first.
abbrev pub FindsFull : Type 0
FindsFull = IsRecorded empty_scheme roomy sending
    (enters (proc 0 0) 1 1 [] (object 0 1 0) 5 spelled_secret its_number
    ∷ alone (proc 0 0) 2 1 []
    ∷ enters (proc 0 0) 3 1 [] (object 0 2 1) 1 (mail 120) []
    ∷ alone (proc 0 0) 4 1 []
    ∷ enters (proc 0 0) 5 1 [] (object 0 2 1) 1 (mail 121) []
    ∷ enters (proc 0 0) 6 1 [] (object 0 2 1) 2 (mail 121) []
    ∷ enters (proc 0 0) 7 1 [] (object 0 2 1) 3 [] (mail 120)
    ∷ [])

-- A letter goes from one host to another.

-- as a message: its mark, the receiver's key, the slot, three empty labels, no certificates, and a count and the payload
abbrev pub message : List ℕ
message = 6 ∷ 97 ∷ 0 ∷ 0 ∷ 0 ∷ 1 ∷ 0 ∷ 0 ∷ 0 ∷ 0 ∷ 0 ∷ 0 ∷ 0 ∷ 1 ∷ 120 ∷ []

-- as the mailbox keeps it: the sender's key, three empty labels, and a count and the payload
abbrev pub kept_letter : List ℕ
kept_letter = 98 ∷ 0 ∷ 0 ∷ 0 ∷ 0 ∷ 0 ∷ 0 ∷ 1 ∷ 120 ∷ []

-- It is judged, queued, lifted, judged again, framed, read as fresh, judged on arrival, put, taken and printed.
abbrev pub CarriesALetter : Type 0
CarriesALetter = IsRecorded toy_scheme two_hosts before_letter
    (alone (proc 1 0) 1 1 []
    ∷ alone (conn 0 0) 1 3 (255 ∷ [])
    ∷ alone (conn 0 0) 2 4 []
    ∷ enters (proc 1 0) 2 1 [] (object 1 1 0) 1 [] (0 ∷ 0 ∷ [])
    ∷ enters (proc 1 0) 3 1 [] (object 1 3 1) 1 message []
    ∷ enters (worker 1 1) 4 2 [] (object 1 3 1) 3 (0 ∷ 0 ∷ 0 ∷ 1 ∷ []) (0 ∷ 0 ∷ 0 ∷ 0 ∷ 0 ∷ 0 ∷ 0 ∷ 15 ∷ message)
    ∷ enters (worker 1 1) 5 2 [] (object 1 1 0) 1 [] (0 ∷ [])
    ∷ alone (conn 0 0) 6 3 (0 ∷ [])
    ∷ enters (conn 0 0) 7 4 [] (object 0 4 0) 1 (0 ∷ 0 ∷ 0 ∷ 0 ∷ []) []
    ∷ enters (conn 0 0) 8 5 [] (object 0 1 0) 1 [] (0 ∷ 0 ∷ 0 ∷ 0 ∷ [])
    ∷ enters (conn 0 0) 9 5 [] (object 0 2 1) 1 kept_letter []
    ∷ enters (proc 0 0) 10 1 [] (object 0 2 1) 3 [] kept_letter
    ∷ alone (proc 0 0) 11 1 []
    ∷ [])

-- A frame that two connections read is fresh on the first and stale on the second.
abbrev pub CountsFrames : Type 0
CountsFrames = IsRecorded reading_scheme two_links reading
    (alone (conn 0 0) 1 4 []
    ∷ enters (conn 0 0) 2 4 [] (object 0 4 0) 1 (0 ∷ 0 ∷ 0 ∷ 0 ∷ []) []
    ∷ enters (conn 0 0) 3 5 [] (object 0 1 0) 1 [] (0 ∷ 0 ∷ 0 ∷ 0 ∷ [])
    ∷ enters (conn 0 0) 4 5 [] (object 0 2 1) 1 kept_letter []
    ∷ alone (conn 0 1) 5 4 []
    ∷ enters (conn 0 1) 6 4 [] (object 0 4 0) 2 (0 ∷ 0 ∷ 0 ∷ 0 ∷ []) []
    ∷ [])

-- A process is refused an import, a delegation and a send; the clock ticks.
abbrev pub acting : World
acting = one_process (ops.Import 0 ∷ ops.Delegate 0 (near Secrecy 1) 0 0 1 ∷ ops.Send 1 1 0 [] [] [] ∷ []) [] (near Secrecy 1 ∷ [])

-- Rule 21 refuses what is no certificate, rule 20 says that the key has no leaf, and rule 4 that there is no lane.
abbrev pub EntersRefusals : Type 0
EntersRefusals = IsRecorded empty_scheme near_and_far acting
    (enters (proc 0 0) 1 1 [] (object 0 1 0) 6 (21 ∷ []) []
    ∷ enters (proc 0 0) 2 1 [] (object 0 1 0) 6 (20 ∷ []) []
    ∷ enters (proc 0 0) 3 1 [] (object 0 1 0) 1 [] (4 ∷ [])
    ∷ enters (clock 0) 4 6 (0 ∷ 0 ∷ 0 ∷ 0 ∷ 0 ∷ 0 ∷ 0 ∷ 5 ∷ []) (object 0 1 0) 2 (0 ∷ 0 ∷ 0 ∷ 0 ∷ 0 ∷ 0 ∷ 0 ∷ 5 ∷ []) []
    ∷ [])

-- What names no event moves nothing: an act of another kind of actor; a step with bytes; a lane without a number; a connection of another
-- host; a moment of one byte. Nor do bytes that aren't the next ones of the stream.
abbrev pub MovesNothing : Type 0
MovesNothing = map (moves toy_scheme two_hosts before_letter)
    (alone (proc 1 0) 1 2 [] ∷ alone (proc 1 0) 1 1 (0 ∷ []) ∷ alone (worker 1 0) 1 2 [] ∷ alone (conn 1 0) 1 3 (255 ∷ [])
    ∷ alone (clock 0) 1 6 (5 ∷ []) ∷ alone (conn 0 0) 1 3 (254 ∷ []) ∷ [])
    ≡ false ∷ false ∷ false ∷ false ∷ false ∷ false ∷ []
