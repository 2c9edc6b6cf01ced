-- Worked runs of small worlds: what each event touches and is answered, computed.
use Rattle.std.specs.Prelude.{◌≡◌, ℕ, ◌^◌, true, false, List, [], ◌∷◌, Option, Some, None, codes}
use Rattle.ds_label.specs.declared.rule.Rule.TheVariants.{BadCert, KeySpent}
use Rattle.ds_label.specs.declared.category.Kind.TheVariants.{Secrecy}
use Rattle.ds_label.specs.declared.category.Category.{Category}
use Rattle.ds_script.specs.declared.op.Op.TheVariants as ops
use Rattle.ds_model.specs.Scheme.{Scheme}
use Rattle.ds_model.specs.Plan.{Plan}
use Rattle.ds_model.specs.Mailbox.{PutIn, FoundFull, TookOut}
use Rattle.ds_model.specs.Lane.{Queued, Lifted}
use Rattle.ds_model.specs.Inlet.{Fresh, Stale}
use Rattle.ds_model.specs.Desk.{Looked, Ticked, Mapped, Denied, Local, Refuse}
use Rattle.ds_model.specs.World.{Mail, Waiting, World}
use Rattle.ds_model.specs.Step.{Event, Step, Tick, step}
use Rattle.ds_model.specs.Replies.{ActorReply, Nothing, Oldest, Replied, Judged, Front, Rechecked, IsFresh, Ruled}
use Rattle.ds_model.specs.Examples.OneHost.{empty_scheme, reading_scheme, one_host, two_links, one_process, steps, a_secret, a_mail, other_key, sending_twice, reading, accepts}
use Rattle.ds_model.specs.Examples.Script.{far}
use Rattle.ds_model.specs.Examples.TwoHosts.{toy_scheme, two_hosts, before_letter, letter, letter_events}
use Rattle.ds_replay.specs.Objects.{TheDesk, MailboxAt, LaneAt, InletAt, Change, OfDesk, OfMailbox, OfLane, OfInlet}
use Rattle.ds_replay.specs.Touches.{Touch, touch}
use Rattle.ds_replay.specs.Told.{answer}

-- what each event of a run touches
abbrev pub touches : Scheme → Plan → World → List Event → List (Option Touch)
touches s plan w [] = []
touches s plan w (e ∷ events) = touch s plan w e ∷ touches s plan (step s plan w e) events

-- what each event of a run is answered
abbrev pub answers : Scheme → Plan → World → List Event → List ActorReply
answers s plan w [] = []
answers s plan w (e ∷ events) = answer s plan w e ∷ answers s plan (step s plan w e) events

-- changes of the objects of a host
abbrev pub in_desk : ℕ → Change → Option Touch
in_desk h change = Some (record { host = h; object = TheDesk; change = change })

abbrev pub in_box : ℕ → ℕ → Change → Option Touch
in_box h b change = Some (record { host = h; object = MailboxAt b; change = change })

abbrev pub on_lane : ℕ → ℕ → Change → Option Touch
on_lane h l change = Some (record { host = h; object = LaneAt l; change = change })

abbrev pub at_inlet : ℕ → ℕ → Change → Option Touch
at_inlet h i change = Some (record { host = h; object = InletAt i; change = change })

-- Of two sends to a mailbox for one message the second one finds it full, and enters that. The sender is told nothing of either.
abbrev pub FindsFull : Type 0
FindsFull = (touches empty_scheme one_host sending_twice (steps 4) ≡ None ∷ in_box 0 0 (OfMailbox (PutIn a_mail))
    ∷ in_box 0 0 (OfMailbox (FoundFull a_mail)) ∷ None ∷ [])
    × (answers empty_scheme one_host sending_twice (steps 4) ≡ Nothing ∷ Nothing ∷ Nothing ∷ Nothing ∷ [])

-- what the mailbox keeps of the message of the other exporter
abbrev pub far_mail : Mail Category
far_mail = record { from = other_key; label = []; own = []; clear = []; payload = codes "x" }

-- A frame that two connections read is fresh on the first and stale on the second; its message is judged by the desk, and then put.
abbrev pub CountsFrames : Type 0
CountsFrames = (touches reading_scheme two_links reading accepts
    ≡ None ∷ at_inlet 0 0 (OfInlet (Fresh 0)) ∷ in_desk 0 (OfDesk Looked) ∷ in_box 0 0 (OfMailbox (PutIn far_mail)) ∷ None
    ∷ at_inlet 0 0 (OfInlet (Stale 0)) ∷ [])
    × (answers reading_scheme two_links reading accepts ≡ Nothing ∷ IsFresh true ∷ Ruled None ∷ Nothing ∷ Nothing ∷ IsFresh false ∷ [])

-- the letter on its lane
abbrev pub the_letter : Waiting
the_letter = record { sender = 0; message = letter }

-- A letter from one host to another: it is judged and queued, lifted and judged again, read, judged on arrival and put, and taken.
abbrev pub CarriesALetter : Type 0
CarriesALetter = (touches toy_scheme two_hosts before_letter letter_events
    ≡ None ∷ None ∷ None
    ∷ in_desk 1 (OfDesk Looked)
    ∷ on_lane 1 0 (OfLane (Queued the_letter)) ∷ on_lane 1 0 (OfLane (Lifted 1)) ∷ in_desk 1 (OfDesk Looked) ∷ None
    ∷ at_inlet 0 0 (OfInlet (Fresh 0)) ∷ in_desk 0 (OfDesk Looked) ∷ in_box 0 0 (OfMailbox (PutIn far_mail))
    ∷ in_box 0 0 (OfMailbox TookOut)
    ∷ None
    ∷ [])
    × (answers toy_scheme two_hosts before_letter letter_events
    ≡ Nothing ∷ Nothing ∷ Nothing
    ∷ Judged [] None
    ∷ Nothing ∷ Front (the_letter ∷ []) ∷ Rechecked (None ∷ []) ∷ Nothing ∷ IsFresh true ∷ Ruled None ∷ Nothing
    ∷ Oldest (Some far_mail)
    ∷ Nothing
    ∷ [])

-- A process maps a category of another host, and tries to import what is no certificate and to delegate where its host's key has
-- no leaf; then it waits for a message.
abbrev pub acting : World
acting = one_process (ops.Map (far Secrecy 0) ∷ ops.Import 0 ∷ ops.Delegate 0 a_secret 0 0 1 ∷ ops.Take 0 1 ∷ []) [] (a_secret ∷ [])

-- Both refusals are entered. The clock's tick is entered where it raises the moment. A take from an empty mailbox enters nothing.
abbrev pub EntersRefusals : Type 0
EntersRefusals = (touches empty_scheme one_host acting (Step 0 0 ∷ Step 0 0 ∷ Step 0 0 ∷ Step 0 0 ∷ Tick 0 5 ∷ Tick 0 5 ∷ [])
    ≡ in_desk 0 (OfDesk (Mapped (far Secrecy 0))) ∷ in_desk 0 (OfDesk (Denied BadCert)) ∷ in_desk 0 (OfDesk (Denied KeySpent))
    ∷ None ∷ in_desk 0 (OfDesk (Ticked 5)) ∷ None ∷ [])
    × (answers empty_scheme one_host acting (Step 0 0 ∷ Step 0 0 ∷ Step 0 0 ∷ Step 0 0 ∷ Tick 0 5 ∷ Tick 0 5 ∷ [])
    ≡ Replied (Local (2 ^ 63)) ∷ Replied (Refuse BadCert) ∷ Replied (Refuse KeySpent) ∷ Oldest None ∷ Nothing ∷ Nothing ∷ [])
