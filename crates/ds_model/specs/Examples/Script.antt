-- A small world with one process, whose script tries what a process may do on its own host, and its notes.
use Rattle.std.specs.Prelude.{◌≡◌, ℕ, true, List, [], ◌∷◌, Some, option_map, slice_get, codes}
use Rattle.ds_label.specs.declared.category.Kind.{Kind}
use Rattle.ds_label.specs.declared.category.Kind.TheVariants.{Secrecy, Integrity}
use Rattle.ds_label.specs.declared.category.PubKey.{PubKey}
use Rattle.ds_label.specs.declared.category.Category.{Category}
use Rattle.ds_label.specs.declared.rule.Rule.TheVariants.{NotFlow, ClearNotHeld, NoLane, NotKnown, NoBox, NotHeld, LabelRefused, BadCert}
use Rattle.ds_script.specs.declared.op.Op.{Op}
use Rattle.ds_script.specs.declared.op.Op.TheVariants as ops
use Rattle.ds_script.specs.declared.note.Note.{Note}
use Rattle.ds_script.specs.declared.note.Note.TheVariants as notes
use Rattle.ds_model.specs.Plan.{HostSetup, Plan}
use Rattle.ds_model.specs.Mailbox.{PutIn, FoundFull, TookOut}
use Rattle.ds_model.specs.World.{Mail, World}
use Rattle.ds_model.specs.Step.{run}
use Rattle.ds_model.specs.Views.{proc_at}
use Rattle.ds_model.specs.Examples.OneHost.{empty_scheme, only_key, only_host, one_process, steps, notes_of, box_in}

-- another host, for which outsiders act
abbrev pub far_key : PubKey
far_key = record { 0 = 255 ∷ [] }

abbrev pub far_host : HostSetup
far_host = record only_host { key = far_key; silent = true; procs = 0; boxes = [] }

-- the process's own host and that one, without a connection
abbrev pub near_and_far : Plan
near_and_far = record { hosts = only_host ∷ far_host ∷ []; conn_plans = [] }

-- categories of both hosts
abbrev pub near : Kind → ℕ → Category
near kind number = record { creator = only_key; kind = kind; number = number }

-- of the other host
abbrev pub far : Kind → ℕ → Category
far kind number = record { creator = far_key; kind = kind; number = number }

-- what the process does, with what it comes to
abbrev pub script : List Op
script =
    ops.NewCat Secrecy
    ∷ ops.SetLabel (near Secrecy 1 ∷ [])
    ∷ ops.NewCat Integrity
    ∷ ops.Map (far Secrecy 0)
    ∷ ops.Map (far Integrity 5)
    ∷ ops.Map (far Secrecy 0)
    ∷ ops.Map (near Secrecy 7)
    ∷ ops.SetLabel (far Secrecy 9 ∷ [])
    ∷ ops.SetLabel (near Secrecy 1 ∷ far Secrecy 0 ∷ [])
    ∷ ops.Set 0 (codes "hi")
    ∷ ops.Send 0 1 0 [] (near Secrecy 0 ∷ []) (near Secrecy 3 ∷ [])
    ∷ ops.Send 0 1 0 [] (near Secrecy 0 ∷ []) []
    ∷ ops.Send 0 1 0 [] [] []
    ∷ ops.Send 0 1 0 (far Integrity 5 ∷ []) [] []
    ∷ ops.Take 1 1
    ∷ ops.Take 1 2
    ∷ ops.Delegate 2 (near Secrecy 9) 1 0 10
    ∷ ops.Import 0
    ∷ ops.Delegate 2 (far Secrecy 9) 1 0 10
    ∷ ops.Join 0 0 1
    ∷ ops.IfEq 0 1 23
    ∷ ops.Print 0
    ∷ ops.Send 1 1 0 [] [] []
    ∷ ops.SetLabel (near Secrecy 7 ∷ [])
    ∷ ops.SetLabel []
    ∷ ops.Print 2
    ∷ []

-- what it notes
abbrev pub its_notes : List Note
its_notes =
    notes.NewCat (near Secrecy 1)
    ∷ notes.SetLabel (near Secrecy 1 ∷ [])
    ∷ notes.NewCat (near Integrity 2)
    ∷ notes.Mapped (far Secrecy 0) 9223372036854775808
    ∷ notes.Mapped (far Integrity 5) 9223372036854775811
    ∷ notes.Mapped (far Secrecy 0) 9223372036854775808
    ∷ notes.Mapped (near Secrecy 7) 14
    ∷ notes.Refused (NotKnown (far Secrecy 9))
    ∷ notes.Refused LabelRefused
    ∷ notes.Refused ClearNotHeld
    ∷ notes.Sent
    ∷ notes.Sent
    ∷ notes.Refused NotFlow
    ∷ notes.Took 1 2 true
    ∷ notes.Refused NoBox
    ∷ notes.Refused NotHeld
    ∷ notes.Refused BadCert
    ∷ notes.Refused (NotKnown (far Secrecy 9))
    ∷ notes.Print (codes "hihi")
    ∷ notes.Refused NoLane
    ∷ notes.Refused LabelRefused
    ∷ notes.SetLabel []
    ∷ notes.Print []
    ∷ []

-- the messages that it sends to its own mailbox, which has room for one
abbrev pub granting : Mail Category
granting = record { from = only_key; label = []; own = near Secrecy 0 ∷ []; clear = []; payload = codes "hi" }

-- the one that grants nothing
abbrev pub plain : Mail Category
plain = record { from = only_key; label = []; own = []; clear = []; payload = codes "hi" }

-- the world after all of its steps
abbrev pub scripted : World
scripted = run empty_scheme near_and_far (one_process script [] (near Secrecy 0 ∷ [])) (steps 26)

-- its notes, what it owns, and its mailbox
abbrev pub IsScripted : Type 0
IsScripted = (notes_of scripted ≡ Some its_notes)
    × (option_map (λ x. x.own) (proc_at scripted 0 0) ≡ Some (near Secrecy 0 ∷ near Secrecy 1 ∷ near Integrity 2 ∷ []))
    × (box_in (slice_get scripted.hosts 0) ≡ Some (record { waiting = []; entries = PutIn granting ∷ FoundFull plain ∷ TookOut ∷ [] }))
