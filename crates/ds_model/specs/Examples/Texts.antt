-- The texts of small worlds, with names, and with a letter in place of each digest.
use Rattle.std.specs.Prelude.{◌≡◌, ℕ, List, [], ◌∷◌, ◌++◌, codes}
use Rattle.ds_model.specs.Text.{text_of}
use Rattle.ds_model.specs.Print.{Printing, printed}
use Rattle.ds_model.specs.Examples.OneHost.{one_host, printing, after_steps}
use Rattle.ds_model.specs.Examples.Script.{near_and_far, scripted}
use Rattle.ds_model.specs.Examples.TwoHosts.{two_hosts, after_letter}

-- how things are printed, with these names
abbrev pub named : List (List ℕ) → Printing
named names = record { names = names; delegation = λ d. []; address = λ a. []; category = λ c. []; digest = λ bytes. codes "D" }

-- lines with their line feeds
abbrev pub lines : List (List ℕ) → List ℕ
lines [] = []
lines (line ∷ more) = line ++ 10 ∷ lines more

-- the process that prints
abbrev pub IsPrinting : Type 0
IsPrinting = text_of (printed (named (codes "a" ∷ [])) one_host) one_host (after_steps 2 printing) ≡ lines (
    codes "dstar 1"
    ∷ codes "host a moment 0 leaf 0 store 0 addresses 0 maps 0 desk -"
    ∷ codes "proc a.0 at 2 label {} own {} clear {}"
    ∷ codes "  print hello"
    ∷ codes "box a.1 label {} room 1 waits 0"
    ∷ [])

-- the process that tries what it may do
abbrev pub IsTrying : Type 0
IsTrying = text_of (printed (named (codes "a" ∷ codes "z" ∷ [])) near_and_far) near_and_far scripted ≡ lines (
    codes "dstar 1"
    ∷ codes "host a moment 0 leaf 0 store 0 addresses 0 maps 2 desk D"
    ∷ codes "proc a.0 at 26 label {} own {a.0.0.s,a.0.1.s,a.0.2.i} clear {}"
    ∷ codes "  newcat a.0.1.s"
    ∷ codes "  label {a.0.1.s}"
    ∷ codes "  newcat a.0.2.i"
    ∷ codes "  mapped z.0.0.s as 9223372036854775808"
    ∷ codes "  mapped z.0.5.i as 9223372036854775811"
    ∷ codes "  mapped z.0.0.s as 9223372036854775808"
    ∷ codes "  mapped a.0.7.s as 14"
    ∷ codes "  refused NotKnown z.0.9.s"
    ∷ codes "  refused LabelRefused"
    ∷ codes "  refused ClearNotHeld"
    ∷ codes "  sent"
    ∷ codes "  sent"
    ∷ codes "  refused NotFlow"
    ∷ codes "  took 1 2"
    ∷ codes "  refused NoBox"
    ∷ codes "  refused NotHeld"
    ∷ codes "  refused BadCert"
    ∷ codes "  refused NotKnown z.0.9.s"
    ∷ codes "  print hihi"
    ∷ codes "  refused NoLane"
    ∷ codes "  refused LabelRefused"
    ∷ codes "  label {}"
    ∷ codes "  print "
    ∷ codes "box a.1 label {} room 1 waits 0"
    ∷ codes "  put a hi"
    ∷ codes "  full a hi"
    ∷ codes "  took 2"
    ∷ [])

-- the two hosts with the letter
abbrev pub IsPosted : Type 0
IsPosted = text_of (printed (named (codes "a" ∷ codes "b" ∷ [])) two_hosts) two_hosts after_letter ≡ lines (
    codes "dstar 1"
    ∷ codes "host a moment 0 leaf 0 store 0 addresses 0 maps 0 desk -"
    ∷ codes "proc a.0 at 2 label {} own {} clear {}"
    ∷ codes "  took 1 1"
    ∷ codes "  print x"
    ∷ codes "box a.1 label {} room 4 waits 0"
    ∷ codes "  put b x"
    ∷ codes "  took 1"
    ∷ codes "inlet a from b.1 last 0"
    ∷ codes "host b moment 0 leaf 0 store 0 addresses 0 maps 0 desk -"
    ∷ codes "proc b.0 at 2 label {} own {} clear {}"
    ∷ codes "  sent"
    ∷ codes "lane b.1 to a label {} room 4 waits 0 hand 0 leaf 1 bytes 2 stream D"
    ∷ codes "  queued 0.1 x"
    ∷ codes "  framed 0 1"
    ∷ codes "conn 0 from b.1 to a arrived 2 stream D state open"
    ∷ codes "  frame 0 1"
    ∷ codes "  pass 1"
    ∷ [])
