-- What each way to end says of a call: one case a status.
use Rattle.std.specs.Prelude.{◌≡◌, ◌⊎◌, ℕ, ◌<◌, ◌≤◌, List, length, Bool, false, Option, Some, None}
use Rattle.ds_base.specs.Counts.{Rose, Told, NoneLeft, Appended}
use Rattle.ds_commands.specs.declared.command.Command.TheVariants.{Sign}
use Rattle.ds_commands.specs.declared.reply.Reply.{Reply}
use Rattle.ds_commands.specs.declared.reply.Reply.TheVariants.{Prints, Denies, Breaks, Spends}
use Rattle.ds_commands.specs.declared.reply.CommandFault.{CommandFault}
use Rattle.ds_commands.specs.declared.reply.CommandFault.TheVariants as command_faults
use Rattle.ds_commands.specs.Outcome.{Marked, MarksAfter, Failed, key_name, uses_leaf, asks_mark}
use Rattle.ds_commands.specs.Replies.{reply_of}
use Rattle.dstar.specs.declared.call.Call.{Call}
use Rattle.dstar.specs.declared.call.Call.TheVariants.{Sim, Small}
use Rattle.dstar.specs.declared.status.Status.{Status}
use Rattle.dstar.specs.declared.status.Status.TheVariants as ends
use Rattle.dstar.specs.Outside.{input_limit, WroteFront}
use Rattle.dstar.specs.Sims.{SimGives}

-- What a call saw and did outside: the bytes that the input told and the bytes that the output told, the marks that the keeper
-- told, and the counts of the input's faults and ends, of the output's faults and of the keeper's, before and after.
pub record Observed : Type 0 where
  pub told : Option (List ℕ)
  pub left : Option (List ℕ)
  pub read_faults : ℕ
  pub read_faults_after : ℕ
  pub ends : ℕ
  pub ends_after : ℕ
  pub written : Option (List ℕ)
  pub written_after : Option (List ℕ)
  pub write_faults : ℕ
  pub write_faults_after : ℕ
  pub marks : Option (List ℕ → ℕ)
  pub marks_after : Option (List ℕ → ℕ)
  pub keeper_faults : ℕ
  pub keeper_faults_after : ℕ

-- WHAT A CALL ANSWERS, by the moment, the mark of its key and its whole input

-- `sim` the text of the document's run, or what is wrong with the input; each other command its reply
abbrev pub Gives : Call → (now mark : ℕ) → List ℕ → Reply → Type 0
Gives Sim now mark bytes reply = SimGives bytes reply
Gives (Small command) now mark bytes reply = reply ≡ reply_of command now mark bytes

-- the name of the mark that a call looks at
abbrev pub name_of : Call → List ℕ → Option (List ℕ)
name_of Sim bytes = None
name_of (Small command) bytes = key_name command bytes

-- whether a call may touch the keeper
abbrev pub asks_keeper : Call → Bool
asks_keeper Sim = false
asks_keeper (Small command) = asks_mark command

-- whether a call with this answer used up a leaf
abbrev pub spends_leaf : Call → Reply → Bool
spends_leaf Sim reply = false
spends_leaf (Small command) reply = uses_leaf command reply

-- the answer, by the mark that the key had; where a leaf was used up, the mark is past it
pub record Answered (call : Call) (now : ℕ) (bytes : List ℕ) (before after : Option (List ℕ → ℕ)) (reply : Reply) : Type 0 where
  pub mark : ℕ
  pub marked : Marked before (name_of call bytes) mark
  pub gives : Gives call now mark bytes reply
  pub marks : MarksAfter (spends_leaf call reply) (name_of call bytes) mark before after

-- why there is no answer: the keeper failed, of a command that looks at a mark
abbrev pub KeeperFailed : Call → List ℕ → (faults faults' : ℕ) → (marks after : Option (List ℕ → ℕ)) → Type 0
KeeperFailed Sim bytes faults faults' marks after = ⊥
KeeperFailed (Small command) bytes faults faults' marks after = Failed command_faults.KeeperFault command bytes faults faults' marks after

-- why there is no answer
abbrev pub Unanswered : CommandFault → Call → List ℕ → (faults faults' : ℕ) → (marks after : Option (List ℕ → ℕ)) → Type 0
Unanswered command_faults.KeeperFault call bytes faults faults' marks after = KeeperFailed call bytes faults faults' marks after
Unanswered command_faults.NoMemory call bytes faults faults' marks after = after ≡ marks

-- HOW A CALL ENDS

-- nothing was written
abbrev pub WroteNothing : Observed → Type 0
WroteNothing m = m.written_after ≡ m.written

-- no mark was raised
abbrev pub KeptMarks : Observed → Type 0
KeptMarks m = m.marks_after ≡ m.marks

-- these bytes are the input, read to its end
pub record ReadWhole (m : Observed) (bytes : List ℕ) : Type 0 where
  pub taken : Told m.told bytes m.left
  pub ended : Rose m.ends m.ends_after
  pub none_left : NoneLeft m.left
  pub short : length bytes ≤ input_limit

-- the answer's text was written
pub record Wrote (call : Call) (now : ℕ) (m : Observed) (says : List ℕ → Reply) : Type 0 where
  pub bytes : List ℕ
  pub whole : ReadWhole m bytes
  pub text : List ℕ
  pub answered : Answered call now bytes m.marks m.marks_after (says text)
  pub wrote : Appended m.written text m.written_after

-- the text of an answer that has one
abbrev pub text_in : Reply → Option (List ℕ)
text_in (Prints text) = Some text
text_in (Denies text) = Some text
text_in (Breaks code place) = None
text_in Spends = None

-- the output failed, and some front of the answer's text was written
pub record Stopped (call : Call) (now : ℕ) (m : Observed) : Type 0 where
  pub bytes : List ℕ
  pub whole : ReadWhole m bytes
  pub reply : Reply
  pub text : List ℕ
  pub is_text : text_in reply ≡ Some text
  pub answered : Answered call now bytes m.marks m.marks_after reply
  pub failed : Rose m.write_faults m.write_faults_after
  pub wrote : WroteFront m.written text m.written_after

-- more bytes were read than an input may have
pub record Overran (m : Observed) : Type 0 where
  pub bytes : List ℕ
  pub taken : Told m.told bytes m.left
  pub long : input_limit < length bytes
  pub silent : WroteNothing m
  pub kept : KeptMarks m

-- the answer has no text: what is wrong with the input, or that the key has no leaf left
pub record Silent (call : Call) (now : ℕ) (m : Observed) (reply : Reply) : Type 0 where
  pub bytes : List ℕ
  pub whole : ReadWhole m bytes
  pub answered : Answered call now bytes m.marks m.marks_after reply
  pub silent : WroteNothing m

-- the keeper failed
pub record LostKeeper (call : Call) (m : Observed) : Type 0 where
  pub bytes : List ℕ
  pub whole : ReadWhole m bytes
  pub failed : KeeperFailed call bytes m.keeper_faults m.keeper_faults_after m.marks m.marks_after
  pub silent : WroteNothing m

-- the causes of a call at a moment
abbrev pub Caused : Call → (now : ℕ) → Observed → Status → Type 0
Caused call now m ends.Ok = Wrote call now m Prints
Caused call now m ends.Usage = ⊥
Caused call now m ends.ReadFault = Rose m.read_faults m.read_faults_after × WroteNothing m × KeptMarks m
Caused call now m ends.WriteFault = Stopped call now m
Caused call now m ends.TooLong = Overran m
Caused call now m (ends.Document code place) = Silent call now m (Breaks code place)
Caused call now m ends.NoMemory = WroteNothing m × KeptMarks m
Caused call now m ends.KeeperFault = LostKeeper call m
Caused call now m ends.Spent = Silent call now m Spends
Caused call now m ends.WireFault = ⊥
Caused call now m ends.No = Wrote call now m Denies

-- WHAT IS ANSWERED where the input tells its bytes and no count rose in the call: by the bytes alone, unless memory ran out

-- the status of an answer
abbrev pub status_of : Reply → Status
status_of (Prints text) = ends.Ok
status_of (Denies text) = ends.No
status_of (Breaks code place) = ends.Document code place
status_of Spends = ends.Spent

-- `sign` is decided where the keeper tells its marks
abbrev pub IsDecided : Call → Option (List ℕ → ℕ) → Type 0
IsDecided (Small (Sign params index)) None = ⊥
IsDecided call marks = Unit {0}

pub record Answers (call : Call) (now : ℕ) (marks : Option (List ℕ → ℕ)) (bytes : List ℕ) (status : Status) : Type 0 where
  pub too_long : input_limit < length bytes → (status ≡ ends.TooLong) ⊎ (status ≡ ends.NoMemory)
  pub answered : length bytes ≤ input_limit → IsDecided call marks → (mark : ℕ) → Marked marks (name_of call bytes) mark
      → (reply : Reply) → Gives call now mark bytes reply → (status ≡ status_of reply) ⊎ (status ≡ ends.NoMemory)
