-- What a command did: its answer, and the marks.
use Rattle.std.specs.Prelude.{◌≡◌, ℕ, suc, ◌⊎◌, List, Bool, true, false, Option, Some, None, Result, Ok, Err}
use Rattle.ds_base.specs.Counts.{Rose}
use Rattle.ds_base.specs.Marks.{IsMark, Raised, MayBeRaised}
use Rattle.lms_sig.specs.declared.params.Params.{Params}
use Rattle.lms_sig.specs.Keys.{derived_id}
use Rattle.ds_commands.specs.declared.command.Command.{Command}
use Rattle.ds_commands.specs.declared.command.Command.TheVariants.{Keygen, Sign, Verify, Chain}
use Rattle.ds_commands.specs.declared.reply.Reply.{Reply}
use Rattle.ds_commands.specs.declared.reply.Reply.TheVariants.{Prints}
use Rattle.ds_commands.specs.declared.reply.CommandFault.{CommandFault}
use Rattle.ds_commands.specs.declared.reply.CommandFault.TheVariants.{KeeperFault, NoMemory}
use Rattle.ds_commands.specs.Lines.{secret_alone, secret_and_message}
use Rattle.ds_commands.specs.Replies.{reply_of, sign_reply}

-- whether a command looks at its key's mark
abbrev pub asks_mark : Command → Bool
asks_mark (Keygen params index) = true
asks_mark (Sign params index) = true
asks_mark Verify = false
asks_mark (Chain moment) = false

abbrev pub name_in : {A : Type 0} → (A → List ℕ) → ℕ → Result A ℕ → Option (List ℕ)
name_in secret_of index (Ok x) = Some (derived_id (secret_of x) index)
name_in secret_of index (Err line) = None

-- the name of the mark that a command looks at: its key's identifier; none where its lines are faulty
abbrev pub key_name : Command → List ℕ → Option (List ℕ)
key_name (Keygen params index) input = name_in (λ secret. secret) index (secret_alone input)
key_name (Sign params index) input = name_in (λ both. both.0) index (secret_and_message input)
key_name Verify input = None
key_name (Chain moment) input = None

-- that mark, where there is one
abbrev pub Marked : Option (List ℕ → ℕ) → Option (List ℕ) → ℕ → Type 0
Marked marks None mark = Unit {0}
Marked marks (Some name) mark = IsMark marks name mark

-- whether a command with this answer used up the leaf at the mark
abbrev pub uses_leaf : Command → Reply → Bool
uses_leaf (Sign params index) (Prints text) = true
uses_leaf command reply = false

-- the marks afterwards: where a leaf was used up, its mark is past that leaf; else all are as they were
abbrev pub MarksAfter : Bool → Option (List ℕ) → (mark : ℕ) → (before after : Option (List ℕ → ℕ)) → Type 0
MarksAfter false name mark before after = after ≡ before
MarksAfter true None mark before after = ⊥
MarksAfter true (Some name) mark before after = Raised before name (suc mark) after

-- the answer of a command, by the mark that its key had
pub record Replied (command : Command) (now : ℕ) (input : List ℕ) (before after : Option (List ℕ → ℕ)) (reply : Reply) : Type 0 where
  pub mark : ℕ
  pub marked : Marked before (key_name command input) mark
  pub answers : reply ≡ reply_of command now mark input
  pub marks : MarksAfter (uses_leaf command reply) (key_name command input) mark before after

-- a raise failed: the mark is the old one, or past the leaf at it
pub record Unsure (command : Command) (input : List ℕ) (before after : Option (List ℕ → ℕ)) : Type 0 where
  pub name : List ℕ
  pub mark : ℕ
  pub is_name : key_name command input ≡ Some name
  pub is_mark : IsMark before name mark
  pub raised : MayBeRaised before name (suc mark) after

-- the marks where the keeper failed: as they were; of `sign` the raise may be what failed
abbrev pub MarksAfterFault : Command → List ℕ → (before after : Option (List ℕ → ℕ)) → Type 0
MarksAfterFault (Keygen params index) input before after = after ≡ before
MarksAfterFault (Sign params index) input before after = (after ≡ before) ⊎ Unsure (Sign params index) input before after
MarksAfterFault Verify input before after = after ≡ before
MarksAfterFault (Chain moment) input before after = after ≡ before

-- why there is no answer: the keeper failed, of a command that looks at a mark, or memory ran out
abbrev pub Failed : CommandFault → Command → List ℕ → (faults faults' : ℕ) → (before after : Option (List ℕ → ℕ)) → Type 0
Failed KeeperFault command input faults faults' before after =
    (asks_mark command ≡ true) × Rose faults faults' × MarksAfterFault command input before after
Failed NoMemory command input faults faults' before after = after ≡ before

-- the answer of `sign` of a secret and a message, by the mark that the key had
pub record Signed (params : Params) (index : ℕ) (secret message : List ℕ) (before after : Option (List ℕ → ℕ)) (reply : Reply) : Type 0 where
  pub mark : ℕ
  pub marked : IsMark before (derived_id secret index) mark
  pub answers : reply ≡ sign_reply params index mark (Ok (secret, message))
  pub marks : MarksAfter (uses_leaf (Sign params index) reply) (Some (derived_id secret index)) mark before after

-- why `sign` has no answer: the keeper failed to tell the mark or to raise it, or memory ran out
abbrev pub Unsigned : CommandFault → (name : List ℕ) → (faults faults' : ℕ) → (before after : Option (List ℕ → ℕ)) → Type 0
Unsigned KeeperFault name faults faults' before after =
    Rose faults faults' × ((after ≡ before) ⊎ ((mark : ℕ) × IsMark before name mark × MayBeRaised before name (suc mark) after))
Unsigned NoMemory name faults faults' before after = after ≡ before

-- why no signature was handed out: the raise failed, or memory ran out
abbrev pub Stopped : CommandFault → (faults faults' : ℕ) → (name : List ℕ) → (mark : ℕ) → (before after : Option (List ℕ → ℕ)) → Type 0
Stopped KeeperFault faults faults' name mark before after = Rose faults faults' × MayBeRaised before name (suc mark) after
Stopped NoMemory faults faults' name mark before after = after ≡ before
