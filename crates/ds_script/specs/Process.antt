-- A process.
use Rattle.std.specs.Prelude.{ℕ, ◌+◌, List, [], Option, Some, replicate}
use Rattle.ds_label.specs.declared.category.Category.{Category}
use Rattle.ds_label.specs.Flow.{with_member, union}
use Rattle.ds_label.specs.Numbers.{by_number}
use Rattle.ds_script.specs.declared.op.Op.{Op}
use Rattle.ds_script.specs.declared.note.Note.{Note}
use Rattle.ds_script.specs.declared.note.Note.TheVariants as notes
use Rattle.ds_script.specs.declared.usable.Usable.{Usable}
use Rattle.ds_script.specs.Inner.{Course, finished}
use Rattle.ds_script.specs.Names.{with_name}

-- label, ownership and clearance are in the host's own numbers
pub record Process : Type 0 where
  pub script : List Op
  pub course : Course
  pub label : List ℕ
  pub own : List ℕ
  pub clear : List ℕ
  pub names : List Usable
  pub made : ℕ

-- with its room: 1 where there is room for the end of an operation, and 1 where there is room for a grant
pub record ProcView : Type 0 where
  pub process : Process
  pub room : ℕ
  pub spare : ℕ

-- a process at its script's start, with empty registers and no note
abbrev pub fresh : List Op → ℕ → List ℕ → List ℕ → List ℕ → List Usable → Process
fresh script made label own clear names = record { script = script; course = record { place = 0; registers = replicate 8 []; notes = [] }; label = label; own = own; clear = clear; names = names; made = made }

-- the names after a note: what was mapped joins them
abbrev pub names_after : Option Note → List Usable → List Usable
names_after (Some (notes.Mapped category local)) names = with_name category local names
names_after _ names = names

-- the end of an operation
abbrev pub finished_process : Option Note → Option (ℕ × List ℕ) → Process → Process
finished_process note load p = record p { course = finished note load p.course; names = names_after note p.names }

-- a category that the process made
abbrev pub made_process : Category → ℕ → Process → Process
made_process category local p = record p { own = with_member by_number local p.own; names = with_name category local p.names; made = p.made + 1 }

-- what a message grants joins ownership and clearance
abbrev pub granted_process : List ℕ → List ℕ → Process → Process
granted_process own clear p = record p { own = union by_number p.own own; clear = union by_number p.clear clear }
