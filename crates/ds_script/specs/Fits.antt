-- What a script's operations and a process's registers keep.
use Rattle.std.specs.Prelude.{ℕ, ◌≤◌, ◌<◌, ◌^◌, List, length, All}
use Rattle.ds_script.specs.declared.op.Op.{Op}
use Rattle.ds_script.specs.declared.op.Op.TheVariants.{Set, Join, IfEq, Jump, Print, Send, Take, SetLabel, NewCat, Delegate, Map, Import}
use Rattle.ds_script.specs.Inner.{Course, register_limit}

-- few enough bytes for a register
abbrev pub IsShort : List ℕ → Type 0
IsShort bytes = length bytes ≤ register_limit

-- An operation of a script of so many: its registers are below 8, its text fits a register, its place isn't past the
-- script's end, and what it maps is a category that a host may make.
abbrev pub IsOp : ℕ → Op → Type 0
IsOp size (Set reg text) = (reg < 8) × IsShort text
IsOp size (Join reg left right) = (reg < 8) × (left < 8) × (right < 8)
IsOp size (IfEq left right to) = (left < 8) × (right < 8) × (to ≤ size)
IsOp size (Jump to) = to ≤ size
IsOp size (Print reg) = reg < 8
IsOp size (Send host slot reg label own clear) = reg < 8
IsOp size (Take reg slot) = reg < 8
IsOp size (SetLabel label) = Unit {0}
IsOp size (NewCat kind) = Unit {0}
IsOp size (Delegate reg category to from until) = reg < 8
IsOp size (Map category) = category.number < 2 ^ 62
IsOp size (Import reg) = reg < 8

-- a script: at most 4,096 operations
pub record IsScript (script : List Op) : Type 0 where
  pub few : length script ≤ 4096
  pub ops : All (IsOp (length script)) script

-- a course, and for how many notes there is room
pub record Followed : Type 0 where
  pub course : Course
  pub room : ℕ
