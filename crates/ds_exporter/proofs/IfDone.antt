-- What is so where a call was done.
use Rattle.std.specs.Prelude.{◌≡◌, Result, Ok, Err, IfOk, OnErr}
use Rattle.std.specs.declared.alloc.AllocError.{AllocError}
use Rattle.ds_exporter.specs.declared.moved.Moved.{Moved}
use Rattle.ds_exporter.specs.declared.moved.Moved.TheVariants.{Still}

pub if_done : {A E : Type 0} (P Q : A → Type 0) (r : Result A E) → ((x : A) → P x → Q x) → IfOk r P → IfOk r Q
if_done P Q (Ok x) more p = more x p
if_done P Q (Err e) more p = p

-- what is so anyway
pub on_err : {A E : Type 0} (P : Type 0) (r : Result A E) → P → OnErr r P
on_err P (Ok x) p = tt
on_err P (Err e) p = p

-- what was done was still
pub still_is : (moved : Moved) → ◌≡◌ {A = Result Moved AllocError} (Ok moved) (Ok Still) → moved ≡ Still
still_is moved e = cc
