-- What a step inside a process changes.
use Rattle.std.proofs.Common.{◌≡◌, ℕ, ◌+◌, Bool, true, false, List, Option, Some, None, slice_get, sym, ap, ◌∙◌, arith}
use Rattle.std.specs.Prelude.{nat_lt, bytes_eq, length, ◌++◌, unwrap_or, if◌then◌else◌}
use Rattle.ds_script.specs.declared.op.Op.{Op}
use Rattle.ds_script.specs.declared.op.Op.TheVariants as ops
use Rattle.ds_script.specs.Inner.{Course, inner, inner_op, loaded, noted, register, register_limit}
use Rattle.ds_script.specs.Replay.{onward}
use Rattle.ds_label.specs.declared.rule.Rule.TheVariants.{TooLong}
use Rattle.ds_script.specs.declared.note.Note.TheVariants as notes
use Rattle.ds_script.specs.Process.{Process}
use Rattle.ds_exporter.specs.HostStates.{HostProcess}
use Rattle.ds_exporter.specs.Running.{inside_of, ran_inside}

some_is : (x y : Course) → Some x ≡ Some y → x ≡ y
some_is x y e = cc

next_place : (n m : ℕ) → n + 1 ≡ m → m ≡ n → ⊥
next_place n m p q = omega (arith, p, q)

abbrev place_of : Course → ℕ
place_of c = c.place

-- an operation that leaves the place leaves the course
op_still : (op : Op) (c d : Course) → inner_op op c ≡ Some d → d.place ≡ c.place → d ≡ c
op_still (ops.Set reg text) c d e same = absurd (next_place c.place d.place (ap place_of (some_is (loaded reg text c) d e)) same)
op_still (ops.Join reg left right) c d e same = go (nat_lt register_limit (length (register left c ++ register right c))) e
  where
    go : (b : Bool) → Some (if b then noted (notes.Refused TooLong) c else loaded reg (register left c ++ register right c) c) ≡ Some d → d ≡ c
    go true f = absurd (next_place c.place d.place (ap place_of (some_is (noted (notes.Refused TooLong) c) d f)) same)
    go false f = absurd (next_place c.place d.place (ap place_of (some_is (loaded reg (register left c ++ register right c) c) d f)) same)
op_still (ops.IfEq left right to) c d e same = go (bytes_eq (register left c) (register right c)) e
  where
    go : (b : Bool) → Some (if b then record c { place = to } else record c { place = c.place + 1 }) ≡ Some d → d ≡ c
    go true f =
        let is = some_is (record c { place = to }) d f in
        sym is ∙ ap (λ (n : ℕ). record c { place = n }) (ap place_of is ∙ same)
    go false f = absurd (next_place c.place d.place (ap place_of (some_is (record c { place = c.place + 1 }) d f)) same)
op_still (ops.Jump to) c d e same =
    let is = some_is (record c { place = to }) d e in
    sym is ∙ ap (λ (n : ℕ). record c { place = n }) (ap place_of is ∙ same)
op_still (ops.Print reg) c d e same = absurd (next_place c.place d.place (ap place_of (some_is (noted (notes.Print (register reg c)) c) d e)) same)
op_still (ops.Send host slot reg label own clear) c d e same = absurd cc
op_still (ops.Take reg slot) c d e same = absurd cc
op_still (ops.SetLabel label) c d e same = absurd cc
op_still (ops.NewCat kind) c d e same = absurd cc
op_still (ops.Delegate reg category to from until) c d e same = absurd cc
op_still (ops.Map category) c d e same = absurd cc
op_still (ops.Import reg) c d e same = absurd cc

inner_still : (script : List Op) (c d : Course) → inner script c ≡ Some d → d.place ≡ c.place → d ≡ c
inner_still script c d e same = go (slice_get script c.place) e
  where
    go : (o : Option Op) → onward o (λ op. inner_op op c) ≡ Some d → d ≡ c
    go None f = absurd cc
    go (Some op) f = op_still op c d f same

abbrev with_course : HostProcess → Course → HostProcess
with_course x c = record x { process = record x.process { course = c } }

-- what the code's call answers, as the definition has it

pub ran_is : (x : HostProcess) (new : Process) (ran : Bool) → inner x.process.script x.process.course ≡ (if ran then Some new.course else None) → ran ≡ true → new ≡ record x.process { course = new.course }
    → record x { process = new } ≡ ran_inside x
ran_is x new true e t rest =
    ap (λ (p : Process). record x { process = p }) rest ∙ ap (λ (o : Option Course). with_course x (unwrap_or o x.process.course)) (sym e)
ran_is x new false e t rest = absurd cc

pub none_ran : (x : HostProcess) (new : Process) (ran : Bool) → inner x.process.script x.process.course ≡ (if ran then Some new.course else None) → ran ≡ false → inside_of x ≡ None
none_ran x new true e f = absurd cc
none_ran x new false e f = e

pub inside_some : (x : HostProcess) (new : Process) (ran : Bool) → inner x.process.script x.process.course ≡ (if ran then Some new.course else None) → ran ≡ true → inside_of x ≡ None → ⊥
inside_some x new true e t none = some_none new.course (sym e ∙ none)
  where
    some_none : (c : Course) → Some c ≡ None → ⊥
    some_none c q = grind arith
inside_some x new false e t none = absurd cc

pub place_same : (x : HostProcess) (new : Process) (ran : Bool) → inner x.process.script x.process.course ≡ (if ran then Some new.course else None) → ran ≡ true → new.course.place ≡ x.process.course.place → ran_inside x ≡ x
place_same x new true e t same =
    ap (λ (o : Option Course). with_course x (unwrap_or o x.process.course)) e
    ∙ ap (with_course x) (inner_still x.process.script x.process.course new.course e same)
place_same x new false e t same = absurd cc

pub place_moved : (x : HostProcess) (new : Process) (ran : Bool) → inner x.process.script x.process.course ≡ (if ran then Some new.course else None) → ran ≡ true → ran_inside x ≡ x → new.course.place ≡ x.process.course.place
place_moved x new true e t same =
    ap (λ (o : Option Course). place_of (unwrap_or o x.process.course)) (sym e) ∙ ap (λ (y : HostProcess). y.process.course.place) same
place_moved x new false e t same = absurd cc

pub not_run : (x : HostProcess) → inside_of x ≡ None → x ≡ ran_inside x
not_run x none = ap (λ (o : Option Course). with_course x (unwrap_or o x.process.course)) (sym none)
