use Rattle.std.proofs.Common.{◌≡◌, ◌-◌, refl, sym, ◌∙◌, arith}
use Rattle.lms_sig.proofs.Climbs.{climb-none, climb-step}
use Rattle.lms_sig.proofs.path.climbed.Goals as goal

pub levels-init : goal.levels-init
levels-init c =
    let all : c.args.levels - 0 ≡ c.args.levels = omega arith in
    rw all refl

pub levels-preserved : goal.levels-preserved
levels-preserved c =
    let step = climb-step c.args.id.now c.levels.node c.levels.value c.args.siblings.now c.args.levels c.levels.i (omega arith) in
    rw (c.parent_hash-value.ensures, c.value_at-other.ensures) (sym step ∙ c.levels.invariant)

pub returns : goal.returns
returns c =
    sym (climb-none c.args.id.now c.levels.node c.levels.value _ (c.args.levels - c.levels.i) (omega arith)) ∙ c.levels.invariant
