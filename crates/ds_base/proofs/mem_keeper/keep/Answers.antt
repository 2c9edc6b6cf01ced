use Rattle.std.proofs.Common.{◌≡◌, position, Some, None, sym, ◌∙◌, arith}
use Rattle.std.specs.Str.{bytes_eq}
use Rattle.std.proofs.lemmas.Grind.{common_steps}
use Rattle.ds_base.proofs.Keeping.{mark_of-Some, mark_of-None, mark_of-raised, mark_of-raised_other, mark_of-new, mark_of-new_other}
use Rattle.ds_base.proofs.mem_keeper.keep.Goals as goal

pub returns-in-Some-clause-mark : goal.returns-in-Some-clause-mark
returns-in-Some-clause-mark c =
    let ks = c.args.marks.now.items in
    let kept = c.index_mut-kept.result.now in
    let place = rw c.deref.ensures.value at c.place_of.ensures in
    let at : position (λ kept. bytes_eq kept.0 c.args.name.now) ks ≡ Some c.in-Some.place = sym place ∙ c.in-Some.is in
    let raised = mark_of-raised ks c.args.name.now c.in-Some.place c.max-kept.result kept at c.index_mut-kept.ensures.value in
    let was = mark_of-Some ks c.args.name.now c.in-Some.place kept at in
    grind (arith, common_steps, raised, was, c.index_mut-kept.ensures.value, c.max-kept.ensures)

pub returns-in-Some-clause-others : goal.returns-in-Some-clause-others
returns-in-Some-clause-others c = λ other differ.
    let ks = c.args.marks.now.items in
    let place = rw c.deref.ensures.value at c.place_of.ensures in
    let at : position (λ kept. bytes_eq kept.0 c.args.name.now) ks ≡ Some c.in-Some.place = sym place ∙ c.in-Some.is in
    mark_of-raised_other ks c.args.name.now other c.in-Some.place c.max-kept.result c.index_mut-kept.result.now at c.index_mut-kept.ensures.value differ

pub returns-in_ok-push-in-None-clause-mark : goal.returns-in_ok-push-in-None-clause-mark
returns-in_ok-push-in-None-clause-mark c =
    let ks = c.args.marks.now.items in
    let place = rw c.deref.ensures.value at c.place_of.ensures in
    let at : position (λ kept. bytes_eq kept.0 c.args.name.now) ks ≡ None = sym place ∙ c.in-None.is in
    let was = mark_of-None ks c.args.name.now at in
    let new = mark_of-new ks c.args.name.now c.args.to at in
    rw c.in_ok-push-in-None.ensures.items (grind (arith, common_steps, was, new))

pub returns-in_ok-push-in-None-clause-others : goal.returns-in_ok-push-in-None-clause-others
returns-in_ok-push-in-None-clause-others c = λ other differ. rw c.in_ok-push-in-None.ensures.items (mark_of-new_other c.args.marks.now.items c.args.name.now other c.args.to differ)
