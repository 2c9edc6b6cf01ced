use Rattle.std.proofs.Common.{◌≡◌, ◌++◌, ◌≤◌, List, [], length, ap, ◌∙◌, arith}
use Rattle.std.proofs.lemmas.List.{append-nil, length-append}
use Rattle.ds_plan.specs.declared.event.Event.{Event}
use Rattle.ds_mesh.proofs.Quiet.{rest_after, schedule_few}
use Rattle.ds_mesh.proofs.settling.go_on.Goals as goal

pub returns-clause-few : goal.returns-clause-few
returns-clause-few c =
    let most : length c.in_ok-more.more ≤ c.args.left = schedule_few c.args.world.now c.args.left c.in_ok-more.more c.in_ok-more.ensures.list in
    omega (arith, most, ap length c.in_ok-append.ensures, ap length c.as_slice.ensures, length-append c.args.events.now.items c.as_slice.result.now)

pub returns-clause-rest : goal.returns-clause-rest
returns-clause-rest c = λ t.
    let none : c.in_ok-more.more ≡ [] = c.is_empty.ensures.0 t in (
      rest_after c.args.world.now c.canonical.new.self c.args.left c.in_ok-more.more c.fit.ensures c.in_ok-more.ensures.doc c.requires.some c.in_ok-more.ensures.list c.in_ok-more.ensures.ok none,
      c.in_ok-append.ensures ∙ (ap (λ (es : List Event). c.args.events.now.items ++ es) (c.as_slice.ensures ∙ none) ∙ append-nil c.args.events.now.items),
    )
