use Rattle.std.proofs.Common.{◌++◌, List, ap, ◌∙◌}
use Rattle.ds_plan.specs.declared.event.Event.{Event}
use Rattle.ds_sim.specs.Sims.{text_now}
use Rattle.ds_mesh.specs.Meshes.{event_lines}
use Rattle.ds_mesh.proofs.Texts.{is_mesh_text}
use Rattle.ds_mesh.proofs.mesh.mesh_text.Goals as goal

pub returns : goal.returns
returns g c =
    is_mesh_text c.args.doc c.in_ok-world.world c.in_ok-ran.ran.world c.in_ok-ran.ran.events.items c.in_ok-text.text.items c.requires.document c.in_ok-world.ensures.doc c.in_ok-world.ensures.start c.hands.ensures c.in_ok-ran.ensures
    (c.in_ok-text.ensures ∙ ap (λ (es : List Event). event_lines c.in_ok-ran.ran.world.doc es ++ text_now c.in_ok-ran.ran.world) c.as_slice.ensures.value)
