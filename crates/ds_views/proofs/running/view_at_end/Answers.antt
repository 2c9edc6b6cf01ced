use Rattle.std.proofs.Common.{◌∙◌, map, sym, ap, subst}
use Rattle.ds_plan.specs.Documents.{IsDocument}
use Rattle.ds_setup.specs.Events.{meant}
use Rattle.ds_plan.specs.declared.doc.Doc.{Doc}
use Rattle.ds_law.specs.TwoDocuments.{end_of}
use Rattle.ds_sim.specs.Sims.{without_events}
use Rattle.ds_views.proofs.Actors.{stays}
use Rattle.ds_views.proofs.Runs.{seen_so}
use Rattle.ds_views.proofs.running.view_at_end.Goals as goal

pub run_of-requires : goal.run_of-requires
run_of-requires c = subst IsDocument (sym c.doc.ensures) c.requires.fresh.document

pub view-requires : goal.view-requires
view-requires c =
    let a = c.args.actor.now in
    stays c.args.world.now c.in_ok-end.end c.fit.ensures c.fit-2.ensures (c.in_ok-end.ensures.doc ∙ ap without_events c.doc.ensures) a.kind a.host a.index c.requires.there

pub returns : goal.returns
returns c =
    seen_so c.args.world.now.doc c.in_ok-end.end (map meant c.args.events.now) c.args.actor.now c.view.result
    (c.in_ok-end.ensures.doc ∙ ap without_events c.doc.ensures) (c.in_ok-end.ensures.end ∙ ap (λ (d : Doc). end_of d (map meant c.args.events.now)) c.doc.ensures) c.view.ensures
