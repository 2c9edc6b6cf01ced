use Rattle.std.proofs.Common.{◌≡◌, ◌+◌, ◌<◌, length, Some, None, arith, ap, sym, ◌∙◌}
use Rattle.std.specs.Prelude.{slice_get, set}
use Rattle.std.proofs.lemmas.Bool.{false≢true}
use Rattle.std.proofs.lemmas.Option.{slice_get-get_or}
use Rattle.ds_chain.proofs.Levels.{ArePartly, partly_skip, partly_old, partly_new, partly_all}
use Rattle.ds_chain.proofs.distance.add_level.Goals as goal
use Rattle.ds_chain.proofs.distance.add_level.Goals.{in-Some+then-is_new, in-Some+else-is_new, in_default}

pub loop-entry-preserved : goal.loop-entry-preserved
loop-entry-preserved c =
    elim c.match-entry.branch [
      | in-Some+then-is_new w ↦
          (let here : slice_get c.args.edges.now c.loop-entry.entry-index ≡ Some (Some w.in-Some.edge) = slice_get-get_or c.args.edges.now c.loop-entry.entry-index None c.loop-entry-test.true ∙ ap (λ x. Some x) w.in-Some.is in
          let within : w.in-Some.edge.by < length c.args.distances.now = (rw w.in-Some.is at (c.requires.edges c.loop-entry.entry-index None c.loop-entry-test.true)).0 in
          record {
            partly = λ key known.
                let p : ArePartly c.args.edges.now key c.args.level (c.loop-entry.entry-index + 1) (set c.loop-entry.distances w.in-Some.edge.by (Some (c.args.level + 1))) =
                partly_new c.args.edges.now key c.args.level c.loop-entry.entry-index w.in-Some.edge here c.loop-entry.distances (c.loop-entry.invariant.partly key known) (omega arith) (w.is_new.ensures.0 w.if-is_new.true) in
                rw w.distances-is p;
            unchanged = λ e. absurd (false≢true (sym e ∙ w.found-is));
          })
      | in-Some+else-is_new w ↦
          (let here : slice_get c.args.edges.now c.loop-entry.entry-index ≡ Some (Some w.in-Some.edge) = slice_get-get_or c.args.edges.now c.loop-entry.entry-index None c.loop-entry-test.true ∙ ap (λ x. Some x) w.in-Some.is in
          record {
            partly = λ key known.
                let p : ArePartly c.args.edges.now key c.args.level (c.loop-entry.entry-index + 1) c.loop-entry.distances =
                partly_old c.args.edges.now key c.args.level c.loop-entry.entry-index w.in-Some.edge here c.loop-entry.distances (c.loop-entry.invariant.partly key known)
                (λ new. false≢true (sym w.if-is_new.false ∙ w.is_new.ensures.1 new)) in
                rw w.distances-is p;
            unchanged = λ e. w.distances-is ∙ c.loop-entry.invariant.unchanged (sym w.found-is ∙ e);
          })
      | in_default w ↦
          (let here : slice_get c.args.edges.now c.loop-entry.entry-index ≡ Some None = slice_get-get_or c.args.edges.now c.loop-entry.entry-index None c.loop-entry-test.true ∙ ap (λ x. Some x) w.in_default.is in
          record {
            partly = λ key known.
                let p : ArePartly c.args.edges.now key c.args.level (c.loop-entry.entry-index + 1) c.loop-entry.distances =
                partly_skip c.args.edges.now key c.args.level c.loop-entry.entry-index c.loop-entry.distances here (c.loop-entry.invariant.partly key known) in
                rw w.distances-is p;
            unchanged = λ e. w.distances-is ∙ c.loop-entry.invariant.unchanged (sym w.found-is ∙ e);
          })
    ]

pub returns-clause-known : goal.returns-clause-known
returns-clause-known c = λ key known. partly_all c.args.edges.now key c.args.level c.loop-entry.entry-index c.loop-entry.distances c.loop-entry-test.false (c.loop-entry.invariant.partly key known)
