use Rattle.std.proofs.Common.{◌≡◌, map, refl, sym, ap, subst, slice_set, ◌∙◌}
use Rattle.ds_desk.specs.Desks.{kept_of}
use Rattle.ds_inlet.specs.Connections.{Connection}
use Rattle.ds_exporter.specs.HostStates.{box_of, connection_of}
use Rattle.ds_exporter.specs.Delivering.{IsJudged}
use Rattle.ds_exporter.proofs.IfDone.{on_err}
use Rattle.ds_exporter.proofs.Places.{map_at_here, map_same, some_is, stands_now}
use Rattle.ds_exporter.proofs.judging.judge_at.Goals as goal

pub judge_next-requires-clause-hello : goal.judge_next-requires-clause-hello
judge_next-requires-clause-hello c =
    (c.requires.ready (connection_of c.index_mut.result.now) (stands_now connection_of c.args.conns.now.items c.args.place c.index_mut.result.now c.requires.place c.index_mut.ensures.value)).1

pub returns-in_err-judge_next-clause-err : goal.returns-in_err-judge_next-clause-err
returns-in_err-judge_next-clause-err c =
    on_err (map connection_of (slice_set c.args.conns.now.items c.args.place c.judge_next.new.conn) ≡ map connection_of c.args.conns.now.items) c.from_residual.result
    (map_same connection_of c.args.place c.args.conns.now.items c.index_mut.result.now c.judge_next.new.conn c.requires.place (c.in_err-judge_next.ensures.err ∙ ap connection_of c.index_mut.ensures.value))

pub returns-clause-ok : goal.returns-clause-ok
returns-clause-ok c =
    let there = stands_now connection_of c.args.conns.now.items c.args.place c.index_mut.result.now c.requires.place c.index_mut.ensures.value in
    λ k h. (
      connection_of c.judge_next.new.conn,
      map_at_here connection_of (λ _. connection_of c.judge_next.new.conn) c.args.place c.args.conns.now.items c.index_mut.result.now c.judge_next.new.conn c.requires.place refl,
      subst (λ (x : Connection). IsJudged (kept_of c.args.desk.now) (map box_of c.args.boxes.now.items) x (connection_of c.judge_next.new.conn))
          (some_is (connection_of c.index_mut.result.now) k (sym there ∙ h)) c.in_ok-judge_next.ensures.ok,
    )
