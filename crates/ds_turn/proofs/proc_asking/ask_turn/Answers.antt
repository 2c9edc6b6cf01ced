use Rattle.std.proofs.Common.{◌<◌, sym, subst}
use Rattle.ds_actor.specs.Asking.{HasTable}
use Rattle.std.specs.Prelude.{ℕ}
use Rattle.ds_turn.specs.Nodes.{seen_of}
use Rattle.ds_turn.specs.ProcRecords.{ProcRecord}
use Rattle.ds_turn.specs.ProcAsks.{Answers, IsChecked}
use Rattle.ds_turn.proofs.ProcAskings.{answers}
use Rattle.ds_turn.proofs.proc_asking.ask_turn.Goals as goal

pub returns-clause-ok : goal.returns-clause-ok
returns-clause-ok g c =
    let site = seen_of c.args.node.now in
    let r = c.reserve.new.self in
    let new = c.ask.new.self in
    let a = c.in_ok-ask.ask in
    let room = subst (λ (n : ℕ). 0 < n) (sym c.ask.ensures.spare) c.in_ok-reserve.ensures.room.spare in
    let table = subst (λ (q : ProcRecord). HasTable site.here q.process.names) (sym c.reserve.ensures.same) c.requires.may.agreed in
    let known : HasTable site.here r.proc.process.names → HasTable site.here c.as_slice.result.now = λ t.
    subst (HasTable site.here) (sym c.as_slice.ensures.value)
    (c.in_ok-before.ensures site.here (subst (λ p. HasTable site.here p.names) (sym c.process.ensures) t)) in
    let here = subst (λ k. IsChecked k c.as_slice.result.now c.process-2.result.now.process.names a) c.here.ensures c.check.ensures in
    let checked = subst (λ p. IsChecked site.here c.as_slice.result.now p.names a) c.process-2.ensures here in
    subst (λ (q : ProcRecord). Answers site q new a) c.reserve.ensures.same
    (answers site r new c.ask.ensures.same c.ask.ensures.script room a c.as_slice.result.now c.in_ok-ask.ensures.answer table known checked)
