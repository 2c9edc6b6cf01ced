use Rattle.std.proofs.Common.{◌≡◌, ◌∙◌, ap, ap₂, sym, map, subst}
use Rattle.std.specs.Prelude.{All}
use Rattle.ds_script.specs.declared.actor.Actor.{Actor}
use Rattle.ds_model.specs.Desk.{Looked}
use Rattle.ds_desk.specs.declared.state.DeskState.{DeskState}
use Rattle.ds_desk.specs.Desks.{DeskView, entered, kept_of}
use Rattle.ds_exporter.specs.HostStates.{HostState, box_of, connection_of, state_of}
use Rattle.ds_exporter.specs.PlainHosts.{ends_of}
use Rattle.ds_exporter.specs.Conditions.{HasHelloFirst, IsBoxNamed}
use Rattle.ds_exporter.proofs.Places.{all_get}
use Rattle.ds_exporter.proofs.DeliverPuts.{delivered}
use Rattle.ds_exporter.proofs.DeliverJudges.{arrived_judged_all, below_judged_all, changed_judged_all, ends_judged_all, enters_judged_all, fits_judged_all, others_judged_all, site_judged_all}
use Rattle.ds_exporter.proofs.exporter.Exporter.judge.Goals as goal

pub judge_at-requires-clause-table : goal.judge_at-requires-clause-table
judge_at-requires-clause-table c = subst (λ (k : DeskView). k.table ≡ k.here) (sym c.in_ok-reserve.ensures.same) c.self.invariant.desk.table

pub judge_at-requires-clause-named : goal.judge_at-requires-clause-named
judge_at-requires-clause-named c =
    subst (λ (k : DeskView). All (IsBoxNamed k.here k.desk.rows) (map box_of c.self.inside.parts.boxes.items)) (sym c.in_ok-reserve.ensures.same) c.self.invariant.named_boxes

pub judge_at-requires-clause-ready : goal.judge_at-requires-clause-ready
judge_at-requires-clause-ready c =
    let e = state_of c.self.inside.parts in
    let ready = rw (← c.self.view_is) at c.requires.ready in
    λ k h. ((ready k h).1, all_get HasHelloFirst e.conns c.args.place k c.self.invariant.hellos h)

pub invariant_of-self-2 : goal.invariant_of-self-2
invariant_of-self-2 c =
    let e = state_of c.self.inside.parts in
    let within = rw (← c.self.view_is) at c.requires.there in
    let ready = rw (← c.self.view_is) at c.requires.ready in
    fits_judged_all e c.args.place c.args.stamp c.who_at-who.result (kept_of c.reserve.new.self) (kept_of c.look.new.self) (map connection_of c.judge_at.new.conns.items) within (λ k h. ready k h) c.self.invariant
    c.in_ok-reserve.ensures.same (c.look.ensures.entry ∙ ap (λ (d : DeskState). entered c.args.stamp c.who_at-who.result Looked (kept_of d)) c.in_ok-judge_at.ensures.same) (λ k h. c.in_ok-judge_at.ensures.ok k h) c.look.ensures.kept

pub returns-clause-ends : goal.returns-clause-ends
returns-clause-ends c =
    let e = state_of c.self.inside.parts in
    let within = rw (← c.self.view_is) at c.requires.there in
    let ready = rw (← c.self.view_is) at c.requires.ready in
    λ link. subst (λ (s : HostState). ends_of link c.args.place (record e { desk = kept_of c.look.new.self; conns = map connection_of c.judge_at.new.conns.items }) ≡ delivered s c.args.place link) c.self.view_is
    (ends_judged_all e c.args.place c.args.stamp c.who_at-who.result (kept_of c.reserve.new.self) (kept_of c.look.new.self) (map connection_of c.judge_at.new.conns.items) within (λ k h. ready k h) c.self.invariant
    c.in_ok-reserve.ensures.same (c.look.ensures.entry ∙ ap (λ (d : DeskState). entered c.args.stamp c.who_at-who.result Looked (kept_of d)) c.in_ok-judge_at.ensures.same) (λ k h. c.in_ok-judge_at.ensures.ok k h) link)

pub returns-clause-changed : goal.returns-clause-changed
returns-clause-changed c =
    let e = state_of c.self.inside.parts in
    let within = rw (← c.self.view_is) at c.requires.there in
    let ready = rw (← c.self.view_is) at c.requires.ready in
    rw (← c.self.view_is) (λ link. changed_judged_all e c.args.place c.args.stamp c.who_at-who.result (kept_of c.reserve.new.self) (kept_of c.look.new.self) (map connection_of c.judge_at.new.conns.items) within (λ k h. ready k h) c.self.invariant
    c.in_ok-reserve.ensures.same (c.look.ensures.entry ∙ ap (λ (d : DeskState). entered c.args.stamp c.who_at-who.result Looked (kept_of d)) c.in_ok-judge_at.ensures.same) (λ k h. c.in_ok-judge_at.ensures.ok k h) link)

pub returns-clause-others : goal.returns-clause-others
returns-clause-others c =
    let e = state_of c.self.inside.parts in
    let within = rw (← c.self.view_is) at c.requires.there in
    let ready = rw (← c.self.view_is) at c.requires.ready in
    rw (← c.self.view_is) (λ other apart. others_judged_all e c.args.place c.args.stamp c.who_at-who.result (kept_of c.reserve.new.self) (kept_of c.look.new.self) (map connection_of c.judge_at.new.conns.items) within (λ k h. ready k h) c.self.invariant
    c.in_ok-reserve.ensures.same (c.look.ensures.entry ∙ ap (λ (d : DeskState). entered c.args.stamp c.who_at-who.result Looked (kept_of d)) c.in_ok-judge_at.ensures.same) (λ k h. c.in_ok-judge_at.ensures.ok k h) other apart)

pub returns-clause-arrived : goal.returns-clause-arrived
returns-clause-arrived c =
    let e = state_of c.self.inside.parts in
    let within = rw (← c.self.view_is) at c.requires.there in
    let ready = rw (← c.self.view_is) at c.requires.ready in
    rw (← c.self.view_is) (arrived_judged_all e c.args.place c.args.stamp c.who_at-who.result (kept_of c.reserve.new.self) (kept_of c.look.new.self) (map connection_of c.judge_at.new.conns.items) within (λ k h. ready k h) c.self.invariant
    c.in_ok-reserve.ensures.same (c.look.ensures.entry ∙ ap (λ (d : DeskState). entered c.args.stamp c.who_at-who.result Looked (kept_of d)) c.in_ok-judge_at.ensures.same) (λ k h. c.in_ok-judge_at.ensures.ok k h))

pub returns-clause-site : goal.returns-clause-site
returns-clause-site c =
    let e = state_of c.self.inside.parts in
    let within = rw (← c.self.view_is) at c.requires.there in
    let ready = rw (← c.self.view_is) at c.requires.ready in
    rw (← c.self.view_is) (site_judged_all e c.args.place c.args.stamp c.who_at-who.result (kept_of c.reserve.new.self) (kept_of c.look.new.self) (map connection_of c.judge_at.new.conns.items) within (λ k h. ready k h) c.self.invariant
    c.in_ok-reserve.ensures.same (c.look.ensures.entry ∙ ap (λ (d : DeskState). entered c.args.stamp c.who_at-who.result Looked (kept_of d)) c.in_ok-judge_at.ensures.same) (λ k h. c.in_ok-judge_at.ensures.ok k h))

pub returns-clause-stamps : goal.returns-clause-stamps
returns-clause-stamps c =
    let e = state_of c.self.inside.parts in
    let within = rw (← c.self.view_is) at c.requires.there in
    let ready = rw (← c.self.view_is) at c.requires.ready in
    let below = rw (← c.self.view_is) at c.requires.later in
    below_judged_all e c.args.place c.args.stamp c.who_at-who.result (kept_of c.reserve.new.self) (kept_of c.look.new.self) (map connection_of c.judge_at.new.conns.items) within (λ k h. ready k h) c.self.invariant
    c.in_ok-reserve.ensures.same (c.look.ensures.entry ∙ ap (λ (d : DeskState). entered c.args.stamp c.who_at-who.result Looked (kept_of d)) c.in_ok-judge_at.ensures.same) (λ k h. c.in_ok-judge_at.ensures.ok k h) below c.look.ensures.last

pub returns-clause-looked : goal.returns-clause-looked
returns-clause-looked c =
    rw (← c.self.view_is)
    (λ k h. (c.look.ensures.entry ∙ ap (λ (d : DeskState). entered c.args.stamp c.who_at-who.result Looked (kept_of d)) c.in_ok-judge_at.ensures.same) ∙ ap₂ (λ (who : Actor) (d : DeskView). entered c.args.stamp who Looked d) (c.who_at-who.ensures k h) c.in_ok-reserve.ensures.same)

pub returns-clause-entered : goal.returns-clause-entered
returns-clause-entered c =
    let e = state_of c.self.inside.parts in
    let within = rw (← c.self.view_is) at c.requires.there in
    let ready = rw (← c.self.view_is) at c.requires.ready in
    rw (← c.self.view_is) (λ link k there. enters_judged_all e c.args.place c.args.stamp c.who_at-who.result (kept_of c.reserve.new.self) (kept_of c.look.new.self) (map connection_of c.judge_at.new.conns.items) within (λ k h. ready k h) c.self.invariant
    c.in_ok-reserve.ensures.same (c.look.ensures.entry ∙ ap (λ (d : DeskState). entered c.args.stamp c.who_at-who.result Looked (kept_of d)) c.in_ok-judge_at.ensures.same) (λ k h. c.in_ok-judge_at.ensures.ok k h) k there (c.who_at-who.ensures k there) link)
