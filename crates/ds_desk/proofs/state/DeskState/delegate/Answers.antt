use Rattle.std.proofs.Common.{◌≡◌, sym, ap, refl, subst, ◌∙◌}
use Rattle.ds_cert.specs.declared.delegation.Delegation.{Delegation}
use Rattle.ds_cert.specs.Spelling.{spelling_of_delegation}
use Rattle.ds_model.specs.Desk.{Delegated, Made, Delegating, reply_of, DeskEntry as Change}
use Rattle.ds_desk.specs.Signing.{signed_at, desk_scheme, desk_plan}
use Rattle.ds_desk.specs.Desks.{IsReplay, kept_of, entered}
use Rattle.ds_desk.proofs.Grows.{grown}
use Rattle.ds_desk.proofs.Issues.{made_entry, made_may, issued_kept}
use Rattle.ds_desk.proofs.state.DeskState.delegate.Goals as goal

pub returns-in-Ok-clause-answer : goal.returns-in-Ok-clause-answer
returns-in-Ok-clause-answer g c =
    let k = kept_of c.args.self.now in
    let none = sym c.delegate_rule.ensures ∙ c.in_default.is in
    let cert = signed_at k.key k.desk.leaf k.here c.args.category c.args.to c.args.from c.args.until in
    let made : c.signed_of.result.kept ≡ cert =
    rw (c.signed_of.ensures.kept, c.in_ok-draft.ensures.blank, c.in-Ok.ensures.ok, c.as_slice.ensures, c.in_ok-draft.ensures.part) refl in
    let spelled = c.issue.ensures.spelling ∙ c.signed_of.ensures.spelling ∙ ap spelling_of_delegation (sym c.signed_of.ensures.kept ∙ made) in
    λ s plan. ap (λ (change : Change). reply_of (desk_scheme s) (desk_plan plan k.here k.key) k.desk change) (made_entry k c.args.category c.args.to c.args.from c.args.until none s plan) ∙ ap Made (sym spelled)

pub returns-in-Ok-clause-entry : goal.returns-in-Ok-clause-entry
returns-in-Ok-clause-entry g c =
    let k = kept_of c.args.self.now in
    let none = sym c.delegate_rule.ensures ∙ c.in_default.is in
    let cert = signed_at k.key k.desk.leaf k.here c.args.category c.args.to c.args.from c.args.until in
    let made : c.signed_of.result.kept ≡ cert =
    rw (c.signed_of.ensures.kept, c.in_ok-draft.ensures.blank, c.in-Ok.ensures.ok, c.as_slice.ensures, c.in_ok-draft.ensures.part) refl in
    let after : kept_of c.issue.new.self ≡ entered c.args.stamp c.args.who (Delegated c.signed_of.result.kept) k =
    issued_kept c.args.self.now c.issue.new.self c.signed_of.result.kept c.args.stamp c.args.who
    c.issue.ensures.host.0
    c.issue.ensures.host.1
    (c.issue.ensures.store ∙ rw c.reserve-2.ensures.same refl)
    c.issue.ensures.lists.0
    (c.issue.ensures.issued ∙ rw c.reserve-3.ensures.same refl)
    c.issue.ensures.lists.1
    (c.issue.ensures.host.2 ∙ c.in-Ok.ensures.next)
    c.issue.ensures.lists.2
    (c.issue.ensures.entry ∙ rw c.reserve.ensures.same refl) in
    let all : kept_of c.issue.new.self ≡ entered c.args.stamp c.args.who (Delegated cert) k =
    after ∙ ap (λ (d : Delegation). entered c.args.stamp c.args.who (Delegated d) k) made in
    λ s plan. all ∙ ap (λ (change : Change). entered c.args.stamp c.args.who change k) (sym (made_entry k c.args.category c.args.to c.args.from c.args.until none s plan))

pub returns-in-Ok-clause-kept : goal.returns-in-Ok-clause-kept
returns-in-Ok-clause-kept g c =
    let k = kept_of c.args.self.now in
    let none = sym c.delegate_rule.ensures ∙ c.in_default.is in
    let cert = signed_at k.key k.desk.leaf k.here c.args.category c.args.to c.args.from c.args.until in
    let made : c.signed_of.result.kept ≡ cert =
    rw (c.signed_of.ensures.kept, c.in_ok-draft.ensures.blank, c.in-Ok.ensures.ok, c.as_slice.ensures, c.in_ok-draft.ensures.part) refl in
    let after : kept_of c.issue.new.self ≡ entered c.args.stamp c.args.who (Delegated c.signed_of.result.kept) k =
    issued_kept c.args.self.now c.issue.new.self c.signed_of.result.kept c.args.stamp c.args.who
    c.issue.ensures.host.0
    c.issue.ensures.host.1
    (c.issue.ensures.store ∙ rw c.reserve-2.ensures.same refl)
    c.issue.ensures.lists.0
    (c.issue.ensures.issued ∙ rw c.reserve-3.ensures.same refl)
    c.issue.ensures.lists.1
    (c.issue.ensures.host.2 ∙ c.in-Ok.ensures.next)
    c.issue.ensures.lists.2
    (c.issue.ensures.entry ∙ rw c.reserve.ensures.same refl) in
    let all : kept_of c.issue.new.self ≡ entered c.args.stamp c.args.who (Delegated cert) k =
    after ∙ ap (λ (d : Delegation). entered c.args.stamp c.args.who (Delegated d) k) made in
    subst IsReplay (sym all) (grown k c.args.stamp c.args.who (Delegated cert) c.requires.kept c.requires.later (made_may k c.args.category c.args.to c.args.from c.args.until none))

pub returns-in-Ok-clause-short : goal.returns-in-Ok-clause-short
returns-in-Ok-clause-short g c = rw c.issue.ensures.spelling c.signed_of.ensures.size
