use Rattle.std.proofs.Common.{◌≡◌, map, refl, ap, ◌∙◌, sym, subst}
use Rattle.std.proofs.lemmas.Result.{IfOk-weaker}
use Rattle.std.specs.List.{All}
use Rattle.ds_desk.specs.Desks.{kept_of, stamp_of}
use Rattle.ds_share.specs.Entries.{AreRising, ChangeRange, SpellsDesk, desk_spelled}
use Rattle.ds_share.proofs.Entries.{are_rising}
use Rattle.ds_share.proofs.DeskRanges.{in_range}
use Rattle.ds_share.proofs.desk_history.entries_of.Goals as goal

pub returns-clause-spelled : goal.returns-clause-spelled
returns-clause-spelled c =
    let k = kept_of c.args.desk.now in
    IfOk-weaker c.spelled.result (λ v. v.items ≡ map desk_spelled c.as_slice.result.now) (λ v. SpellsDesk v.items)
    (λ v is. record { desk = k; replay = c.requires.kept; spelled = is ∙ ap (map desk_spelled) c.as_slice.ensures }) c.spelled.ensures

pub returns-clause-rising : goal.returns-clause-rising
returns-clause-rising c =
    let k = kept_of c.args.desk.now in
    IfOk-weaker c.spelled.result (λ v. v.items ≡ map desk_spelled c.as_slice.result.now) (λ v. AreRising v.items)
    (λ v is. are_rising desk_spelled stamp_of (λ e. refl) k.opening.before k.history v.items c.requires.kept.rises (is ∙ ap (map desk_spelled) c.as_slice.ensures)) c.spelled.ensures

pub spelled-requires : goal.spelled-requires
spelled-requires c =
    let k = kept_of c.args.desk.now in
    subst (All (λ entry. ChangeRange entry.act)) (sym c.as_slice.ensures)
    (in_range k c.requires.kept (rw c.list.ensures at c.as_slice-kept.ensures.store.ranges) c.as_slice-addresses.ensures.store.ranges)
