use Rattle.std.proofs.Common.{ℕ, arith}
use Rattle.std.proofs.lemmas.Result.{err_from_is_err_and}
use Rattle.ds_frame.specs.declared.item.Item.{Item}
use Rattle.ds_frame.proofs.ItemLaws.{item_starts, starts_rest}
use Rattle.ds_frame.proofs.Offsets.{item_among}
use Rattle.ds_frame.proofs.Waiting.{open_below}
use Rattle.ds_frame.proofs.SteadyItems.{steady_item}
use Rattle.ds_frame.proofs.reading.item_of.Goals as goal

pub returns-in_err-item-clause-among : goal.returns-in_err-item-clause-among
returns-in_err-item-clause-among c =
    let p = err_from_is_err_and c.from_residual.result c.from_residual.ensures.1 in
    rw (p.1, p.2) (item_among (Item × ℕ) c.args.lane.now c.args.bytes.now c.in_err-item.field-0.0 (λ i. omega (arith, c.type_inv.bytes i)) c.in_err-item.ensures)

pub returns-in_err-item-clause-below : goal.returns-in_err-item-clause-below
returns-in_err-item-clause-below c =
    let p = err_from_is_err_and c.from_residual.result c.from_residual.ensures.1 in
    rw (p.1, p.2) (open_below (Item × ℕ) c.args.lane.now c.args.bytes.now c.in_err-item.field-0.0 c.in_err-item.ensures)

pub overflow_sub-result : goal.overflow_sub-result
overflow_sub-result c = omega (arith, (steady_item c.args.lane.now).shorter c.args.bytes.now (c.in_ok-item.item, c.in_ok-item.rest.now) c.in_ok-item.ensures)

pub returns-clause-gives : goal.returns-clause-gives
returns-clause-gives c =
    let starts = item_starts c.args.lane.now c.args.bytes.now (c.in_ok-item.item, c.in_ok-item.rest.now) (λ i. omega (arith, c.type_inv.bytes i)) c.in_ok-item.ensures in
    rw (starts_rest c.args.lane.now c.in_ok-item.item c.args.bytes.now c.in_ok-item.rest.now starts) c.in_ok-item.ensures

pub returns-clause-starts : goal.returns-clause-starts
returns-clause-starts c =
    let starts = item_starts c.args.lane.now c.args.bytes.now (c.in_ok-item.item, c.in_ok-item.rest.now) (λ i. omega (arith, c.type_inv.bytes i)) c.in_ok-item.ensures in
    rw (starts_rest c.args.lane.now c.in_ok-item.item c.args.bytes.now c.in_ok-item.rest.now starts) starts
