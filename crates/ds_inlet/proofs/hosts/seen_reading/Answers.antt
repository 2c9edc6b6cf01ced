use Rattle.std.proofs.Common.{ℕ, drop}
use Rattle.std.proofs.lemmas.Result.{err_from_is_err_and}
use Rattle.ds_inlet.specs.declared.hosts.Seen.{Seen}
use Rattle.ds_inlet.specs.ItemInside.{seen_of}
use Rattle.ds_inlet.proofs.ForHost.{for_host}
use Rattle.ds_inlet.proofs.Places.{host_among}
use Rattle.ds_inlet.proofs.hosts.seen_reading.Goals as goal

pub returns-clause-host : goal.returns-clause-host
returns-clause-host c = for_host c.args.here.now c.args.inlets.now c.args.lane.now c.args.bytes.now (c.in_ok-item.item, drop c.in_ok-item.size c.args.bytes.now) (seen_of c.in_ok-seen.seen) c.in_ok-item.ensures.gives c.in_ok-seen.ensures.gives

pub returns-in_err-seen-clause-among : goal.returns-in_err-seen-clause-among
returns-in_err-seen-clause-among c =
    let p = err_from_is_err_and c.from_residual-in_err-seen.result c.from_residual-in_err-seen.ensures.1 in
    rw (p.1, p.2) (host_among (Seen × ℕ) c.args.here.now c.args.inlets.now c.args.lane.now c.in_ok-item.item c.args.bytes.now (drop c.in_ok-item.size c.args.bytes.now) c.in_err-seen.field-0.0 c.in_ok-item.ensures.starts c.in_err-seen.ensures.gives)
