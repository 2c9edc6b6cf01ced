use Rattle.std.proofs.Common.{◌≤◌, length, refl, ap, arith}
use Rattle.std.proofs.lemmas.List.{length-map}
use Rattle.ds_exporter.specs.HostStates.{connection_of}
use Rattle.ds_hosts.proofs.Entering.{none_accepts}
use Rattle.ds_hosts.proofs.Nothing.{nothing_accepted}
use Rattle.ds_hosts.proofs.accepting.accept_of.Goals as goal

pub returns-then-conn-len-clause-ok : goal.returns-then-conn-len-clause-ok
returns-then-conn-len-clause-ok c =
    let e = c.args.exporter.now in
    let v = c.conns.result.now in
    let le : length e.conns ≤ c.args.conn = omega (arith, c.if-conn-len.true, c.len.ensures, v.ok, length-map v.items connection_of, ap length c.conns.ensures) in
    λ link. (nothing_accepted e c.args.conn link le, (λ still. refl, λ same. refl))

pub returns-then-conn-len-clause-entered : goal.returns-then-conn-len-clause-entered
returns-then-conn-len-clause-entered c =
    let e = c.args.exporter.now in
    let v = c.conns.result.now in
    let le : length e.conns ≤ c.args.conn = omega (arith, c.if-conn-len.true, c.len.ensures, v.ok, length-map v.items connection_of, ap length c.conns.ensures) in
    none_accepts e c.args.stamp c.args.conn le
