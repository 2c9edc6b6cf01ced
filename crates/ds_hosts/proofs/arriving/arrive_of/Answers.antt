use Rattle.std.proofs.Common.{◌≤◌, List, length, ap, arith}
use Rattle.std.proofs.lemmas.List.{length-map}
use Rattle.ds_inlet.specs.Connections.{Connection}
use Rattle.ds_exporter.specs.HostStates.{connection_of}
use Rattle.ds_hosts.proofs.Nothing.{nowhere}
use Rattle.ds_hosts.proofs.arriving.arrive_of.Goals as goal

pub returns-then-conn-len-clause-ok : goal.returns-then-conn-len-clause-ok
returns-then-conn-len-clause-ok c =
    let e = c.args.exporter.now in
    let v = c.conns.result.now in
    let le : length e.conns ≤ c.args.conn = omega (arith, c.if-conn-len.true, c.len.ensures, v.ok, length-map v.items connection_of, ap length c.conns.ensures) in
    ap (λ (ks : List Connection). record e { conns = ks }) (nowhere e.conns c.args.conn c.args.piece.now le)
