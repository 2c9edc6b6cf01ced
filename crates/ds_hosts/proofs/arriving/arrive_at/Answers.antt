use Rattle.std.proofs.Common.{◌≤◌, length, map, arith}
use Rattle.std.proofs.lemmas.List.{length-map}
use Rattle.ds_exporter.specs.HostStates.{connection_of}
use Rattle.ds_hosts.proofs.Nothing.{none_arrive, nowhere}
use Rattle.ds_hosts.proofs.arriving.arrive_at.Goals as goal

pub returns-then-conn-len-clause-ok : goal.returns-then-conn-len-clause-ok
returns-then-conn-len-clause-ok c =
    let v = c.args.conns.now in
    let le : length (map connection_of v.items) ≤ c.args.conn = omega (arith, c.if-conn-len.true, c.len.ensures, v.ok, length-map v.items connection_of) in
    nowhere (map connection_of v.items) c.args.conn c.args.piece.now le

pub returns-then-is_empty-clause-ok : goal.returns-then-is_empty-clause-ok
returns-then-is_empty-clause-ok c = none_arrive (map connection_of c.args.conns.now.items) c.args.conn c.args.piece.now c.is_empty.result c.is_empty.ensures c.if-is_empty.true
