use Rattle.std.proofs.Common.{sym, ap, length, ◌∙◌}
use Rattle.ds_hosts.proofs.Places.{count_there, read_at}
use Rattle.ds_hosts.proofs.reading.count_at.Goals as goal

pub returns-in-Some : goal.returns-in-Some
returns-in-Some c =
    let there = read_at c.args.conns.now.items c.deref.result.now c.args.place c.in-Some.conn.now c.deref.ensures.value c.in-Some.ensures.lookup.0 c.in-Some.ensures.lookup.1 in
    ap length (c.arrived.ensures ∙ sym (count_there c.args.conns.now.items c.args.place c.in-Some.conn.now there))
