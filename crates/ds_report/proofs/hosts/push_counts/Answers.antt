use Rattle.std.proofs.Common.{◌≡◌, length}
use Rattle.std.specs.Prelude.{codes, decimal}
use Rattle.std.proofs.lemmas.Result.{on_ok_weaker}
use Rattle.ds_report.proofs.Spelt.{three}
use Rattle.ds_report.proofs.hosts.push_counts.Goals as goal

pub returns : goal.returns
returns c =
    let store : c.len.result ≡ length c.args.desk.now.store.items = c.len.ensures.count in
    let addresses : c.len-2.result ≡ length c.args.desk.now.addresses.items = c.len-2.ensures.count in
    let rows : c.len-3.result ≡ length c.args.desk.now.table.rows = c.len-3.ensures.count in
    rw (← store, ← addresses, ← rows)
    (on_ok_weaker c.push_counted-3.result (three c.args.out.now.items c.push_counted.new.out.items c.push_counted-2.new.out.items c.push_counted-3.new.out.items
    (codes " store ") (decimal c.len.result) (codes " addresses ") (decimal c.len-2.result) (codes " maps ") (decimal c.len-3.result) c.in_ok-push_counted.ensures c.in_ok-push_counted-2.ensures) c.push_counted-3.ensures)
