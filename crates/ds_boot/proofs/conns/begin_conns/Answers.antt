use Rattle.ds_boot.proofs.Lists.{joined_step}
use Rattle.ds_exporter.specs.HostStates.{connection_of}
use Rattle.ds_boot.specs.Parts.{conn_begun}
use Rattle.std.proofs.Common.{[], map, refl}
use Rattle.ds_boot.proofs.conns.begin_conns.Goals as goal

pub loop-number-preserved : goal.loop-number-preserved
loop-number-preserved c = joined_step (conn_begun c.args.place c.args.key c.args.names.now) c.args.ends.now c.loop-number.number _ _ [] (map connection_of c.loop-number.conns.items) (map connection_of c.push_conn.new.conns.items) c.loop-number-test.true refl c.in_ok-push_conn.ensures c.loop-number.invariant
