use Rattle.std.specs.Int.{w8, w32, w64, to_be_bytes}
use Rattle.ds_cert.specs.Spelling.{spelling_of_label, signed_part_of_lane_cert}
use Rattle.ds_cert.proofs.Joins.{joined8}
use Rattle.ds_cert.proofs.lane.LaneCert.signed_with_room.Goals as goal

pub returns : goal.returns
unfolding signed_part_of_lane_cert
returns c =
    let self = c.args.self.now in
    rw (c.in_ok-put_u64-2.ensures.ok, c.in_ok-put_u64.ensures.ok, c.in_ok-append-3.ensures.ok, c.in_ok-append_label.ensures, c.in_ok-append-2.ensures.ok, c.in_ok-put_u32.ensures.ok, c.in_ok-append.ensures.ok, c.in_ok-put_u8.ensures.ok, c.in_ok-out.ensures)
    (joined8 (to_be_bytes w8 3) self.exporter.0 (to_be_bytes w32 self.lane) self.receiver.0 (spelling_of_label self.label) self.key.0 (to_be_bytes w64 self.from) (to_be_bytes w64 self.until))
