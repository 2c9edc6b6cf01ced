use Rattle.std.specs.Int.{w8, w64, to_be_bytes}
use Rattle.ds_cert.specs.Spelling.{spelling_of_address_text, signed_part_of_address}
use Rattle.ds_cert.proofs.Joins.{joined5}
use Rattle.ds_cert.proofs.address.Address.signed_with_room.Goals as goal

pub returns : goal.returns
unfolding signed_part_of_address
returns c =
    let self = c.args.self.now in
    rw (c.in_ok-put_u64-2.ensures.ok, c.in_ok-put_u64.ensures.ok, c.in_ok-append_address_text.ensures, c.in_ok-append.ensures.ok, c.in_ok-put_u8.ensures.ok, c.in_ok-out.ensures)
    (joined5 (to_be_bytes w8 2) self.exporter.0 (spelling_of_address_text self.address) (to_be_bytes w64 self.from) (to_be_bytes w64 self.until))
