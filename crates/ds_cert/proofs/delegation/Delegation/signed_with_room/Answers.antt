use Rattle.std.specs.Int.{w8, w64, to_be_bytes}
use Rattle.ds_cert.specs.Spelling.{spelling_of_category, signed_part_of_delegation}
use Rattle.ds_cert.proofs.Joins.{joined6}
use Rattle.ds_cert.proofs.delegation.Delegation.signed_with_room.Goals as goal

pub returns : goal.returns
unfolding signed_part_of_delegation
returns c =
    let self = c.args.self.now in
    rw (c.in_ok-append-2.ensures.ok, c.in_ok-put_u64-2.ensures.ok, c.in_ok-put_u64.ensures.ok, c.in_ok-append.ensures.ok, c.in_ok-append_category.ensures, c.in_ok-put_u8.ensures.ok, c.in_ok-out.ensures)
    (joined6 (to_be_bytes w8 1) (spelling_of_category self.category) self.to.0 (to_be_bytes w64 self.from) (to_be_bytes w64 self.until) self.by.0)
