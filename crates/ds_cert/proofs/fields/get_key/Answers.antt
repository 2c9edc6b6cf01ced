use Rattle.std.proofs.Common.{sym}
use Rattle.ds_wire.proofs.FieldLaws.{bytes_spelt}
use Rattle.ds_cert.proofs.fields.get_key.Goals as goal

pub copy_from_slice-requires : goal.copy_from_slice-requires
copy_from_slice-requires c = sym (bytes_spelt 56 c.args.input.now c.in-Ok.front.now c.in-Ok.rest.now c.in-Ok.ensures).1
