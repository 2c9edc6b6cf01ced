use Rattle.std.proofs.Common.{◌^◌}
use Rattle.std.specs.Int.{w8, w16, w32, w64}
use Rattle.ds_wire.proofs.FieldLaws.{wide8, wide16, wide32, wide64, number_again, bytes_again}
use Rattle.ds_wire.proofs.laws.read_again.Goals as goal

pub returns : goal.returns
returns c = record {
  one = number_again w8 (2 ^ 8) wide8;
  two = number_again w16 (2 ^ 16) wide16;
  four = number_again w32 (2 ^ 32) wide32;
  eight = number_again w64 (2 ^ 64) wide64;
  counted = bytes_again;
}
