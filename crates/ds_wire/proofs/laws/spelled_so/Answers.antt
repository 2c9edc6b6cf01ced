use Rattle.std.proofs.Common.{◌^◌}
use Rattle.std.specs.Int.{w8, w16, w32, w64}
use Rattle.ds_wire.proofs.FieldLaws.{wide8, wide16, wide32, wide64, number_spelt, bytes_spelt}
use Rattle.ds_wire.proofs.laws.spelled_so.Goals as goal

pub returns : goal.returns
returns c = record {
  one = number_spelt w8 (2 ^ 8) wide8;
  two = number_spelt w16 (2 ^ 16) wide16;
  four = number_spelt w32 (2 ^ 32) wide32;
  eight = number_spelt w64 (2 ^ 64) wide64;
  counted = bytes_spelt;
}
