use Rattle.std.proofs.Common.{◌≡◌, ◌≤◌, length, drop, vec_capacity}
use Rattle.ds_label.specs.Flow.{union, IsRising}
use Rattle.ds_label.specs.Numbers.{by_number}
use Rattle.ds_label.proofs.local_label.united.Given as goal

-- what is left joins what was written as the second joins the first
abbrev pub invariant-loop-member : goal.invariant-loop-member
invariant-loop-member l = record {
  rest : union by_number l.room.items (drop l.member-index l.second) ≡ union by_number l.first l.second;
  rising : IsRising by_number l.room.items;
  limit : length l.room.items ≤ 64;
  capacity : 64 ≤ vec_capacity l.room;
}
