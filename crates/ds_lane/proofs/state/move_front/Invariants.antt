use Rattle.std.proofs.Common.{◌≡◌, ◌++◌, ◌+◌, Bool, length, vec_len, vec_capacity}
use Rattle.ds_lane.proofs.state.move_front.Given as goal

abbrev pub invariant-loop : goal.invariant-loop
invariant-loop l =
    record {
      joined : l.moved.items ++ l.waiting.items ≡ l.initial.waiting.items;
      moved : length l.moved.items ≡ l.counter;
      size : vec_len l.moved ≡ l.counter;
      left : length l.waiting.items + l.counter ≡ length l.initial.waiting.items;
      space : vec_capacity l.moved ≡ vec_capacity l.initial.moved;
      room : l.waiting.room ≡ l.initial.waiting.room;
      ready : l.waiting.is_ready ≡ l.initial.waiting.is_ready;
    }
