use Rattle.std.proofs.Common.{◌≡◌, ◌≤◌, [], length, drop}
use Rattle.std.specs.List.{flat_map}
use Rattle.ds_boot.specs.Desks.{delegations_for, with_delegations}
use Rattle.ds_boot.proofs.desks.store_of.Given as goal

abbrev pub invariant-loop-kept : goal.invariant-loop-kept
invariant-loop-kept l =
    record {
      kept : with_delegations l.store.items (flat_map (delegations_for l.place) (drop l.kept-index l.certs)) ≡ with_delegations [] (flat_map (delegations_for l.place) l.certs);
      few : length l.store.items ≤ l.kept-index;
    }
