use Rattle.std.proofs.Common.{◌≡◌, drop}
use Rattle.std.specs.Prelude.{filter}
use Rattle.ds_flow.specs.Asked.{attach_each, is_integrity, spelled_chain}
use Rattle.ds_flow.proofs.attaching.attach_integrity.Given as goal

abbrev pub invariant-loop-c : goal.invariant-loop-c
invariant-loop-c l =
    record {
      certs : attach_each (spelled_chain l.initial.store.items l.now l.here) l.certs (filter is_integrity (drop l.c-index l.label)) ≡ attach_each (spelled_chain l.initial.store.items l.now l.here) l.initial.certs (filter is_integrity l.label);
      same : l.store ≡ l.initial.store;
    }
