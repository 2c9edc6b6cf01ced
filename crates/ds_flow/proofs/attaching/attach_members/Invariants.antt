use Rattle.std.proofs.Common.{◌≡◌, drop}
use Rattle.ds_flow.specs.Asked.{attach_each, spelled_chain}
use Rattle.ds_flow.proofs.attaching.attach_members.Given as goal

abbrev pub invariant-loop-c : goal.invariant-loop-c
invariant-loop-c l =
    record {
      certs : attach_each (spelled_chain l.initial.store.items l.now l.here) l.certs (drop l.c-index l.members) ≡ attach_each (spelled_chain l.initial.store.items l.now l.here) l.initial.certs l.members;
      same : l.store ≡ l.initial.store;
    }
