use Rattle.std.proofs.Common.{◌≡◌, drop}
use Rattle.ds_chain.specs.Addresses.{find_address}
use Rattle.ds_chain.proofs.address_list.first_telling.Given as goal

abbrev pub invariant-loop-place : goal.invariant-loop-place
invariant-loop-place l = find_address l.certs l.now l.exporter ≡ find_address (drop l.place l.certs) l.now l.exporter
