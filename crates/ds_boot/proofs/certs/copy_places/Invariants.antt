use Rattle.std.proofs.Common.{◌≡◌, ◌++◌, drop}
use Rattle.ds_boot.proofs.certs.copy_places.Given as goal

abbrev pub invariant-loop-place : goal.invariant-loop-place
invariant-loop-place l =
    l.copies ++ drop l.place-index l.places ≡ l.places
