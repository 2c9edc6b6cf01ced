use Rattle.std.proofs.Common.{◌≡◌, drop}
use Rattle.std.specs.Prelude.{map, filter_map, slice_get}
use Rattle.ds_cert.specs.Spelling.{spelling_of_delegation}
use Rattle.ds_model.specs.ExporterRules.{attach_all}
use Rattle.ds_flow.proofs.attaching.attach_places.Given as goal

abbrev pub invariant-loop-place : goal.invariant-loop-place
invariant-loop-place l = attach_all l.certs (map spelling_of_delegation (filter_map (slice_get l.store.items) (drop l.place-index l.places))) ≡ attach_all l.initial.certs (map spelling_of_delegation (filter_map (slice_get l.store.items) l.places))
