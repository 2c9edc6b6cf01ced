-- Values of the code, without where they lie in memory.
use Rattle.serde_json.specs.View.{view}
use Rattle.ds_doc.specs.declared.spot.Spot.{Spot as CodeSpot}
use Rattle.ds_doc.specs.declared.text.Named.{Named as CodeNamed}
use Rattle.ds_doc.specs.Places.{Spot}
use Rattle.ds_doc.specs.Texts.{Named}

abbrev pub seen : CodeSpot → Spot
seen s = record { at = s.at; value = view s.value.now }

abbrev pub named_seen : CodeNamed → Named
named_seen n = record { host = n.host.now; process = n.process; number = n.number; kind = n.kind }
