-- What a host has read stays read when more bytes come, and what was at fault stays at fault.
use Rattle.std.proofs.Common.{List, Option}
use Rattle.ds_label.specs.declared.category.PubKey.{PubKey}
use Rattle.ds_cert.specs.declared.lane.LaneCert.{LaneCert}
use Rattle.ds_frame.specs.declared.item.Item.{Item}
use Rattle.ds_frame.specs.Checks.{read_item}
use Rattle.ds_frame.specs.Laws.{IsReadByPieces}
use Rattle.ds_frame.proofs.Steady.{IsSteady, steady_then, steady_checked}
use Rattle.ds_frame.proofs.SteadyItems.{steady_item}
use Rattle.ds_frame.proofs.Pieces.{read_by_pieces}
use Rattle.ds_model.specs.Scheme.{InletName, Item as Seen}
use Rattle.ds_inlet.specs.Hosts.{host_item, host_reading}

pub steady_host : (here : PubKey) (inlets : List InletName) (lane : Option LaneCert) → IsSteady 1 (host_reading here inlets lane)
unfolding host_reading
steady_host here inlets lane = steady_then 1 (read_item lane) _ (steady_item lane) (λ (item : Item). steady_checked (host_item here inlets item) (λ (seen : Seen). item))

pub host_pieces : (here : PubKey) (inlets : List InletName) → IsReadByPieces (host_reading here inlets)
host_pieces here inlets = read_by_pieces (host_reading here inlets) (steady_host here inlets)
