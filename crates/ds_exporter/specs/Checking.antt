-- A lane, of which the desk has judged what is in the worker's hand.
use Rattle.std.specs.Prelude.{ℕ, Option, Some, None}
use Rattle.ds_label.specs.declared.rule.Rule.{Rule}
use Rattle.ds_cert.specs.declared.lane.LaneCert.{LaneCert}
use Rattle.ds_model.specs.Desk.{Desk, Looked}
use Rattle.ds_model.specs.ExporterRules.{sender_rule}
use Rattle.ds_model.specs.Lists.{at}
use Rattle.ds_script.specs.declared.actor.Actor.{Actor}
use Rattle.ds_desk.specs.Desks.{entered}
use Rattle.ds_lane.specs.Workers.{framed, dropped}
use Rattle.ds_scheme.specs.TheScheme.{scheme}
use Rattle.ds_exporter.specs.HostStates.{HostLane, HostState}

-- the rule by which the desk drops the messages of a lane with this certificate, if one fails
abbrev pub lane_rule : Desk → LaneCert → Option Rule
lane_rule d cert = sender_rule scheme d.addresses d.store d.moment cert.receiver cert.label

-- where none fails the hand is one frame, and else it is dropped
abbrev pub checked_as : (stamp : ℕ) → Option Rule → HostLane → HostLane
checked_as stamp None l = record l { worker = framed stamp l.worker }
checked_as stamp (Some rule) l = record l { worker = dropped stamp rule l.worker }

-- the desk enters that it was read
abbrev pub with_checked : (stamp place : ℕ) → Actor → Option Rule → HostState → HostState
with_checked stamp place who rule e = record e { desk = entered stamp who Looked e.desk; lanes = at place (checked_as stamp rule) e.lanes }
