use Rattle.std.proofs.Common.{◌<◌, sym, subst, ◌∙◌}
use Rattle.ds_inlet.specs.Inlets.{InletWithCapacity}
use Rattle.ds_exporter.proofs.Places.{set_stands, some_is}
use Rattle.ds_exporter.proofs.accepting.reserve_inlet.Goals as goal

pub returns-clause-room : goal.returns-clause-room
returns-clause-room c = λ i h. subst (λ (x : InletWithCapacity). 0 < x.spare) (some_is c.reserve.new.self i (sym (set_stands c.args.inlets.now.items c.args.place c.reserve.new.self c.requires) ∙ h)) c.in_ok-reserve.ensures.room
