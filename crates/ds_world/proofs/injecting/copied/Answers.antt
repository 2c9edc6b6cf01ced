use Rattle.std.proofs.Common.{List, slice_get, sym, ap, ◌∙◌}
use Rattle.ds_world.specs.declared.route.Route.{Route}
use Rattle.ds_world.specs.Inside.{state_of}
use Rattle.ds_world.proofs.Injected.{part_some, stream_none}
use Rattle.ds_world.proofs.injecting.copied.Goals as goal

pub returns-in_default : goal.returns-in_default
returns-in_default c = c.new.ensures ∙ stream_none (state_of c.args.parts.now) c.args.conn c.args.from c.args.until
    (ap (λ (rs : List Route). slice_get rs c.args.conn) (sym c.requires.routes) ∙ (sym c.route_of.ensures ∙ c.in_default.is))

pub returns : goal.returns
returns c = part_some (state_of c.args.parts.now) c.args.conn c.args.from c.args.until c.in-Some.route c.part_of.result
    (ap (λ (rs : List Route). slice_get rs c.args.conn) (sym c.requires.routes) ∙ (sym c.route_of.ensures ∙ c.in-Some.is)) c.requires.world c.part_of.ensures
