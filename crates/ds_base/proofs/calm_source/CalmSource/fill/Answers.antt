use Rattle.std.proofs.Common.{arith}
use Rattle.std.proofs.lemmas.Grind.{common_steps}
use Rattle.ds_base.proofs.Moves.{moved}
use Rattle.ds_base.proofs.calm_source.CalmSource.fill.Goals as goal

pub returns-clause-moved : goal.returns-clause-moved
returns-clause-moved c = grind (arith, common_steps, moved c.self.inside.at c.min-n.result c.self.inside.bytes.items c.args.room.now (omega (arith, c.min-n.ensures, c.self.invariant, c.self.inside.bytes.ok.0)))
