use Rattle.std.proofs.Common.{◌∙◌}
use Rattle.ds_world.specs.Inside.{state_of}
use Rattle.ds_world.specs.Afters.{counted}
use Rattle.ds_world.proofs.Injected.{copies}
use Rattle.ds_world.proofs.injecting.copy.Goals as goal

pub returns-clause-ok : goal.returns-clause-ok
returns-clause-ok c = copies (state_of c.args.parts.now) (counted c.args.parts.now.count (state_of c.inject.new.parts)) c.args.conn c.args.source c.args.from c.args.until c.as_slice.result.now c.inject.result
    (c.as_slice.ensures ∙ c.in_ok-bytes.ensures) c.inject.ensures.ok
