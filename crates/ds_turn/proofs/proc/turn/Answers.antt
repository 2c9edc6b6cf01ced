use Rattle.std.proofs.Common.{rules, ◌≡◌, None}
use Rattle.ds_turn.specs.Nodes.{seen_of}
use Rattle.ds_turn.proofs.ProcTurned.{not_ran, turned, with_hand}
use Rattle.ds_turn.proofs.proc.turn.Goals as goal

pub returns-clause-ok : goal.returns-clause-ok
returns-clause-ok g c =
    let site = seen_of c.args.node.now in
    let a = c.args.process.now.proc in
    let empty : a.hand ≡ None = search rules in
    let same = not_ran a c.inner_turn.new.process.proc c.in_ok-made.field-0 c.in_ok-made.ensures.ok c.in_default.is in
    with_hand site a c.outer_turn.new.process.proc c.in_ok-made-2.made empty
    (turned site a c.inner_turn.new.process.proc c.outer_turn.new.process.proc c.in_ok-made-2.made same c.in_ok-made-2.ensures.ok)
