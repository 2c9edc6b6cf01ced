use Rattle.std.proofs.Common.{sym, []}
use Rattle.ds_base.proofs.Keeping.{mark_of-Some, mark_of-None}
use Rattle.ds_base.proofs.mem_keeper.look_up.Goals as goal

pub returns-in-Some : goal.returns-in-Some
returns-in-Some c = sym (mark_of-Some c.args.marks.now c.args.name.now c.in-Some.place ([], 0) (sym c.in-Some.ensures))

pub returns-in-None : goal.returns-in-None
returns-in-None c = sym (mark_of-None c.args.marks.now c.args.name.now (sym c.in-None.ensures))
