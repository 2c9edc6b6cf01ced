use Rattle.std.proofs.Common.{rules}
use Rattle.ds_script.proofs.Names.{apart_push}
use Rattle.ds_script.proofs.process.join_names.Goals as goal

pub returns-then-not-is_named-clause-apart : goal.returns-then-not-is_named-clause-apart
returns-then-not-is_named-clause-apart c = rw c.push_reserved.ensures.items (apart_push c.args.category c.args.local c.args.names.now.items c.requires.apart c.requires.joins (search rules))
