use Rattle.std.proofs.Common.{rules}
use Rattle.std.specs.List.{take-map}
use Rattle.ds_doc.specs.Seen.{seen}
use Rattle.ds_doc.proofs.reading.basics.first.Goals as goal

pub returns-else-items-most : goal.returns-else-items-most
returns-else-items-most c = rw (take-map seen c.args.most c.args.items.now) (search rules)
