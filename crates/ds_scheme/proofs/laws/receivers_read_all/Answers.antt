use Rattle.ds_scheme.proofs.Received.{all_items, no_ending}
use Rattle.ds_scheme.proofs.laws.receivers_read_all.Goals as goal

pub returns-clause-items : goal.returns-clause-items
returns-clause-items c = λ here lane frames is can. all_items here lane is frames can

pub returns-clause-ending : goal.returns-clause-ending
returns-clause-ending c = λ here lane frames is can. no_ending here lane is frames can
