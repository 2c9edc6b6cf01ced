use Rattle.ds_cert.specs.Spelling.{spelling_of_category}
use Rattle.ds_report.proofs.hosts.spell_row.Goals as goal

pub returns : goal.returns
unfolding spelling_of_category
returns c = c.spell_category.ensures
