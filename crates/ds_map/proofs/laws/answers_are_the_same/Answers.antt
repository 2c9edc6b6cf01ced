use Rattle.ds_map.proofs.Numbers.{same_answers, same_rules}
use Rattle.ds_map.proofs.laws.answers_are_the_same.Goals as goal

pub returns : goal.returns
returns c = record { labels = same_answers; rules = same_rules }
