use Rattle.ds_scheme.proofs.Owns.{message_again}
use Rattle.ds_scheme.proofs.Spelt.{spelling_is}
use Rattle.ds_scheme.proofs.laws.messages_have_spellings.Goals as goal

pub returns-clause-exactly : goal.returns-clause-exactly
returns-clause-exactly c = spelling_is

pub returns-clause-again : goal.returns-clause-again
returns-clause-again c = λ m e. message_again m ((spelling_is m).0 e).0
