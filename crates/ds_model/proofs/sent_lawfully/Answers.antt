use Rattle.ds_model.proofs.sent_lawfully.Goals as goal
use Rattle.ds_model.proofs.Sends.{sent_lawfully}

pub returns : goal.returns
returns c = sent_lawfully
