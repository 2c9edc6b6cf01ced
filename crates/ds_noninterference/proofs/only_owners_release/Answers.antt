use Rattle.ds_noninterference.proofs.only_owners_release.Goals as goal
use Rattle.ds_noninterference.proofs.Owners.{only_owners, only_owners_act}

pub returns-clause-releases : goal.returns-clause-releases
returns-clause-releases c = only_owners

pub returns-clause-acts : goal.returns-clause-acts
returns-clause-acts c = only_owners_act
