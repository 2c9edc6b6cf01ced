use Rattle.ds_merge.proofs.OnlyList.{is_merged, is_only}
use Rattle.ds_merge.proofs.laws.merged_once.Goals as goal

pub returns-clause-is : goal.returns-clause-is
returns-clause-is c = is_merged

pub returns-clause-only : goal.returns-clause-only
returns-clause-only c = is_only
