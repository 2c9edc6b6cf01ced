-- How `gen N` ends: what was written, by the output alone.
use Rattle.std.specs.Prelude.{◌≡◌, ℕ, List, Option}
use Rattle.ds_base.specs.Counts.{Rose, Appended}
use Rattle.ds_gen.specs.Generated.{generated}
use Rattle.ds_summary.specs.Runs.{IsSummaryOf}
use Rattle.dstar.specs.declared.status.Status.{Status}
use Rattle.dstar.specs.declared.status.Status.TheVariants as ends
use Rattle.dstar.specs.Outside.{WroteFront}

-- the summary of the generated document's run was written
pub record WroteSummary (number : ℕ) (written after : Option (List ℕ)) : Type 0 where
  pub summary : List ℕ
  pub is : IsSummaryOf number (generated number) summary
  pub wrote : Appended written summary after

-- the output failed, and some front of the summary was written
pub record StoppedSummary (number : ℕ) (written after : Option (List ℕ)) (faults faults' : ℕ) : Type 0 where
  pub summary : List ℕ
  pub is : IsSummaryOf number (generated number) summary
  pub failed : Rose faults faults'
  pub wrote : WroteFront written summary after

abbrev pub SummaryCaused : (number : ℕ) → (written after : Option (List ℕ)) → (faults faults' : ℕ) → Status → Type 0
SummaryCaused number written after faults faults' ends.Ok = WroteSummary number written after
SummaryCaused number written after faults faults' ends.WriteFault = StoppedSummary number written after faults faults'
SummaryCaused number written after faults faults' ends.NoMemory = after ≡ written
SummaryCaused number written after faults faults' ends.Usage = ⊥
SummaryCaused number written after faults faults' ends.ReadFault = ⊥
SummaryCaused number written after faults faults' ends.TooLong = ⊥
SummaryCaused number written after faults faults' (ends.Document code place) = ⊥
SummaryCaused number written after faults faults' ends.KeeperFault = ⊥
SummaryCaused number written after faults faults' ends.Spent = ⊥
SummaryCaused number written after faults faults' ends.WireFault = ⊥
SummaryCaused number written after faults faults' ends.No = ⊥
