-- The numbers of the ways in which a call ends.
use Rattle.std.specs.Prelude.{ℕ}
use Rattle.dstar.specs.declared.status.Status.{Status}
use Rattle.dstar.specs.declared.status.Status.TheVariants.{Ok, Usage, ReadFault, WriteFault, TooLong, Document, NoMemory, KeeperFault, Spent, WireFault, No}

abbrev pub code_of : Status → ℕ
code_of Ok = 0
code_of Usage = 1
code_of ReadFault = 2
code_of WriteFault = 3
code_of TooLong = 4
code_of (Document code place) = 5
code_of NoMemory = 6
code_of KeeperFault = 7
code_of Spent = 8
code_of WireFault = 9
code_of No = 10
