use Rattle.std.proofs.Common.{◌≡◌, ◌++◌, take}
use Rattle.ds_report.specs.Printings.{printing_of, planned}
use Rattle.ds_report.specs.Words.{members_behind}
use Rattle.ds_report.proofs.names.push_members.Given as goal

abbrev pub invariant-loop-member : goal.invariant-loop-member
invariant-loop-member l = l.out.items ≡ l.initial.out.items ++ members_behind (printing_of l.doc) (planned l.doc) (take l.member-index l.members)
