use Rattle.std.proofs.Common.{◌≡◌, ◌++◌, take}
use Rattle.std.specs.List.{flat_map}
use Rattle.ds_cert.specs.Spelling.{spelling_of_category}
use Rattle.ds_cert.proofs.writing.append_members.Given as goal

abbrev pub invariant-loop-member : goal.invariant-loop-member
invariant-loop-member l = l.out ≡ l.initial.out ++ flat_map spelling_of_category (take l.member-index l.members)
