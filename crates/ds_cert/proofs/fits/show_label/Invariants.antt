use Rattle.std.proofs.Common.{take}
use Rattle.std.specs.List.{All}
use Rattle.ds_cert.specs.Ranges.{CategoryFits}
use Rattle.ds_cert.proofs.fits.show_label.Given as goal

abbrev pub invariant-loop-member : goal.invariant-loop-member
invariant-loop-member l = All CategoryFits (take l.member-index l.members)
