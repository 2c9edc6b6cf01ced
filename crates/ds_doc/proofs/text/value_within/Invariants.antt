use Rattle.std.proofs.Common.{◌≡◌, ◌≤◌, drop}
use Rattle.ds_doc.specs.Texts.{value_of, value_from}
use Rattle.ds_doc.proofs.text.value_within.Given as goal

abbrev pub invariant-loop-digit : goal.invariant-loop-digit
invariant-loop-digit l = record {
  within : l.value ≤ l.most;
  read : value_from l.value (drop l.digit-index l.digits) ≡ value_of l.digits;
}
