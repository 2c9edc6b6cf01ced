use Rattle.ds_label.specs.Numbers.{by_number}
use Rattle.ds_label.proofs.Namings.{numbers}
use Rattle.ds_label.proofs.Members.{IsRising-with_member, has-with_member}
use Rattle.ds_label.proofs.Flows.{has-Contains, Contains-has, has-union, has-minus}
use Rattle.ds_label.proofs.laws.numbers_are_sets.Goals as goal

pub returns : goal.returns
returns c = record {
  member = λ x members. (has-Contains by_number numbers x members, λ h. Contains-has by_number numbers x members h.0 h.1 h.2);
  more = has-with_member by_number numbers;
  rising = IsRising-with_member by_number numbers;
  both = has-union by_number numbers;
  less = has-minus by_number numbers;
}
