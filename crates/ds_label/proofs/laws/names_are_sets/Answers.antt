use Rattle.ds_label.specs.Names.{by_name}
use Rattle.ds_label.proofs.Namings.{names}
use Rattle.ds_label.proofs.Members.{IsRising-with_member, has-with_member}
use Rattle.ds_label.proofs.Flows.{has-Contains, Contains-has, has-union, has-minus}
use Rattle.ds_label.proofs.laws.names_are_sets.Goals as goal

pub returns : goal.returns
returns c = record {
  member = λ x members. (has-Contains by_name names x members, λ h. Contains-has by_name names x members h.0 h.1 h.2);
  more = has-with_member by_name names;
  rising = IsRising-with_member by_name names;
  both = has-union by_name names;
  less = has-minus by_name names;
}
