use Rattle.ds_cert.specs.Ranges.{CategoryFits, LabelFits, DelegationFits, AddressFits, LaneCertFits}
use Rattle.ds_cert.specs.Reading.{category_at, label_at, delegation_at, address_at, lane_cert_at}
use Rattle.ds_cert.specs.Spelling.{spelling_of_category, spelling_of_label, spelling_of_delegation, spelling_of_address, spelling_of_lane_cert}
use Rattle.ds_cert.proofs.Steps.{prefix_free}
use Rattle.ds_cert.proofs.RecordLaws.{is_category, is_label, is_delegation, is_address, is_lane_cert}
use Rattle.ds_cert.proofs.laws.spellings_are_prefix_free.Goals as goal

pub returns : goal.returns
returns c = record {
  category = prefix_free CategoryFits spelling_of_category category_at is_category;
  label = prefix_free LabelFits spelling_of_label label_at is_label;
  delegation = prefix_free DelegationFits spelling_of_delegation delegation_at is_delegation;
  address = prefix_free AddressFits spelling_of_address address_at is_address;
  lane = prefix_free LaneCertFits spelling_of_lane_cert lane_cert_at is_lane_cert;
}
