use Rattle.ds_cert.specs.Spelling.{signed_part_of_delegation, signed_part_of_address, signed_part_of_lane_cert}
use Rattle.ds_frame.proofs.Goods.{good_from_test, test_from_good}
use Rattle.ds_scheme.proofs.laws.good_is_signed.Goals as goal

pub returns-clause-delegation : goal.returns-clause-delegation
returns-clause-delegation c = λ d. (good_from_test d.by.0 (signed_part_of_delegation d) d.signature, test_from_good d.by.0 (signed_part_of_delegation d) d.signature)

pub returns-clause-address : goal.returns-clause-address
returns-clause-address c = λ a. (good_from_test a.exporter.0 (signed_part_of_address a) a.signature, test_from_good a.exporter.0 (signed_part_of_address a) a.signature)

pub returns-clause-lane : goal.returns-clause-lane
returns-clause-lane c = λ l. (good_from_test l.exporter.0 (signed_part_of_lane_cert l) l.signature, test_from_good l.exporter.0 (signed_part_of_lane_cert l) l.signature)
