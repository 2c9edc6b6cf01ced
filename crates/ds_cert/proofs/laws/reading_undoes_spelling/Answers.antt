use Rattle.ds_cert.proofs.RecordLaws.{is_category, is_label, is_delegation, is_address, is_lane_cert}
use Rattle.ds_cert.proofs.laws.reading_undoes_spelling.Goals as goal

pub returns : goal.returns
returns c = record { category = is_category; label = is_label; delegation = is_delegation; address = is_address; lane = is_lane_cert }
