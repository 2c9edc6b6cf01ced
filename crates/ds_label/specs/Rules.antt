-- The rules' numbers and names.
use Rattle.std.specs.Prelude.{ℕ, List, codes}
use Rattle.ds_label.specs.declared.rule.Rule.{Rule}
use Rattle.ds_label.specs.declared.rule.Rule.TheVariants.{NotFlow, GrantNotOwned, ClearNotHeld, NoLane, NoAddress, PeerNotTrusted, LaneFull, LaneLapsed, WrongHost, WrongLabel, SenderNotTrusted, NotKnown, NoBox, NotFlowToBox, BoxFull, NotFlowToTaker, LabelRefused, NotPublic, NotHeld, KeySpent, BadCert, StoreFull, TableFull, TooLong, TooMany, Stale}

abbrev pub rule_number : Rule → ℕ
rule_number NotFlow = 1
rule_number GrantNotOwned = 2
rule_number ClearNotHeld = 3
rule_number NoLane = 4
rule_number NoAddress = 5
rule_number (PeerNotTrusted c) = 6
rule_number LaneFull = 7
rule_number LaneLapsed = 8
rule_number WrongHost = 9
rule_number WrongLabel = 10
rule_number (SenderNotTrusted c) = 11
rule_number (NotKnown c) = 12
rule_number NoBox = 13
rule_number NotFlowToBox = 14
rule_number BoxFull = 15
rule_number NotFlowToTaker = 16
rule_number LabelRefused = 17
rule_number NotPublic = 18
rule_number NotHeld = 19
rule_number KeySpent = 20
rule_number BadCert = 21
rule_number StoreFull = 22
rule_number TableFull = 23
rule_number TooLong = 24
rule_number TooMany = 25
rule_number Stale = 26

abbrev pub rule_name : Rule → List ℕ
rule_name NotFlow = codes "NotFlow"
rule_name GrantNotOwned = codes "GrantNotOwned"
rule_name ClearNotHeld = codes "ClearNotHeld"
rule_name NoLane = codes "NoLane"
rule_name NoAddress = codes "NoAddress"
rule_name (PeerNotTrusted c) = codes "PeerNotTrusted"
rule_name LaneFull = codes "LaneFull"
rule_name LaneLapsed = codes "LaneLapsed"
rule_name WrongHost = codes "WrongHost"
rule_name WrongLabel = codes "WrongLabel"
rule_name (SenderNotTrusted c) = codes "SenderNotTrusted"
rule_name (NotKnown c) = codes "NotKnown"
rule_name NoBox = codes "NoBox"
rule_name NotFlowToBox = codes "NotFlowToBox"
rule_name BoxFull = codes "BoxFull"
rule_name NotFlowToTaker = codes "NotFlowToTaker"
rule_name LabelRefused = codes "LabelRefused"
rule_name NotPublic = codes "NotPublic"
rule_name NotHeld = codes "NotHeld"
rule_name KeySpent = codes "KeySpent"
rule_name BadCert = codes "BadCert"
rule_name StoreFull = codes "StoreFull"
rule_name TableFull = codes "TableFull"
rule_name TooLong = codes "TooLong"
rule_name TooMany = codes "TooMany"
rule_name Stale = codes "Stale"
