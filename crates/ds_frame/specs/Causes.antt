-- The causes' numbers and names.
use Rattle.std.specs.Prelude.{ℕ, List, codes}
use Rattle.ds_frame.specs.declared.cause.Cause.{Cause}
use Rattle.ds_frame.specs.declared.cause.Cause.TheVariants.{Magic, HelloCount, HelloCert, HelloSignature, HelloReceiver, NoInlet, Tag, Count, Length, SignatureCount, Split, Leaf, Signature, Body}

abbrev pub cause_number : Cause → ℕ
cause_number Magic = 1
cause_number HelloCount = 2
cause_number HelloCert = 3
cause_number HelloSignature = 4
cause_number HelloReceiver = 5
cause_number NoInlet = 6
cause_number Tag = 7
cause_number Count = 8
cause_number Length = 9
cause_number SignatureCount = 10
cause_number Split = 11
cause_number Leaf = 12
cause_number Signature = 13
cause_number Body = 14

abbrev pub cause_name : Cause → List ℕ
cause_name Magic = codes "Magic"
cause_name HelloCount = codes "HelloCount"
cause_name HelloCert = codes "HelloCert"
cause_name HelloSignature = codes "HelloSignature"
cause_name HelloReceiver = codes "HelloReceiver"
cause_name NoInlet = codes "NoInlet"
cause_name Tag = codes "Tag"
cause_name Count = codes "Count"
cause_name Length = codes "Length"
cause_name SignatureCount = codes "SignatureCount"
cause_name Split = codes "Split"
cause_name Leaf = codes "Leaf"
cause_name Signature = codes "Signature"
cause_name Body = codes "Body"
