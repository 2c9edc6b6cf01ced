-- A lane with a frame, and its receiver, with keys and signatures of LMS.
use Rattle.std.specs.Prelude.{◌≡◌, ℕ, [], ◌∷◌, replicate}
use Rattle.lms_sig.specs.Keys.{Key}
use Rattle.lms_sig.specs.Merkle.{public_key, signature}
use Rattle.lms_sig.specs.declared.params.LmsType.TheVariants.{H5}
use Rattle.lms_sig.specs.declared.params.OtsType.TheVariants.{W4}
use Rattle.ds_label.specs.declared.category.PubKey.{PubKey}
use Rattle.ds_cert.specs.declared.lane.LaneCert.{LaneCert}
use Rattle.ds_cert.specs.Spelling.{signed_part_of_lane_cert}
use Rattle.ds_msg.specs.declared.message.Message.{Message}
use Rattle.ds_model.specs.Scheme.{Hello, Framed}
use Rattle.ds_model.specs.Plan.{HostPlan, HostSetup, LanePlan, Plan, no_host, host_plan}
use Rattle.ds_desk.specs.Signing.{signing_of}
use Rattle.ds_delivery.specs.Premises.{Written, stream_with}
use Rattle.ds_scheme.specs.Receivers.{IsReceiver}
use Rattle.ds_scheme.specs.Spelled.{HasSpelledLanes}
use Rattle.ds_scheme.specs.TheScheme.{scheme}

-- a key with an identifier of 16 such bytes, and its public key
abbrev pub key_named : ℕ → Key
key_named byte = record { params = record { lms = H5; ots = W4 }; seed = []; id = replicate 16 byte }

abbrev pub public_of : Key → PubKey
public_of key = record { 0 = public_key key.params key.seed key.id }

-- the certificate of lane 1 of exporter 1 to exporter 2, for key 3, with an empty label
abbrev pub unsigned_lane : LaneCert
unsigned_lane = record { exporter = public_of (key_named 1); lane = 1; receiver = public_of (key_named 2); label = []; key = public_of (key_named 3); from = 0; until = 1; signature = [] }

-- signed at the first leaf of exporter 1's key
abbrev pub signed_lane : LaneCert
signed_lane = record unsigned_lane { signature = signature (key_named 1).params (key_named 1).seed (key_named 1).id 0 (signed_part_of_lane_cert unsigned_lane) }

abbrev pub the_lane : LanePlan
the_lane = record { cert = signed_lane; signing = signing_of (key_named 3); room = 1 }

-- the exporter, and another host, which has an inlet for the lane
abbrev pub the_sender : HostSetup
the_sender = record no_host { key = public_of (key_named 1); lanes = the_lane ∷ [] }

abbrev pub the_other : HostSetup
the_other = record no_host { key = public_of (key_named 2); inlets = record { exporter = public_of (key_named 1); lane = 1 } ∷ [] }

abbrev pub the_plan : Plan
the_plan = record { hosts = the_sender ∷ the_other ∷ []; conn_plans = [] }

-- the receiver, with the keys of both
abbrev pub the_receiver : HostPlan
the_receiver = host_plan the_plan 1

-- a frame with one message of one byte
abbrev pub the_message : Message
the_message = record { to = record { 0 = replicate 56 2 }; slot = 0; label = []; own = []; clear = []; certs = []; payload = 7 ∷ [] }

abbrev pub the_frame : Written
the_frame = record { number = 0; messages = the_message ∷ [] }

-- the plan's lanes have spellings, and the host is the lane's receiver
abbrev pub PremisesHold : Type 0
PremisesHold = HasSpelledLanes the_plan × IsReceiver the_receiver the_lane

-- it reads the lane's hello, and the frame
abbrev pub IsRead : Type 0
IsRead = scheme.items the_receiver.key the_receiver.inlets (stream_with scheme the_lane (the_frame ∷ [])) ≡ Hello signed_lane ∷ Framed 0 (the_message ∷ []) ∷ []
